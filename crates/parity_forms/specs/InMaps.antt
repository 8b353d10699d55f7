-- What the parts of a state find in their tables.
use Rattle.std.specs.Prelude.{◌≡◌, ℕ, ◌||◌, Bool, true, false, not, List, [], ◌∷◌, ◌++◌, Some, map, flat_map, length, replicate, nat_le, is_some}
use Rattle.sat_lits.specs.declared.literal.InLit.{InLit}
use Rattle.sat_lits.specs.declared.literal.Own.{Own}
use Rattle.rebuild_stack.specs.Roots.{root}
use Rattle.rebuild_stack.specs.declared.entry.Entry.{Entry}
use Rattle.rebuild_stack.specs.declared.entry.Root.{Root}
use Rattle.var_maps.specs.Maps.{Maps, inner_at}
use Rattle.xor_cut.specs.Pieces.{own_var, own_vars}
use Rattle.xor_cut.specs.declared.piece.Piece.{Piece}
use Rattle.state_laws.specs.Held.{own_outer}
use Rattle.parity_forms.specs.Parities.{in_lit_of, parity_forms, number_of}
use Rattle.sat_lits.specs.declared.literal.OwnLit.{OwnLit}
use Rattle.sat_lits.specs.declared.literal.Inner.{Inner}
use Rattle.state_laws.specs.declared.definition.Definition.{Definition}
use Rattle.state_laws.specs.declared.definition.Definition.TheVariants.{Xor, And}

-- what an outer variable comes to
abbrev pub outer_root : Maps → List Entry → ℕ → Root
outer_root m s n = root s (own_outer m (record { var = record { 0 = n }; negative = false }))

-- whether a variable is active, or is to be made
abbrev pub may_be_named : Maps → Own → Bool
may_be_named m v = nat_le (length m.inners) v.0 || is_some (inner_at m v.0)

-- the clauses of a piece as they are to be stored
abbrev pub stored_forms : Maps → Piece → List (List InLit)
stored_forms m p = parity_forms in_lit_of [] (map (number_of m) p.vars) p.rhs

-- the clauses of all pieces
abbrev pub all_stored_forms : Maps → List Piece → List (List InLit)
all_stored_forms m ps = flat_map (stored_forms m) ps

-- this many private variables were made, whose inner numbers come after all
pub record HasPrivates (count : ℕ) (m n : Maps) : Type 0 where
  pub owners : n.owners ≡ m.owners ++ map Some (own_vars (length m.inners) count)
  pub active : map is_some n.inners ≡ map is_some m.inners ++ replicate count true
  pub private : map (λ o. not (is_some o)) n.outer_numbers ≡ map (λ o. not (is_some o)) m.outer_numbers ++ replicate count true
  pub outers : n.outers ≡ m.outers

-- a literal as it is stored, and its negation
abbrev pub stored_lit : Maps → OwnLit → InLit
stored_lit m l = record { var = number_of m l.var; negative = l.negative }

abbrev pub in_negated : InLit → InLit
in_negated l = record { var = l.var; negative = not l.negative }

-- the inner number that the next variable will have
abbrev pub next_number : Maps → Inner
next_number m = number_of m (own_var (length m.inners))

-- the clauses by which the next variable is the exclusive or of others, as they are to be stored
abbrev pub stored_xor : Maps → List Own → List (List InLit)
stored_xor m vars = parity_forms in_lit_of [] (map (number_of m) (vars ++ own_var (length m.inners) ∷ [])) false

-- and those by which it is true where all of some literals are
abbrev pub stored_and : Maps → List OwnLit → List (List InLit)
stored_and m lits = (in_lit_of (next_number m) false ∷ map in_negated (map (stored_lit m) lits)) ∷ map (λ l. in_lit_of (next_number m) true ∷ l ∷ []) (map (stored_lit m) lits)

abbrev pub stored_definition : Maps → Definition → List (List InLit)
stored_definition m (Xor vars) = stored_xor m vars
stored_definition m (And lits) = stored_and m lits
