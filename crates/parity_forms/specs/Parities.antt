-- What a parity is in own variables, and what a state is after it is taken.
use Rattle.std.specs.Prelude.{◌≡◌, ℕ, ◌+◌, ◌-◌, ◌≤◌, ◌^◌, Bool, true, false, not, cond, List, [], ◌∷◌, ◌++◌, Some, None, map, filter_map, fold, flat_map, take, length, replicate, nat_lt, option_map}
use Rattle.std.specs.declared.option.Option.{Option}
use Rattle.std.specs.List.{list_all}
use Rattle.sat_lits.specs.Truth.{signed}
use Rattle.sat_lits.specs.Conflicts.{odd_vars, cuts}
use Rattle.sat_lits.specs.Formulas.{names_known}
use Rattle.sat_lits.specs.declared.literal.Var.{Var}
use Rattle.sat_lits.specs.declared.literal.Own.{Own}
use Rattle.sat_lits.specs.declared.literal.OwnLit.{OwnLit}
use Rattle.sat_lits.specs.declared.literal.Inner.{Inner}
use Rattle.sat_lits.specs.declared.literal.InLit.{InLit}
use Rattle.sat_lits.specs.declared.formula.Item.TheVariants.{Parity}
use Rattle.rebuild_stack.specs.Roots.{root, is_lost, turned}
use Rattle.rebuild_stack.specs.declared.entry.Root.{Root}
use Rattle.rebuild_stack.specs.declared.entry.Root.TheVariants.{Known, Last, Lost}
use Rattle.var_maps.specs.Maps.{Maps, inner_at, number_or}
use Rattle.xor_cut.specs.Pieces.{own_var, pieces, are_different}
use Rattle.xor_cut.specs.declared.piece.Piece.{Piece}
use Rattle.state_laws.specs.declared.definition.Definition.{Definition}
use Rattle.state_laws.specs.declared.definition.Definition.TheVariants.{Xor, And}
use Rattle.state_laws.specs.State.{State, is_active, outer_count, to_own}

-- a literal of an own variable, and of an inner one
abbrev pub lit_of : Own → Bool → OwnLit
lit_of v negative = record { var = v; negative = negative }

abbrev pub in_lit_of : Inner → Bool → InLit
in_lit_of i negative = record { var = i; negative = negative }

-- the clauses that begin with these literals and are false at the values of the variables that do not satisfy the parity
abbrev pub parity_forms : {V L : Type 0} → (V → Bool → L) → List L → List V → Bool → List (List L)
parity_forms lit front [] rhs = cond rhs (front ∷ []) []
parity_forms lit front (v ∷ vars) rhs = parity_forms lit (front ++ lit v false ∷ []) vars rhs ++ parity_forms lit (front ++ lit v true ∷ []) vars (not rhs)

-- the clauses of a parity: one for each choice of values that does not satisfy it
abbrev pub parity_clauses : List Own → Bool → List (List OwnLit)
parity_clauses vars rhs = parity_forms lit_of [] vars rhs

-- the clauses that an own variable and its definition satisfy together exactly where the variable is as defined
abbrev pub defining_clauses : ℕ → Definition → List (List OwnLit)
defining_clauses n (Xor vars) = parity_clauses (vars ++ own_var n ∷ []) false
defining_clauses n (And lits) = (lit_of (own_var n) false ∷ map (turned true) lits) ∷ map (λ l. lit_of (own_var n) true ∷ l ∷ []) lits

-- the numbers that stand an odd number of times, each once, in the order of their first places
abbrev pub odd_numbers : List ℕ → List ℕ
odd_numbers numbers = odd_vars (map (λ n. record { 0 = n }) numbers)

-- what an outer variable comes to along the stack
abbrev pub var_root : State → ℕ → Root
var_root s n = root s.stack (to_own s.definitions (record { var = record { 0 = n }; negative = false }))

-- the own number of the variable that is left, if one is
abbrev pub left_number : Root → Option ℕ
left_number (Known x) = None
left_number (Last l) = Some l.var.0
left_number (Lost v) = None

-- whether what a variable came to turns the right side: it is known to be true, or it is a negation
abbrev pub turns : Root → Bool
turns (Known x) = x
turns (Last l) = l.negative
turns (Lost v) = false

-- what the variables that stand an odd number of times come to
abbrev pub parity_roots : State → List Var → List Root
parity_roots s vars = map (var_root s) (odd_vars vars)

-- the own variables of a parity, each once
abbrev pub left_vars : List Root → List Own
left_vars roots = map own_var (odd_numbers (filter_map left_number roots))

-- its right side in own variables
abbrev pub left_rhs : List Root → Bool → Bool
left_rhs roots rhs = fold (λ b r. signed (turns r) b) rhs roots

-- the pieces that a parity is cut into, whose fresh variables are the next own ones
abbrev pub parity_pieces : State → List Var → Bool → List Piece
parity_pieces s vars rhs = pieces (left_vars (parity_roots s vars)) (left_rhs (parity_roots s vars) rhs) (length s.definitions)

-- the definition of the fresh variable of a piece: the exclusive or of the three others
abbrev pub piece_definition : Piece → Option Definition
piece_definition p = option_map (λ v. Xor (take 3 p.vars)) p.fresh

-- the definitions of all fresh variables
abbrev pub definitions_of : List Piece → List Definition
definitions_of ps = filter_map piece_definition ps

-- the clauses of all pieces
abbrev pub clauses_of : List Piece → List (List OwnLit)
clauses_of ps = flat_map (λ p. parity_clauses p.vars p.rhs) ps

-- private variables with these definitions are made, and these clauses are held
abbrev pub defining : List Definition → List (List OwnLit) → State → State
defining ds cs s = record s { definitions = s.definitions ++ map Some ds; hard = s.hard ++ cs; active = s.active ++ replicate (length ds) true }

-- a parity is taken: each fresh variable is made a private one, and each piece is held as its clauses
abbrev pub parity_taken : List Var → Bool → State → State
parity_taken vars rhs s = record (defining (definitions_of (parity_pieces s vars rhs)) (clauses_of (parity_pieces s vars rhs)) s) { items = s.items ++ Parity vars rhs ∷ [] }

-- the variables of a parity are there, none of them comes to an eliminated one, and there are numbers for as many private variables as it has cuts
pub record ParityTakable (s : State) (vars : List Var) (rhs : Bool) : Type 0 where
  pub there : names_known (outer_count s.definitions) (Parity vars rhs) ≡ true
  pub roots : list_all (λ v. not (is_lost (var_root s v.0))) vars ≡ true
  pub room : length s.definitions + cuts (Parity vars rhs) ≤ 2 ^ 31

-- the variables of a definition
abbrev pub variables_of : Definition → List Own
variables_of (Xor vars) = vars
variables_of (And lits) = map (λ l. l.var) lits

-- a definition over one to four different active variables, for which there is a number
pub record IsDefinable (s : State) (d : Definition) : Type 0 where
  pub active : list_all (λ v. is_active s v.0) (variables_of d) ≡ true
  pub different : are_different (variables_of d) ≡ true
  pub some : 1 ≤ length (variables_of d)
  pub few : length (variables_of d) ≤ 4
  pub room : length s.definitions + 1 ≤ 2 ^ 31

-- the inner number of an active variable, or the one that a variable will have that is to be made
abbrev pub number_of : Maps → Own → Inner
number_of m v = record { 0 = cond (nat_lt v.0 (length m.inners)) (number_or 0 (inner_at m v.0)) (length m.owners + (v.0 - length m.inners)) }
