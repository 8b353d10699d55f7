-- When a move may be made.
use Rattle.std.specs.Prelude.{◌≡◌, ℕ, ◌==◌, Bool, true, false, not, ◌||◌, List, Some, length, slice_get}
use Rattle.std.specs.declared.option.Option.{Option}
use Rattle.std.specs.List.{list_all}
use Rattle.sat_lits.specs.Truth.{clause_value, clauses_value, with_value}
use Rattle.sat_lits.specs.Meaning.{satisfies}
use Rattle.sat_lits.specs.Formulas.{names_known}
use Rattle.sat_lits.specs.declared.literal.Lit.{Lit}
use Rattle.sat_lits.specs.declared.literal.Own.{Own}
use Rattle.sat_lits.specs.declared.literal.OwnLit.{OwnLit}
use Rattle.sat_lits.specs.declared.formula.Item.{Item}
use Rattle.sat_lits.specs.declared.formula.Item.TheVariants.{Clause}
use Rattle.rebuild_stack.specs.Values.{own_value, each_lit}
use Rattle.rebuild_stack.specs.Entries.{rebuild, entry_value, named, is_gone, others_pass}
use Rattle.rebuild_stack.specs.Roots.{root, is_lost}
use Rattle.rebuild_stack.specs.PutIn.{is_clean}
use Rattle.rebuild_stack.specs.declared.entry.Entry.{Entry}
use Rattle.rebuild_stack.specs.declared.entry.Entry.TheVariants.{Gone}
use Rattle.state_laws.specs.declared.definition.Definition.{Definition}
use Rattle.state_laws.specs.State.{State, is_active, to_own, outer_part, outer_count, is_as_defined, is_over_earlier}
use Rattle.state_laws.specs.Stands.{Accords}

-- own values that satisfy the hard and the learned clauses
pub record Satisfies (s : State) (w : ℕ → Bool) : Type 0 where
  pub hard : clauses_value (own_value w) s.hard ≡ true
  pub learned : clauses_value (own_value w) s.learned ≡ true

-- the hard and the learned clauses have no solution
abbrev pub IsContradicted : State → Type 0
IsContradicted s = (w : ℕ → Bool) → Satisfies s w → ⊥

-- what an entry says follows from the hard and the learned clauses
abbrev pub EntryFollows : State → Entry → Type 0
EntryFollows s e = (w : ℕ → Bool) → Satisfies s w → entry_value w e ≡ true

-- an entry fixes or replaces an active variable, and any other variable of it is active and different
pub record Pushable (s : State) (e : Entry) : Type 0 where
  pub kept : is_gone e ≡ false
  pub active : is_active s (named e) ≡ true
  pub others : others_pass (with_value (is_active s) (named e) false) e ≡ true

-- the entry at the place is a `Gone` of the variable with these clauses, none of whose other variables comes to an eliminated one
pub record Restorable (s : State) (at : ℕ) (v : Own) (cs : List (List OwnLit)) : Type 0 where
  pub entry : slice_get s.stack at ≡ Some (Gone v cs)
  pub roots : list_all (λ c. list_all (λ l. (l.var.0 == v.0) || not (is_lost (root s.stack l))) c) cs ≡ true

-- the variables of an outer clause are there, and none comes to an eliminated one
pub record Takable (s : State) (c : List Lit) : Type 0 where
  pub there : names_known (outer_count s.definitions) (Clause c) ≡ true
  pub roots : list_all (λ l. not (is_lost (root s.stack (to_own s.definitions l)))) c ≡ true

-- a clause over active variables, none of them twice, that follows from the hard and the learned clauses
pub record Learnable (s : State) (c : List OwnLit) : Type 0 where
  pub active : list_all (λ l. is_active s l.var.0) c ≡ true
  pub clean : is_clean c ≡ true
  pub follows : (w : ℕ → Bool) → Satisfies s w → clause_value (own_value w) c ≡ true

-- clauses that stand for an item: they follow from it and what was taken, and values that they are satisfied by are rebuilt to satisfy it
pub record StandsFor (s : State) (item : Item) (cs : List (List OwnLit)) : Type 0 where
  pub there : names_known (outer_count s.definitions) item ≡ true
  pub active : each_lit (λ l. is_active s l.var.0) cs ≡ true
  pub clean : list_all is_clean cs ≡ true
  pub follow : (w : ℕ → Bool) → Accords s w → satisfies (outer_part s.definitions w) item ≡ true → clauses_value (own_value w) cs ≡ true
  pub suffice : (w : ℕ → Bool) → clauses_value (own_value w) s.hard ≡ true → clauses_value (own_value w) cs ≡ true → satisfies (outer_part s.definitions (rebuild s.stack w)) item ≡ true

-- clauses that hold where the next own variable is as defined, over it and active variables
pub record Defines (s : State) (d : Option Definition) (cs : List (List OwnLit)) : Type 0 where
  pub there : is_over_earlier (length s.definitions) d ≡ true
  pub active : each_lit (λ l. (l.var.0 == length s.definitions) || is_active s l.var.0) cs ≡ true
  pub clean : list_all is_clean cs ≡ true
  pub follow : (w : ℕ → Bool) → is_as_defined w (length s.definitions) d ≡ true → clauses_value (own_value w) cs ≡ true
