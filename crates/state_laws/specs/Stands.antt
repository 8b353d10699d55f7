-- When a state stands for the items and the shared entries that it took.
use Rattle.std.specs.Prelude.{◌≡◌, ℕ, ◌+◌, Bool, true, cond, List, length, nat_lt}
use Rattle.std.specs.declared.option.Option.{Option}
use Rattle.std.specs.List.{list_all}
use Rattle.sat_lits.specs.Truth.{clauses_value}
use Rattle.sat_lits.specs.Meaning.{IsModel, satisfies}
use Rattle.sat_lits.specs.Formulas.{names_known}
use Rattle.sat_lits.specs.declared.literal.OwnLit.{OwnLit}
use Rattle.sat_lits.specs.declared.formula.Item.{Item}
use Rattle.sat_lits.specs.declared.formula.Item.TheVariants.{Clause}
use Rattle.sat_lits.specs.declared.shared.Shared.{Shared}
use Rattle.rebuild_stack.specs.Values.{own_value, each_lit}
use Rattle.rebuild_stack.specs.Entries.{rebuild, entry_value, times_named, ordered}
use Rattle.rebuild_stack.specs.PutIn.{is_clean}
use Rattle.rebuild_stack.specs.declared.entry.Entry.{Entry}
use Rattle.rebuild_stack.specs.declared.entry.Entry.TheVariants.{Fix, Equal, Gone}
use Rattle.state_laws.specs.declared.definition.Definition.{Definition}
use Rattle.state_laws.specs.State.{State, is_active, are_as_defined, outer_part, outer_count, satisfies_entries, problem_of, are_over_earlier}

-- own values that agree with what was taken: each private variable is as defined, and the outer part satisfies every item and every entry
pub record Agrees (definitions : List (Option Definition)) (taken : List Item) (shared : List Shared) (w : ℕ → Bool) : Type 0 where
  pub defined : are_as_defined w 0 definitions ≡ true
  pub items : list_all (satisfies (outer_part definitions w)) taken ≡ true
  pub entries : satisfies_entries (outer_part definitions w) shared ≡ true

-- own values that agree with what the state took
abbrev pub Accords : State → (ℕ → Bool) → Type 0
Accords s w = Agrees s.definitions s.items s.entries w

-- the state says nothing but what follows from what it took: where own values agree with that, all its clauses and entries hold, and there are none where it is not okay
pub record IsSound (s : State) : Type 0 where
  pub hard : (w : ℕ → Bool) → Accords s w → clauses_value (own_value w) s.hard ≡ true
  pub learned : (w : ℕ → Bool) → Accords s w → clauses_value (own_value w) s.learned ≡ true
  pub stack : (w : ℕ → Bool) → Accords s w → list_all (entry_value w) s.stack ≡ true
  pub okay : (w : ℕ → Bool) → Accords s w → s.okay ≡ true

-- the state forgot nothing: where it is okay, own values that satisfy the hard clauses are rebuilt to a model of the items taken
pub record IsComplete (s : State) : Type 0 where
  pub rebuilt : s.okay ≡ true → (w : ℕ → Bool) → clauses_value (own_value w) s.hard ≡ true → IsModel (problem_of s) (outer_part s.definitions (rebuild s.stack w))

-- where the variables stand that this test calls active, of as many as there are: clauses hold active ones only, every other one is named by exactly one entry and an active one by none, and the variables of an entry are active or named by a newer one
pub record Placed (active : ℕ → Bool) (count : ℕ) (hards learns : List (List OwnLit)) (entries : List Entry) : Type 0 where
  pub hard : each_lit (λ l. active l.var.0) hards ≡ true
  pub learned : each_lit (λ l. active l.var.0) learns ≡ true
  pub one_place : (k : ℕ) → times_named k entries + cond (active k) 1 0 ≡ cond (nat_lt k count) 1 0
  pub in_order : ordered active entries ≡ true

-- the variables of a state stand where they should
pub record IsPlaced (s : State) : Type 0 where
  pub lengths : length s.active ≡ length s.definitions
  pub placed : Placed (is_active s) (length s.definitions) s.hard s.learned s.stack

-- what was taken names outer variables that are there, and definitions name own variables made before
pub record IsInRange (s : State) : Type 0 where
  pub items : list_all (names_known (outer_count s.definitions)) s.items ≡ true
  pub entries : list_all (λ e. names_known (outer_count s.definitions) (Clause e.clause)) s.entries ≡ true
  pub definitions : are_over_earlier 0 s.definitions ≡ true

-- whether no clause of the entry has a literal twice or beside its negation
abbrev pub is_clean_entry : Entry → Bool
is_clean_entry (Fix l) = true
is_clean_entry (Equal v l) = true
is_clean_entry (Gone v cs) = list_all is_clean cs

-- no clause that the state holds has a literal twice or beside its negation
pub record HasCleanClauses (s : State) : Type 0 where
  pub hard : list_all is_clean s.hard ≡ true
  pub learned : list_all is_clean s.learned ≡ true
  pub stack : list_all is_clean_entry s.stack ≡ true

-- the state stands for what it took
pub record Stands (s : State) : Type 0 where
  pub sound : IsSound s
  pub complete : IsComplete s
  pub places : IsPlaced s
  pub ranges : IsInRange s
  pub clean : HasCleanClauses s
