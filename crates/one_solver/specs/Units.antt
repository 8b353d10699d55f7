-- Clauses of one literal.
use Rattle.std.specs.Prelude.{◌≡◌, Bool, true, false, not, List, [], ◌∷◌, Some, option_map}
use Rattle.std.specs.declared.option.Option.{Option}
use Rattle.std.specs.List.{list_any, list_all}
use Rattle.sat_lits.specs.declared.literal.ClauseId.{ClauseId}
use Rattle.sat_lits.specs.declared.literal.InLit.{InLit}
use Rattle.sat_lits.specs.declared.literal.OwnLit.{OwnLit}
use Rattle.rebuild_stack.specs.PutIn.{same_lit}
use Rattle.clause_store.specs.Store.{Store, Held, IsKept, clause_at, before}
use Rattle.state_laws.specs.RootTableLaws.{entry_of}
use Rattle.state_laws.specs.Kernel.{Kernel, state_of}
use Rattle.removed_vars.specs.Removed.{fixed_value}
use Rattle.one_solver.specs.declared.units.Length.{Length}
use Rattle.one_solver.specs.declared.units.Length.TheVariants as lengths
use Rattle.one_solver.specs.declared.units.Short.{Short}
use Rattle.one_solver.specs.declared.units.Short.TheVariants.{Empty, Single, End}

-- whether a clause has no literal
abbrev pub is_empty : {L : Type 0} → List L → Bool
is_empty [] = true
is_empty (l ∷ c) = false

-- whether a clause has one literal or none
abbrev pub is_short : {L : Type 0} → List L → Bool
is_short [] = true
is_short (l ∷ []) = true
is_short (l ∷ k ∷ c) = false

-- whether a clause has one literal, and it passes a test
abbrev pub is_unit : {L : Type 0} → (L → Bool) → List L → Bool
is_unit test [] = false
is_unit test (l ∷ []) = test l
is_unit test (l ∷ k ∷ c) = false

-- the length of a clause is told
abbrev pub IsLength : List InLit → Length → Type 0
IsLength lits lengths.Empty = lits ≡ []
IsLength lits (lengths.Single l) = lits ≡ l ∷ []
IsLength lits lengths.Longer = is_short lits ≡ false

-- each of these clauses has more than one literal
abbrev pub are_long : List Held → Bool
are_long held = list_all (λ h. not (is_short h.lits)) held

-- the clause of an id has this literal alone, and where the clauses before the start are long, so are those before it
pub record FindsSingle (store : Store) (start : Option ClauseId) (id : ClauseId) (l : InLit) : Type 0 where
  pub kept : IsKept store
  pub lits : option_map (λ h. h.lits) (clause_at store.held id.0) ≡ Some (l ∷ [])
  pub passed : are_long (before store.held start) ≡ true → are_long (before store.held (Some id)) ≡ true

-- some clause has no literal, or this one alone, or each clause from the start on has more
abbrev pub FindsShort : Store → Option ClauseId → Short → Type 0
FindsShort store start Empty = list_any (λ h. is_empty h.lits) store.held ≡ true
FindsShort store start (Single id l) = FindsSingle store start id l
FindsShort store start End = are_long (before store.held start) ≡ true → are_long store.held ≡ true

-- no hard clause has one literal or none
abbrev pub HasNoUnits : Kernel → Type 0
HasNoUnits k = list_all (λ c. not (is_short c)) (state_of k).hard ≡ true

-- a literal is fixed
abbrev pub IsFixed : Kernel → OwnLit → Type 0
IsFixed k l = fixed_value (entry_of l.var.0 k.stack) ≡ Some (not l.negative)

-- what was fixed is so still
abbrev pub StayFixed : Kernel → Kernel → Type 0
StayFixed old new = (l : OwnLit) → IsFixed old l → IsFixed new l

-- the literal of each hard clause of one literal was fixed
abbrev pub FixesUnits : Kernel → Kernel → Type 0
FixesUnits old new = (l : OwnLit) → list_any (is_unit (same_lit l)) (state_of old).hard ≡ true → IsFixed new l
