-- What a state that stands says of the items and the shared entries that it took.
use Rattle.std.specs.Prelude.{◌≡◌, ℕ, Bool, true, false, List, Some, slice_get}
use Rattle.sat_lits.specs.Truth.{clauses_value}
use Rattle.sat_lits.specs.Meaning.{IsModel, Follows}
use Rattle.sat_lits.specs.declared.literal.Own.{Own}
use Rattle.sat_lits.specs.declared.literal.OwnLit.{OwnLit}
use Rattle.sat_lits.specs.declared.shared.Shared.{Shared}
use Rattle.rebuild_stack.specs.Values.{values_of, own_value}
use Rattle.rebuild_stack.specs.Entries.{rebuild}
use Rattle.rebuild_stack.specs.declared.entry.Entry.TheVariants.{Fix, Equal, Gone}
use Rattle.state_laws.specs.State.{State, outer_part, problem_of, satisfies_entries, widen}
use Rattle.state_laws.specs.Stands.{Stands}

-- an outer assignment that is a model of the items taken and satisfies every shared entry taken
pub record Fits (s : State) (values : List Bool) : Type 0 where
  pub model : IsModel (problem_of s) values
  pub entries : satisfies_entries values s.entries ≡ true

-- own values of which all that the state holds is true, and the state is okay
pub record Confirms (s : State) (w : ℕ → Bool) : Type 0 where
  pub hard : clauses_value (own_value w) s.hard ≡ true
  pub learned : clauses_value (own_value w) s.learned ≡ true
  pub fixed : (at : ℕ) (l : OwnLit) → slice_get s.stack at ≡ Some (Fix l) → own_value w l ≡ true
  pub replaced : (at : ℕ) (v : Own) (l : OwnLit) → slice_get s.stack at ≡ Some (Equal v l) → w v.0 ≡ own_value w l
  pub gone : (at : ℕ) (v : Own) (clauses : List (List OwnLit)) → slice_get s.stack at ≡ Some (Gone v clauses) → clauses_value (own_value w) clauses ≡ true
  pub okay : s.okay ≡ true

-- each outer assignment that fits a state that stands confirms it, widened to all own variables
abbrev pub WidenedConfirm : Type 0
WidenedConfirm = (s : State) → Stands s → (values : List Bool) → Fits s values → Confirms s (values_of (widen values s.definitions))

-- where a state that stands is okay, own values that satisfy its hard clauses are rebuilt to a model of the items taken
abbrev pub RebuiltIsModel : Type 0
RebuiltIsModel = (s : State) → Stands s → s.okay ≡ true → (w : ℕ → Bool) → clauses_value (own_value w) s.hard ≡ true → IsModel (problem_of s) (outer_part s.definitions (rebuild s.stack w))

-- where a state that stands is not okay, and the clause of each shared entry taken follows from the items taken, these have no model
abbrev pub RefutedHasNoModel : Type 0
RefutedHasNoModel = (s : State) → Stands s → s.okay ≡ false → ((at : ℕ) (entry : Shared) → slice_get s.entries at ≡ Some entry → Follows (problem_of s) entry.clause) → (values : List Bool) → IsModel (problem_of s) values → ⊥
