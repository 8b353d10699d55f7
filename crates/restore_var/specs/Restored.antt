-- Variables that were restored one after another.
use Rattle.std.specs.Prelude.{◌≡◌, ℕ, Bool, true, List, filter}
use Rattle.sat_lits.specs.declared.literal.Own.{Own}
use Rattle.state_laws.specs.State.{State}
use Rattle.removed_vars.specs.Restoring.{stays}
use Rattle.private_state.specs.Restoring.{CanRestoreAll, AreRestored}
use Rattle.restore_var.specs.Needs.{all_pass, is_closed}

-- these are the marked variables that are eliminated, in an order in which they can be restored one after another; where that is done, none of their entries is left
pub record AreMarkedGone (m : ℕ → Bool) (s : State) (vars : List Own) : Type 0 where
  pub can : CanRestoreAll vars s
  pub marked : all_pass m vars ≡ true
  pub left : (t : State) → AreRestored vars s t → t.stack ≡ filter (stays m) s.stack

-- variables were restored, all of which are marked
pub record RestoresMarked (m : ℕ → Bool) (s t : State) : Type 0 where
  pub restored : List Own
  pub moves : AreRestored restored s t
  pub marked : all_pass m restored ≡ true

-- variables were restored, and none but what these variables need: each passes any test that these pass and that is handed on to what is needed
pub record RestoresNeeded (vars : List Own) (s t : State) : Type 0 where
  pub restored : List Own
  pub moves : AreRestored restored s t
  pub needed : (p : ℕ → Bool) → all_pass p vars ≡ true → is_closed p s.stack ≡ true → all_pass p restored ≡ true
