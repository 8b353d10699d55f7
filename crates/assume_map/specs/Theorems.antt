-- What mapped assumptions say of the items and the shared entries that a state took.
use Rattle.std.specs.Prelude.{◌≡◌, ℕ, ◌<◌, Bool, true, false, List, length, nat_lt, slice_index, slice_index_or}
use Rattle.std.specs.List.{list_all}
use Rattle.sat_lits.specs.Meaning.{is_true}
use Rattle.sat_lits.specs.Verdicts.{makes_true}
use Rattle.sat_lits.specs.declared.literal.Lit.{Lit}
use Rattle.sat_lits.specs.declared.literal.InLit.{InLit}
use Rattle.rebuild_stack.specs.Values.{values_of, own_value}
use Rattle.rebuild_stack.specs.Entries.{rebuild}
use Rattle.state_laws.specs.State.{outer_part, widen}
use Rattle.state_laws.specs.Conditions.{Takable}
use Rattle.state_laws.specs.Theorems.{Fits}
use Rattle.state_laws.specs.Held.{own_of}
use Rattle.state_laws.specs.Kernel.{Kernel, state_of, Standing}
use Rattle.assume_map.specs.Roots.{roots}
use Rattle.assume_map.specs.Mapping.{lit_at, IsReady, IsClash}
use Rattle.assume_map.specs.Failed.{AreFailedLits}

-- the assumption at a position
abbrev pub assumption_at : List Lit → ℕ → Lit
assumption_at assumptions p = slice_index_or assumptions p (record { var = record { 0 = 0 }; negative = false })

-- whether the assumptions at the positions are true
abbrev pub makes_true_at : List Bool → List Lit → List ℕ → Bool
makes_true_at values assumptions positions = list_all (λ p. is_true values (assumption_at assumptions p)) positions

-- no assignment that fits what was taken makes the assumptions at the positions of a clash true
abbrev pub ClashContradicts : Type 0
ClashContradicts = (k : Kernel) (assumptions : List Lit) (positions : List ℕ) → Standing k → Takable (state_of k) assumptions → IsClash (roots (state_of k) assumptions) positions
    → (values : List Bool) → Fits (state_of k) values → makes_true_at values assumptions positions ≡ false

-- in each assignment that fits what was taken, widened to all own variables, a literal that is left has the value of the assumption that it comes from
abbrev pub ReadyHasValues : Type 0
ReadyHasValues = (k : Kernel) (assumptions : List Lit) (lits : List InLit) (positions : List ℕ) → Standing k → Takable (state_of k) assumptions → IsReady k.maps (roots (state_of k) assumptions) lits positions
    → (values : List Bool) → Fits (state_of k) values → (i : ℕ) → i < length lits → own_value (values_of (widen values k.definitions)) (own_of k.maps (lit_at lits i)) ≡ is_true values (assumption_at assumptions (slice_index positions i))

-- own values that make the literals that are left true make every assumption true once they are rebuilt
abbrev pub ReadyIsRebuilt : Type 0
ReadyIsRebuilt = (k : Kernel) (assumptions : List Lit) (lits : List InLit) (positions : List ℕ) → Standing k → Takable (state_of k) assumptions → IsReady k.maps (roots (state_of k) assumptions) lits positions
    → (w : ℕ → Bool) → list_all (λ l. own_value w (own_of k.maps l)) lits ≡ true → makes_true (outer_part k.definitions (rebuild k.stack w)) assumptions ≡ true

-- failed literals are not all true where the assumptions at the positions are not
abbrev pub FailedContradict : Type 0
FailedContradict = (assumptions : List Lit) (positions : List ℕ) (failed : List Lit) → AreFailedLits assumptions positions failed → list_all (λ p. nat_lt p (length assumptions)) positions ≡ true
    → (values : List Bool) → makes_true_at values assumptions positions ≡ false → makes_true values failed ≡ false
