-- Failed assumptions as literals.
use Rattle.std.specs.Prelude.{◌≡◌, ℕ, ◌<◌, ◌≤◌, List, Some, slice_get, AllPairs, Contains}
use Rattle.sat_lits.specs.Verdicts.{StandAt}
use Rattle.sat_lits.specs.declared.literal.Lit.{Lit}

-- the literals at the positions, each once: they stand at rising places among the positions, none stands twice, and where one stands at a position, it is there, from no later place
pub record AreFailedLits (assumptions : List Lit) (positions : List ℕ) (failed : List Lit) : Type 0 where
  pub places : List ℕ
  pub rising : AllPairs (λ p q. p < q) places
  pub stand : StandAt assumptions places failed
  pub among : (p : ℕ) → Contains places p → Contains positions p
  pub distinct : AllPairs (λ l m. l ≡ m → ⊥) failed
  pub all : (p : ℕ) (l : Lit) → Contains positions p → slice_get assumptions p ≡ Some l → Contains failed l
  pub first : (q p : ℕ) (l : Lit) → Contains places p → Contains positions q → slice_get assumptions p ≡ Some l → slice_get assumptions q ≡ Some l → p ≤ q
