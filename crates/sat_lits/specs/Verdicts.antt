-- When a verdict is right.
use Rattle.std.specs.Prelude.{◌≡◌, ℕ, ◌<◌, Bool, true, false, List, [], ◌∷◌, AllPairs, slice_get, Some}
use Rattle.std.specs.List.{list_all}
use Rattle.sat_lits.specs.Meaning.{Problem, IsModel, is_true}
use Rattle.sat_lits.specs.declared.literal.Lit.{Lit}
use Rattle.sat_lits.specs.declared.verdict.Verdict.{Verdict}
use Rattle.sat_lits.specs.declared.verdict.Verdict.TheVariants.{Sat, Unsat}

-- whether all literals of a list are true
abbrev pub makes_true : List Bool → List Lit → Bool
makes_true values lits = list_all (is_true values) lits

-- the literals stand at these positions of the assumptions
abbrev pub StandAt : List Lit → List ℕ → List Lit → Type 0
StandAt assumptions [] [] = Unit {0}
StandAt assumptions (p ∷ ps) (l ∷ ls) = (slice_get assumptions p ≡ Some l) × StandAt assumptions ps ls
StandAt assumptions [] (l ∷ ls) = ⊥
StandAt assumptions (p ∷ ps) [] = ⊥

-- failed assumptions: they stand at rising positions, none stands twice, and no model makes all of them true
pub record IsFailed (f : Problem) (assumptions failed : List Lit) : Type 0 where
  pub positions : List ℕ
  pub rising : AllPairs (λ p q. p < q) positions
  pub places : StandAt assumptions positions failed
  pub distinct : AllPairs (λ l m. l ≡ m → ⊥) failed
  pub contradict : (values : List Bool) → IsModel f values → makes_true values failed ≡ false

-- a model in which every assumption is true, or assumptions that fail
abbrev pub IsRight : Problem → List Lit → Verdict → Type 0
IsRight f assumptions (Sat values) = IsModel f values × (makes_true values assumptions ≡ true)
IsRight f assumptions (Unsat failed) = IsFailed f assumptions failed
