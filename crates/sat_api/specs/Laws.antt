-- Facts on answers that every crate above may cite.
use Rattle.std.proofs.Common.{◌≡◌, ℕ, zero, suc, ◌<◌, ◌≤◌, Bool, true, List, [], ◌∷◌, Some, subst, sym, ◌∙◌, refl, arith}
use Rattle.std.specs.List.{list_all, slice_get}
use Rattle.std.proofs.lemmas.Bool.{and_parts, and_from, true≢false}
use Rattle.sat_lits.specs.Conflicts.{own_count, enough}
use Rattle.sat_lits.specs.Meaning.{is_true}
use Rattle.sat_lits.specs.Verdicts.{makes_true, StandAt}
use Rattle.sat_lits.specs.declared.literal.Lit.{Lit}
use Rattle.sat_api.specs.declared.solver.Cause.TheVariants.{Limit, Alarm}
use Rattle.sat_api.specs.declared.solver.Answer.{Answer}
use Rattle.sat_api.specs.declared.solver.Answer.TheVariants.{Sat, Unsat, Unknown}
use Rattle.sat_api.specs.State.{SolverState}
use Rattle.sat_api.specs.Answers.{Answers, Decides, Completes}

-- where each element passes, so does the one at a position
pub list_all-slice_get : {X : Type 0} (p : X → Bool) (xs : List X) (i : ℕ) (x : X) → list_all p xs ≡ true → slice_get xs i ≡ Some x → p x ≡ true
list_all-slice_get p [] i x all at = absurd cc
list_all-slice_get p (y ∷ ys) zero x all at = let same : y ≡ x = cc in subst (λ z. p z ≡ true) same (and_parts _ _ all).0
list_all-slice_get p (y ∷ ys) (suc i) x all at = list_all-slice_get p ys i x (and_parts _ _ all).1 at

-- literals that stand among true ones are true
pub makes_true-StandAt : (values : List Bool) (assumptions : List Lit) (positions : List ℕ) (failed : List Lit)
    → StandAt assumptions positions failed → makes_true values assumptions ≡ true → makes_true values failed ≡ true
makes_true-StandAt values assumptions [] [] stand made = refl
makes_true-StandAt values assumptions [] (l ∷ ls) stand made = absurd stand
makes_true-StandAt values assumptions (p ∷ ps) [] stand made = absurd stand
makes_true-StandAt values assumptions (p ∷ ps) (l ∷ ls) stand made =
    and_from _ _ (list_all-slice_get (is_true values) assumptions p l made stand.0) (makes_true-StandAt values assumptions ps ls stand.1 made)

-- an answer that is told rightly comes exactly where it may
pub Answers-decides : (old new : SolverState) (assumptions : List Lit) (raised_before raised_now : ℕ) (answer : Answer) → Answers old new assumptions raised_before raised_now answer → Decides old.problem assumptions answer
Answers-decides old new assumptions raised_before raised_now Sat told = (told.values, told.right.0, told.right.1)
Answers-decides old new assumptions raised_before raised_now Unsat told =
    λ (values, model, made). true≢false (sym (makes_true-StandAt values assumptions told.right.positions told.failed told.right.places made) ∙ told.right.contradict values model)
Answers-decides old new assumptions raised_before raised_now (Unknown cause) told = tt

too_few : (m n : ℕ) → m < n → n ≤ m → ⊥
too_few m n h k = omega arith

-- an answer that is told rightly is a verdict where the limit is enough and the alarm was not raised
pub Answers-completes : (old new : SolverState) (assumptions : List Lit) (raised_before raised_now : ℕ) (answer : Answer) → Answers old new assumptions raised_before raised_now answer → Completes old raised_before raised_now answer
Answers-completes old new assumptions raised_before raised_now Sat told has quiet = tt
Answers-completes old new assumptions raised_before raised_now Unsat told has quiet = tt
Answers-completes old new assumptions raised_before raised_now (Unknown (Limit counts)) told has quiet = too_few told.spent.limit (enough (own_count old.problem)) told.spent.few (has told.spent.limit told.spent.is_limit)
Answers-completes old new assumptions raised_before raised_now (Unknown Alarm) told has quiet = quiet told.rose
