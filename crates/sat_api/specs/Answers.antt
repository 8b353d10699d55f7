-- What an answer says.
use Rattle.std.specs.Prelude.{◌≡◌, ◌⊎◌, ℕ, ◌<◌, ◌≤◌, ◌&&◌, Bool, true, false, not, cond, List, [], ◌∷◌, All, length, map, sum, count_by, nat_eq, Some, None}
use Rattle.std.specs.declared.option.Option.{Option}
use Rattle.std.specs.Option.{ForSome}
use Rattle.sat_lits.specs.Conflicts.{own_count, enough}
use Rattle.sat_lits.specs.Meaning.{Problem, IsModel, negated}
use Rattle.sat_ports.specs.Causes.{Rose, RoseBy}
use Rattle.sat_lits.specs.Verdicts.{makes_true, IsRight}
use Rattle.sat_lits.specs.declared.literal.Lit.{Lit}
use Rattle.sat_lits.specs.declared.shared.Shared.{Shared}
use Rattle.sat_lits.specs.declared.verdict.Verdict.TheVariants as verdict
use Rattle.sat_api.specs.declared.solver.Cause.TheVariants.{Limit, Alarm}
use Rattle.sat_api.specs.declared.solver.Answer.{Answer}
use Rattle.sat_api.specs.declared.solver.Answer.TheVariants.{Sat, Unsat, Unknown}
use Rattle.one_solver.specs.Parts.{Parts, problem_in}
use Rattle.race.specs.Homes.{EachPlace, IsSettledHome}
use Rattle.sat_api.specs.State.{SolverState}

-- a model that makes every assumption true is left to be read
pub record TellsModel (f : Problem) (assumptions : List Lit) (new : SolverState) : Type 0 where
  pub values : List Bool
  pub model : new.model ≡ Some values
  pub conflict : new.conflict ≡ None
  pub right : IsRight f assumptions (verdict.Sat values)

-- the clause of the negated failed assumptions is left to be read
pub record TellsConflict (f : Problem) (assumptions : List Lit) (new : SolverState) : Type 0 where
  pub failed : List Lit
  pub model : new.model ≡ None
  pub conflict : new.conflict ≡ Some (map negated failed)
  pub right : IsRight f assumptions (verdict.Unsat failed)

-- every solver counted the conflict limit that was given, which is less than enough, and the sum of their counts was added to what was counted
pub record SpendsAll (given : Option ℕ) (f : Problem) (threads before now : ℕ) (counts : List ℕ) : Type 0 where
  pub limit : ℕ
  pub is_limit : given ≡ Some limit
  pub many : length counts ≡ threads
  pub each : All (λ count. count ≡ limit) counts
  pub few : limit < enough (own_count f)
  pub rose : RoseBy (sum counts) before now

-- every solver spent the conflict limit, and nothing is left to be read
pub record TellsLimit (old new : SolverState) (counts : List ℕ) : Type 0 where
  pub spent : SpendsAll old.max_conflicts old.problem old.threads old.counted new.counted counts
  pub model : new.model ≡ None
  pub conflict : new.conflict ≡ None

-- the alarm was raised, and nothing is left to be read
pub record TellsAlarm (new : SolverState) (raised_before raised_now : ℕ) : Type 0 where
  pub rose : Rose raised_before raised_now
  pub model : new.model ≡ None
  pub conflict : new.conflict ≡ None

-- an answer is a right verdict, and its model or its conflict is left to be read, or the conflict limit was spent, or the alarm was raised
abbrev pub Answers : SolverState → SolverState → List Lit → ℕ → ℕ → Answer → Type 0
Answers old new assumptions raised_before raised_now Sat = TellsModel old.problem assumptions new
Answers old new assumptions raised_before raised_now Unsat = TellsConflict old.problem assumptions new
Answers old new assumptions raised_before raised_now (Unknown (Limit counts)) = TellsLimit old new counts
Answers old new assumptions raised_before raised_now (Unknown Alarm) = TellsAlarm new raised_before raised_now

-- a model that makes every assumption true
abbrev pub HasModelUnder : Problem → List Lit → Type 0
HasModelUnder f assumptions = (values : List Bool) × IsModel f values × (makes_true values assumptions ≡ true)

-- Sat comes where there is such a model, and Unsat where there is none
abbrev pub Decides : Problem → List Lit → Answer → Type 0
Decides f assumptions Sat = HasModelUnder f assumptions
Decides f assumptions Unsat = HasModelUnder f assumptions → ⊥
Decides f assumptions (Unknown cause) = Unit {0}

-- no conflict limit, or one that is enough to decide the formula
abbrev pub HasEnough : SolverState → Type 0
HasEnough s = ForSome s.max_conflicts (λ limit. enough (own_count s.problem) ≤ limit)

-- an answer that is not unknown
abbrev pub IsVerdict : Answer → Type 0
IsVerdict Sat = Unit {0}
IsVerdict Unsat = Unit {0}
IsVerdict (Unknown cause) = ⊥

-- where the limit is enough and the alarm was not raised, the answer is a verdict
abbrev pub Completes : SolverState → ℕ → ℕ → Answer → Type 0
Completes old raised_before raised_now answer = HasEnough old → (Rose raised_before raised_now → ⊥) → IsVerdict answer

-- whether a conflict is the empty clause
abbrev pub is_refutation : Option (List Lit) → Bool
is_refutation None = false
is_refutation (Some []) = true
is_refutation (Some (l ∷ lits)) = false

-- a solver is no longer okay where the conflict is the empty clause
abbrev pub KeepsOkay : SolverState → SolverState → Type 0
KeepsOkay old new = new.okay ≡ cond (is_refutation new.conflict) false old.okay

-- a solver that is not okay answers at once that the items contradict each other, without its solvers
pub record AnswersAtOnce (old new : SolverState) (answer : Answer) : Type 0 where
  pub answer_is : answer ≡ Unsat
  pub conflict : new.conflict ≡ Some []
  pub counted : new.counted ≡ old.counted
  pub solvers : new.solvers ≡ old.solvers
  pub shared : new.shared ≡ old.shared
  pub given_up : new.given_up ≡ 0

-- whether a solver took the whole formula
abbrev pub has_taken : Problem → Parts → Bool
has_taken f s = nat_eq (problem_in s).vars f.vars && nat_eq (length (problem_in s).items) (length f.items)

-- a solver without its conflicts
abbrev pub poured : Parts → Parts
poured s = record s { conflicts = 0 }

-- Before their conflicts were poured, each of these solvers took the whole formula and was settled with the shared clauses, or was a new one
-- in the place of one that ran out of memory, and none made more conflicts than the limit.
pub record AreSettled (limit : Option ℕ) (f : Problem) (shared : List Shared) (solvers : List Parts) : Type 0 where
  pub raced : List Parts
  pub are_poured : solvers ≡ map poured raced
  pub each : EachPlace (IsSettledHome limit f shared) raced

-- The solvers are settled with the shared clauses, and those that ran out of memory are counted.
pub record Settles (old new : SolverState) : Type 0 where
  pub many : (new.solvers ≡ []) ⊎ (length new.solvers ≡ old.threads)
  pub settled : AreSettled old.max_conflicts old.problem new.shared new.solvers
  pub given_up : new.given_up ≡ count_by (λ s. not (has_taken old.problem s)) new.solvers
