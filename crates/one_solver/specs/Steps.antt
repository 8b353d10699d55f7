-- The intervals of a call, and what each comes to.
use Rattle.std.specs.Prelude.{◌≡◌, ℕ, ◌+◌, ◌*◌, ◌^◌, ◌<◌, ◌≤◌, Bool, true, false, List, [], Some, IfSome}
use Rattle.std.specs.declared.option.Option.{Option}
use Rattle.sat_lits.specs.Conflicts.{own_count, interval_len, intervals_len, enough}
use Rattle.sat_lits.specs.Meaning.{Problem, IsModel}
use Rattle.sat_lits.specs.Verdicts.{IsRight}
use Rattle.sat_lits.specs.declared.literal.Lit.{Lit}
use Rattle.sat_lits.specs.declared.verdict.Verdict.TheVariants as verdict
use Rattle.sat_ports.specs.Causes.{Rose}
use Rattle.one_solver.specs.Parts.{Parts, problem_in, AssumesKnown}
use Rattle.one_solver.specs.Units.{HasNoUnits}
use Rattle.one_solver.specs.Learned.{HasFewLong}
use Rattle.one_solver.specs.declared.answer.StepAnswer.{StepAnswer}
use Rattle.one_solver.specs.declared.answer.StepAnswer.TheVariants.{Verdict, IntervalOver, Spent, Asked, Memory}

-- a call whose intervals so far were made whole: its conflicts are those of these intervals, and each had fewer than there are assignments to three values of the variables; the variables of its assumptions are there
pub record IsUnderWay (s : Parts) : Type 0 where
  pub counted : s.conflicts ≡ intervals_len s.interval
  pub few : s.interval ≤ 2 ^ 20
  pub short : (j : ℕ) → j < s.interval → interval_len j < 3 ^ own_count (problem_in s)
  pub assumed : AssumesKnown s

-- after an interval the next one follows, no hard clause of a solver that is okay has one literal, and so many long
-- learned clauses are left at most
pub record IsTidy (interval : ℕ) (s : Parts) : Type 0 where
  pub next : s.interval ≡ interval + 1
  pub units : s.kernel.okay ≡ true → HasNoUnits s.kernel
  pub few_long : HasFewLong (2000 + 100 * interval) s.kernel

-- an interval was made whole, below the limit, and the solver is tidy for the next one
pub record EndsInterval (old new : Parts) (limit : Option ℕ) : Type 0 where
  pub under_way : IsUnderWay new
  pub counted : new.conflicts ≡ old.conflicts + interval_len old.interval
  pub few : old.interval < 2 ^ 20
  pub tidy : IsTidy old.interval new
  pub within : IfSome limit (λ most. new.conflicts < most)

-- the conflicts of a call are the limit, which is less than enough for a formula
pub record SpendsLimit (f : Problem) (limit : Option ℕ) (conflicts count : ℕ) : Type 0 where
  pub limit_is : limit ≡ Some count
  pub made : conflicts ≡ count
  pub few : count < enough (own_count f)

-- a stop was asked for, below the limit
pub record IsAsked (new : Parts) (limit : Option ℕ) (before now : ℕ) : Type 0 where
  pub rose : Rose before now
  pub within : IfSome limit (λ most. new.conflicts < most)

-- an answer is a right verdict, or it comes at the right number of conflicts, or a stop was asked for
abbrev pub StepsRight : Parts → Parts → Option ℕ → ℕ → ℕ → StepAnswer → Type 0
StepsRight old new limit before now (Verdict v) = IsRight (problem_in old) old.assumptions v
StepsRight old new limit before now IntervalOver = EndsInterval old new limit
StepsRight old new limit before now (Spent count) = SpendsLimit (problem_in old) limit new.conflicts count
StepsRight old new limit before now Asked = IsAsked new limit before now
StepsRight old new limit before now Memory = Unit {0}

-- no assignment satisfies every item
abbrev pub HasNoModel : Problem → Type 0
HasNoModel f = (values : List Bool) → IsModel f values → ⊥

-- an answer is a right verdict, or memory ran out
abbrev pub IsVerdictOrNone : Problem → List Lit → StepAnswer → Type 0
IsVerdictOrNone f assumptions (Verdict v) = IsRight f assumptions v
IsVerdictOrNone f assumptions IntervalOver = ⊥
IsVerdictOrNone f assumptions (Spent count) = ⊥
IsVerdictOrNone f assumptions Asked = ⊥
IsVerdictOrNone f assumptions Memory = Unit {0}

-- an answer is that the interval is over, or memory ran out
abbrev pub IsOverOrNone : StepAnswer → Type 0
IsOverOrNone (Verdict v) = ⊥
IsOverOrNone IntervalOver = Unit {0}
IsOverOrNone (Spent count) = ⊥
IsOverOrNone Asked = ⊥
IsOverOrNone Memory = Unit {0}

-- where the solver is not okay, the verdict is that there is no model
abbrev pub IsRefuted : Parts → StepAnswer → Type 0
IsRefuted s answer = s.kernel.okay ≡ false → answer ≡ Verdict (verdict.Unsat [])
