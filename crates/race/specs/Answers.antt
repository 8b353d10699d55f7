-- What a race answers.
use Rattle.std.specs.Prelude.{◌≡◌, ◌≤◌, ℕ, List, All, length, map, IfSome, IsSome}
use Rattle.std.specs.declared.option.Option.{Option}
use Rattle.sat_lits.specs.Conflicts.{own_count, enough}
use Rattle.sat_lits.specs.Meaning.{Problem}
use Rattle.sat_lits.specs.Verdicts.{IsRight}
use Rattle.sat_lits.specs.declared.literal.Lit.{Lit}
use Rattle.sat_ports.specs.Causes.{Rose}
use Rattle.share_turn.specs.declared.held.Outcome.{Outcome}
use Rattle.share_turn.specs.declared.held.Outcome.TheVariants as outcome
use Rattle.one_solver.specs.Parts.{Parts}
use Rattle.race.specs.declared.answer.RaceAnswer.{RaceAnswer}
use Rattle.race.specs.declared.answer.RaceAnswer.TheVariants.{Verdict, Interrupted, Spent, Memory}
use Rattle.race.specs.declared.ending.Ending.{Ending}
use Rattle.race.specs.declared.ending.Ending.TheVariants as ending
use Rattle.race.specs.Running.{IsSpent}

-- an outcome is a right verdict, or the alarm's count rose
abbrev pub OutcomeRight : Problem → List Lit → ℕ → ℕ → Outcome → Type 0
OutcomeRight f assumptions before now (outcome.Verdict verdict) = IsRight f assumptions verdict
OutcomeRight f assumptions before now outcome.Halted = Rose before now

-- there are as many counts as solvers, each is the conflicts of its solver, and each is the limit, which is less than enough
pub record AllSpent (limit : Option ℕ) (f : Problem) (solvers : List Parts) (counts : List ℕ) : Type 0 where
  pub many : length counts ≡ length solvers
  pub counted : counts ≡ map (λ s. s.conflicts) solvers
  pub each : All (IsSpent limit f) counts

-- an answer is a right verdict, or the alarm's count rose, or every solver spent the limit, or memory ran out
abbrev pub RacesRight : Problem → List Lit → Option ℕ → ℕ → ℕ → List Parts → RaceAnswer → Type 0
RacesRight f assumptions limit before now solvers (Verdict verdict) = IsRight f assumptions verdict
RacesRight f assumptions limit before now solvers Interrupted = Rose before now
RacesRight f assumptions limit before now solvers (Spent counts) = AllSpent limit f solvers counts
RacesRight f assumptions limit before now solvers Memory = Unit {0}

-- a limit, where there is one, is at least enough for the formula
abbrev pub IsEnoughFor : Option ℕ → Problem → Type 0
IsEnoughFor limit f = IfSome limit (λ most. enough (own_count f) ≤ most)

-- an answer is a verdict
abbrev pub IsVerdict : RaceAnswer → Type 0
IsVerdict (Verdict verdict) = Unit {0}
IsVerdict Interrupted = ⊥
IsVerdict (Spent counts) = ⊥
IsVerdict Memory = ⊥

-- an answer is a verdict, or memory ran out
abbrev pub IsDecided : RaceAnswer → Type 0
IsDecided (Verdict verdict) = Unit {0}
IsDecided Interrupted = ⊥
IsDecided (Spent counts) = ⊥
IsDecided Memory = Unit {0}

-- an answer is a verdict, or that the race was interrupted
abbrev pub IsOutcome : RaceAnswer → Type 0
IsOutcome (Verdict verdict) = Unit {0}
IsOutcome Interrupted = Unit {0}
IsOutcome (Spent counts) = ⊥
IsOutcome Memory = ⊥

-- an outcome is there, or a verdict that came late is right, or every solver spent the limit
abbrev pub Finished : Problem → List Lit → Option ℕ → List Parts → Option Outcome → Ending → Type 0
Finished f assumptions limit solvers posted ending.Over = IsSome posted
Finished f assumptions limit solvers posted (ending.Late verdict) = IsRight f assumptions verdict
Finished f assumptions limit solvers posted ending.Spent = All (λ s. IsSpent limit f s.conflicts) solvers
Finished f assumptions limit solvers posted ending.Memory = Unit {0}
