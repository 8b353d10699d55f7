-- What solvers find together for a formula and assumptions.
use Rattle.std.specs.Prelude.{ℕ, List}
use Rattle.std.specs.declared.option.Option.{Option}
use Rattle.sat_lits.specs.Meaning.{Problem}
use Rattle.sat_lits.specs.Verdicts.{IsRight}
use Rattle.sat_lits.specs.declared.literal.Lit.{Lit}
use Rattle.sat_ports.specs.Causes.{Rose}
use Rattle.race.specs.declared.answer.RaceAnswer.{RaceAnswer}
use Rattle.race.specs.declared.answer.RaceAnswer.TheVariants.{Verdict, Interrupted, Spent, Memory}
use Rattle.sat_api.specs.Answers.{SpendsAll}

-- a right verdict, or the alarm was raised, or every solver spent the limit, or memory ran out
abbrev pub IsFound : Problem → List Lit → Option ℕ → ℕ → ℕ → ℕ → ℕ → ℕ → RaceAnswer → Type 0
IsFound f assumptions limit threads counted_before counted_now before now (Verdict v) = IsRight f assumptions v
IsFound f assumptions limit threads counted_before counted_now before now Interrupted = Rose before now
IsFound f assumptions limit threads counted_before counted_now before now (Spent counts) = SpendsAll limit f threads counted_before counted_now counts
IsFound f assumptions limit threads counted_before counted_now before now Memory = Unit {0}
