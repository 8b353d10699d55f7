use Rattle.std.proofs.Common.{◌≡◌, ◌<◌, ℕ, length, get_or, false}
use Rattle.std.specs.Option.{unwrap_or}
use Rattle.trail.specs.Trail.{value_in}
use Rattle.search.specs.Assumed.{positive}
use Rattle.search.proofs.decide.values_of.Given as goal

abbrev pub invariant-loop-variable : goal.invariant-loop-variable
invariant-loop-variable l = record {
  long : length l.values ≡ l.variable;
  each : (v : ℕ) → v < l.variable → get_or l.values v false ≡ unwrap_or (value_in l.trail.steps (positive v)) false;
}
