use Rattle.std.proofs.Common.{◌≡◌, take, true}
use Rattle.propagate.specs.Units.{false_clause}
use Rattle.propagate.proofs.table.first_open.Given as goal

abbrev pub invariant-loop-lit : goal.invariant-loop-lit
invariant-loop-lit l = false_clause l.trail.steps (take l.lit-index l.lits) ≡ true
