use Rattle.std.proofs.Common.{◌≤◌, length, drop}
use Rattle.equiv_replace.proofs.Rowing.{IsFilling}
use Rattle.equiv_replace.proofs.rows.fill.Given as goal

abbrev pub invariant-down : goal.invariant-down
invariant-down l = record {
  inside : l.at ≤ length l.edges;
  filling : IsFilling l.initial.starts l.starts l.heads l.edges (drop l.at l.edges);
}

abbrev pub decreases-down : goal.decreases-down
decreases-down l = l.at
