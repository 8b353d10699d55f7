use Rattle.std.proofs.Common.{◌≡◌, ℕ, get_or, take, sum}
use Rattle.equiv_replace.specs.Rows.{degree}
use Rattle.equiv_replace.proofs.rows.count.Given as goal

abbrev pub invariant-loop-edge : goal.invariant-loop-edge
invariant-loop-edge l = record {
  each : (a : ℕ) → get_or l.counts a 0 ≡ degree a (take l.edge-index l.edges);
  all : sum l.counts ≡ l.edge-index;
}
