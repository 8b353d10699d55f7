use Rattle.std.proofs.Common.{◌≤◌, length}
use Rattle.data_sync.proofs.binaries.count_below.Given as goal

abbrev pub invariant-back : goal.invariant-back
invariant-back l = l.count ≤ length l.ids

abbrev pub decreases-back : goal.decreases-back
decreases-back l = l.count
