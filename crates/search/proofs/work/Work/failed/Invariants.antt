use Rattle.std.proofs.Common.{◌≡◌, take}
use Rattle.search.proofs.Failing.{positions_at}
use Rattle.search.proofs.work.Work.failed.Given as goal

abbrev pub invariant-loop-level : goal.invariant-loop-level
invariant-loop-level l = l.failed ≡ positions_at l.self.positions (take l.level-index l.level-items)
