use Rattle.std.proofs.Common.{length}
use Rattle.trail.proofs.Ways.{IsOnWay}
use Rattle.trail.proofs.trail.Trail.back_to.Given as goal

abbrev pub invariant-loop-self : goal.invariant-loop-self
invariant-loop-self l = IsOnWay l.level l.initial.self l.self

abbrev pub decreases-loop-self : goal.decreases-loop-self
decreases-loop-self l = length l.self.steps
