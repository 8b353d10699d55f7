use Rattle.std.proofs.Common.{◌≡◌, ◌-◌, length}
use Rattle.search.specs.Assumed.{HasAssumed}
use Rattle.search.proofs.work.Work.skip_true.Given as goal

abbrev pub invariant-skip : goal.invariant-skip
invariant-skip l = record {
  assumes : HasAssumed l.self.assumptions l.self.positions l.self.next l.self.trail.steps;
  same : l.self ≡ record l.fn.self { next = l.self.next };
}

abbrev pub decreases-skip : goal.decreases-skip
decreases-skip l = length l.self.assumptions - l.self.next
