use Rattle.analyze.specs.Deciding.{AtDecisions}
use Rattle.analyze.proofs.deciding.falling_levels.Given as goal

abbrev pub invariant-back : goal.invariant-back
invariant-back l = AtDecisions l.store.held l.trail l.fn.lit l.marks l.left l.levels.items

abbrev pub decreases-back : goal.decreases-back
decreases-back l = l.left
