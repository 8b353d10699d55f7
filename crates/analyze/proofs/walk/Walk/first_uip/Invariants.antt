use Rattle.analyze.specs.Walks.{AtWalk}
use Rattle.analyze.proofs.walk.Walk.first_uip.Given as goal

abbrev pub invariant-back : goal.invariant-back
invariant-back l = AtWalk l.store.held l.trail l.self

abbrev pub decreases-back : goal.decreases-back
decreases-back l = l.self.left
