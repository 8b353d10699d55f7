use Rattle.std.proofs.Common.{◌≡◌, true}
use Rattle.trail.specs.Trail.{lits_of}
use Rattle.propagate.specs.Reasons.{reasoned}
use Rattle.propagate.specs.Watching.{HasTakenOver, clauses_below}
use Rattle.analyze.proofs.tests.decide_all.Given as goal

abbrev pub invariant-decisions : goal.invariant-decisions
invariant-decisions l =
    HasTakenOver l.watches.taken l.store.held × (clauses_below l.watches.variables l.store.held ≡ true) × (l.watches.variables ≡ l.trail.reserved) × (l.watches.done ≡ lits_of l.trail.steps) × (reasoned l.store.held l.trail.steps ≡ true)
    × (l.watches ≡ record l.fn.watches { done = l.watches.done })
