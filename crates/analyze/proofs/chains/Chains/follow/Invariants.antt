use Rattle.analyze.specs.Marking.{is_marked}
use Rattle.analyze.specs.Chains.{InChain, left_over}
use Rattle.analyze.proofs.chains.Chains.follow.Given as goal

abbrev pub invariant-chain : goal.invariant-chain
invariant-chain l = InChain l.store.held l.trail (is_marked l.marks) l.self

abbrev pub decreases-chain : goal.decreases-chain
decreases-chain l = left_over l.trail.steps l.self
