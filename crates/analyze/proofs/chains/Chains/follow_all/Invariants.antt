use Rattle.analyze.specs.Marking.{is_marked}
use Rattle.analyze.specs.Chains.{AtChains}
use Rattle.analyze.proofs.chains.Chains.follow_all.Given as goal

abbrev pub invariant-loop-lit : goal.invariant-loop-lit
invariant-loop-lit l = AtChains l.store.held l.trail (is_marked l.marks) l.self
