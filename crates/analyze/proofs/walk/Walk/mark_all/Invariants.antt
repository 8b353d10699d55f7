use Rattle.std.proofs.Common.{take}
use Rattle.analyze.specs.Walks.{MarkedAll}
use Rattle.analyze.proofs.walk.Walk.mark_all.Given as goal

abbrev pub invariant-loop-lit : goal.invariant-loop-lit
invariant-loop-lit l = MarkedAll l.trail (take l.lit-index l.lits) l.fn.self l.self
