use Rattle.std.proofs.Common.{take}
use Rattle.analyze.specs.Deciding.{Covers}
use Rattle.analyze.proofs.deciding.mark_all.Given as goal

abbrev pub invariant-loop-lit : goal.invariant-loop-lit
invariant-loop-lit l = Covers l.trail (take l.lit-index l.lits) l.fn.marks l.marks
