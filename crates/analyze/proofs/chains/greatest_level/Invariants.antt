use Rattle.std.proofs.Common.{take}
use Rattle.analyze.specs.Marking.{IsGreatest}
use Rattle.analyze.proofs.chains.greatest_level.Given as goal

abbrev pub invariant-loop-lit : goal.invariant-loop-lit
invariant-loop-lit l = IsGreatest l.trail.steps (take l.lit-index l.lits) l.greatest
