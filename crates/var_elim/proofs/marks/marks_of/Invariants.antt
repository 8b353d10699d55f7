use Rattle.std.proofs.Common.{take}
use Rattle.var_elim.specs.Marks.{TellsLits}
use Rattle.var_elim.proofs.marks.marks_of.Given as goal

abbrev pub invariant-each : goal.invariant-each
invariant-each l = TellsLits l.marks (take l.lit-index l.lits)
