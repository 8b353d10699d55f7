use Rattle.std.proofs.Common.{refl, false}
use Rattle.sat_lits.specs.declared.literal.InLit.{InLit}
use Rattle.var_elim.proofs.Marking.{tells_more}
use Rattle.var_elim.proofs.marks.marks_of.Goals as goal

abbrev first : InLit
first = record { var = record { 0 = 0 }; negative = false }

pub each-preserved : goal.each-preserved
each-preserved c = tells_more c.each.marks c.insert.new.self c.args.lits.now c.each.lit-index first _ c.each-test.true refl c.each.invariant (rw c.code.ensures at (c.in_ok-insert.ensures.updates.0))
