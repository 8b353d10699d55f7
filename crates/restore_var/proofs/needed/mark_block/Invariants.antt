use Rattle.std.proofs.Common.{take}
use Rattle.restore_var.specs.Marks.{is_marked}
use Rattle.restore_var.specs.Needs.{block_leads, GrowsFor}
use Rattle.restore_var.proofs.needed.mark_block.Given as goal

abbrev pub invariant-each : goal.invariant-each
invariant-each l = GrowsFor (block_leads l.state.stack (take l.at l.block)) (is_marked l.initial.marks) (is_marked l.marks)
