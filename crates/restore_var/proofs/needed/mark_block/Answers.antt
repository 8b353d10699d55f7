use Rattle.restore_var.specs.Marks.{is_marked}
use Rattle.restore_var.proofs.Needing.{clause_more}
use Rattle.restore_var.proofs.needed.mark_block.Goals as goal

pub each-preserved : goal.each-preserved
each-preserved c = clause_more c.args.state.now.stack c.args.block.now c.each.at c.get.result.now (is_marked c.args.marks.now) (is_marked c.each.marks) (is_marked c.mark_clause.new.marks) c.get.ensures c.each.invariant c.in_ok-mark_clause.ensures
