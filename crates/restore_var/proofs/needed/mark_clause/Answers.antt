use Rattle.restore_var.specs.Marks.{is_marked}
use Rattle.restore_var.proofs.Needing.{literal_more}
use Rattle.restore_var.proofs.needed.mark_clause.Goals as goal

pub each-preserved : goal.each-preserved
each-preserved c = literal_more c.args.state.now.stack c.args.lits.now c.each.lit-index _ (is_marked c.args.marks.now) (is_marked c.each.marks) (is_marked c.mark_lost.new.marks) c.each-test.true c.each.invariant c.in_ok-mark_lost.ensures
