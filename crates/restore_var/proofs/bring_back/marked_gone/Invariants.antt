use Rattle.state_laws.specs.Kernel.{state_of}
use Rattle.restore_var.specs.Marks.{is_marked}
use Rattle.restore_var.proofs.Restoring.{AreHalfway}
use Rattle.restore_var.proofs.bring_back.marked_gone.Given as goal

abbrev pub invariant-down : goal.invariant-down
invariant-down l = AreHalfway (is_marked l.marks) (state_of l.state) l.vars.items l.at
