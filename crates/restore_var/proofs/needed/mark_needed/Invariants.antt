use Rattle.std.proofs.Common.{take}
use Rattle.restore_var.specs.Marks.{is_marked}
use Rattle.restore_var.proofs.Needing.{IsWalked}
use Rattle.restore_var.proofs.needed.mark_needed.Given as goal

abbrev pub invariant-up : goal.invariant-up
invariant-up l = IsWalked l.vars l.state.stack (take l.entry-index l.state.stack) (is_marked l.marks)
