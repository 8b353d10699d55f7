use Rattle.std.proofs.Common.{take}
use Rattle.restore_var.specs.Marks.{is_marked}
use Rattle.restore_var.specs.Needs.{clause_leads, GrowsFor}
use Rattle.restore_var.proofs.needed.mark_clause.Given as goal

abbrev pub invariant-each : goal.invariant-each
invariant-each l = GrowsFor (clause_leads l.state.stack (take l.lit-index l.lits)) (is_marked l.initial.marks) (is_marked l.marks)
