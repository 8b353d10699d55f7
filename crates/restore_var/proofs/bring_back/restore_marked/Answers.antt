use Rattle.std.proofs.Common.{List, sym, subst}
use Rattle.sat_lits.specs.declared.literal.Own.{Own}
use Rattle.state_laws.specs.Kernel.{state_of}
use Rattle.restore_var.specs.Marks.{is_marked}
use Rattle.restore_var.specs.Restored.{AreMarkedGone}
use Rattle.restore_var.proofs.Restoring.{marked_moves}
use Rattle.restore_var.proofs.bring_back.restore_marked.Goals as goal

pub returns-clause-moves : goal.returns-clause-moves
returns-clause-moves c =
    marked_moves (is_marked c.args.marks.now) (state_of c.args.state.now) (state_of c.restore_all.new.self) c.deref.result.now c.restore_all.result
    (subst (λ (vs : List Own). AreMarkedGone (is_marked c.args.marks.now) (state_of c.args.state.now) vs) (sym c.deref.ensures.value) c.in_ok-vars.ensures) c.restore_all.ensures.ok c.restore_all.ensures.err
