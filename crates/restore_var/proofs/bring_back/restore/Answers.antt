use Rattle.std.proofs.Common.{◌∙◌, sym, ap, subst, List}
use Rattle.std.proofs.lemmas.Result.{on_ok_weaker}
use Rattle.rebuild_stack.specs.declared.entry.Entry.{Entry}
use Rattle.state_laws.specs.Kernel.{state_of}
use Rattle.restore_var.specs.Marks.{is_marked}
use Rattle.restore_var.specs.Needs.{none_gone, AreFree}
use Rattle.restore_var.specs.Restored.{RestoresMarked}
use Rattle.restore_var.specs.RestoredLaws.{restored_KeepsMet}
use Rattle.restore_var.proofs.Needing.{free_none}
use Rattle.restore_var.proofs.Restoring.{none_found, none_left, all_free, among_marked, needed_moves}
use Rattle.restore_var.proofs.bring_back.restore.Goals as goal

pub returns-then-not-any_gone-clause-back : goal.returns-then-not-any_gone-clause-back
returns-then-not-any_gone-clause-back c = none_found c.any_gone.result c.args.state.now.stack c.args.vars.now c.if-not-any_gone.true c.any_gone.ensures

pub returns-then-not-any_gone-clause-free : goal.returns-then-not-any_gone-clause-free
returns-then-not-any_gone-clause-free c = free_none c.args.vars.now c.args.state.now.stack (none_found c.any_gone.result c.args.state.now.stack c.args.vars.now c.if-not-any_gone.true c.any_gone.ensures)

pub returns-clause-back : goal.returns-clause-back
returns-clause-back c =
    on_ok_weaker c.restore_marked.result
    (λ e. ap (λ (z : List Entry). none_gone z c.args.vars.now) e ∙ none_left (is_marked c.in_ok-marks.marks) c.args.state.now.stack c.args.vars.now c.in_ok-marks.ensures.needed.all)
    c.restore_marked.ensures.stack

pub returns-clause-free : goal.returns-clause-free
returns-clause-free c =
    on_ok_weaker c.restore_marked.result
    (λ e. subst (λ (z : List Entry). AreFree c.args.vars.now c.args.state.now.stack z) (sym e)
    (all_free (is_marked c.in_ok-marks.marks) (state_of c.args.state.now) c.args.vars.now c.in_ok-marks.ensures.standing.stands.places (among_marked (is_marked c.in_ok-marks.marks) c.args.vars.now c.in_ok-marks.ensures.needed.all)))
    c.restore_marked.ensures.stack

pub returns-clause-moves : goal.returns-clause-moves
returns-clause-moves c = needed_moves (is_marked c.in_ok-marks.marks) c.args.vars.now (state_of c.args.state.now) (state_of c.restore_marked.new.state) c.in_ok-marks.ensures.needed c.restore_marked.ensures.moves

pub returns-clause-kept : goal.returns-clause-kept
returns-clause-kept c =
    let moves : RestoresMarked (is_marked c.in_ok-marks.marks) (state_of c.args.state.now) (state_of c.restore_marked.new.state) = c.restore_marked.ensures.moves in
    restored_KeepsMet moves.restored (state_of c.args.state.now) (state_of c.restore_marked.new.state) moves.moves c.in_ok-marks.ensures.standing.stands
