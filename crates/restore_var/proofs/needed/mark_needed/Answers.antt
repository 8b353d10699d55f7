use Rattle.std.proofs.Common.{◌≡◌, ◌∙◌, Some, refl, ap, sym, length, slice_get}
use Rattle.std.proofs.lemmas.Option.{slice_get_read}
use Rattle.state_laws.specs.Kernel.{state_of}
use Rattle.restore_var.specs.Marks.{is_marked}
use Rattle.restore_var.proofs.Needing.{walked_none, walked_more}
use Rattle.restore_var.proofs.needed.mark_needed.Goals as goal

pub up-init : goal.up-init
up-init c = walked_none c.args.vars.now c.args.state.now.stack (is_marked c.in_ok-marks.marks) c.in_ok-marks.ensures

pub up-preserved : goal.up-preserved
up-preserved c =
    let here : slice_get c.args.state.now.stack c.up.entry-index ≡ Some c.entry-item.result =
    ap (λ z. slice_get z c.up.entry-index) (sym (c.entries-entry-items.ensures ∙ c.stack.ensures)) ∙ slice_get_read c.entries-entry-items.result.now (length c.entries-entry-items.result.now) c.up.entry-index c.entry-item.result refl c.up-test.true c.entry-item.is in
    walked_more c.args.vars.now (state_of c.args.state.now) c.up.entry-index c.entry-item.result (is_marked c.up.marks) (is_marked c.mark_entry.new.marks) c.okay-okay.ensures.standing.stands.places here c.in_ok-mark_entry.ensures c.up.invariant
