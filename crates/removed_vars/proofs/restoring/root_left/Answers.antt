use Rattle.std.proofs.Common.{◌∙◌, ap, sym}
use Rattle.sat_lits.specs.declared.literal.OwnLit.{OwnLit}
use Rattle.rebuild_stack.specs.CommonLaws.{cond_at}
use Rattle.rebuild_stack.specs.Roots.{root}
use Rattle.rebuild_stack.specs.declared.entry.Root.TheVariants.{Last}
use Rattle.removed_vars.specs.Removed.{last_lit}
use Rattle.removed_vars.specs.Restoring.{active_in}
use Rattle.removed_vars.specs.LeavingLaws.{left_root}
use Rattle.removed_vars.specs.StatusLaws.{cond_here}
use Rattle.removed_vars.proofs.restoring.root_left.Goals as goal

pub returns-then-is_active : goal.returns-then-is_active
returns-then-is_active c =
    let d : OwnLit = last_lit c.args.removed.now.entries c.args.lit in
    ap (λ (l : OwnLit). Last l) c.last-last.ensures.last
    ∙ (sym (cond_here (active_in c.args.maps.now d.var.0) (Last d) (root c.args.removed.now.entries c.args.lit) (ap (λ (l : OwnLit). active_in c.args.maps.now l.var.0) (sym c.last-last.ensures.last) ∙ (sym c.is_active.ensures ∙ c.if-is_active.true)))
    ∙ sym (left_root c.requires.order.active (active_in c.args.maps.now) c.args.removed.now.entries c.args.lit c.requires.order.once c.requires.others))

pub returns-else-is_active : goal.returns-else-is_active
returns-else-is_active c =
    let d : OwnLit = last_lit c.args.removed.now.entries c.args.lit in
    c.root.ensures ∙ (c.last-last.ensures.root
    ∙ (sym (cond_at (active_in c.args.maps.now d.var.0) (Last d) (root c.args.removed.now.entries c.args.lit) (ap (λ (l : OwnLit). active_in c.args.maps.now l.var.0) (sym c.last-last.ensures.last) ∙ (sym c.is_active.ensures ∙ c.if-is_active.false)))
    ∙ sym (left_root c.requires.order.active (active_in c.args.maps.now) c.args.removed.now.entries c.args.lit c.requires.order.once c.requires.others)))
