use Rattle.std.proofs.Common.{◌∙◌, Bool, ap, sym}
use Rattle.rebuild_stack.specs.declared.entry.Root.TheVariants.{Known}
use Rattle.removed_vars.specs.StatusLaws.{root_by_status, root_end}
use Rattle.removed_vars.proofs.removed.RemovedVars.root.Goals as goal

pub returns-in-Kept : goal.returns-in-Kept
returns-in-Kept c =
    ap (root_by_status c.last-last.result) (sym c.in-Kept.is ∙ c.status.ensures) ∙ (sym (root_end c.args.self.now.entries c.last-last.result c.last-last.ensures.end) ∙ c.last-last.ensures.root)

pub returns-in-Eliminated : goal.returns-in-Eliminated
returns-in-Eliminated c =
    ap (root_by_status c.last-last.result) (sym c.in-Eliminated.is ∙ c.status.ensures) ∙ (sym (root_end c.args.self.now.entries c.last-last.result c.last-last.ensures.end) ∙ c.last-last.ensures.root)

pub returns-in-Fixed : goal.returns-in-Fixed
returns-in-Fixed c =
    ap (λ (b : Bool). Known b) c.signed.ensures
    ∙ (ap (root_by_status c.last-last.result) (sym c.in-Fixed.is ∙ c.status.ensures) ∙ (sym (root_end c.args.self.now.entries c.last-last.result c.last-last.ensures.end) ∙ c.last-last.ensures.root))
