use Rattle.std.proofs.Common.{◌≡◌, ◌<◌, ◌∙◌, ap, sym, subst, Some}
use Rattle.sat_lits.specs.declared.literal.Own.{Own}
use Rattle.sat_lits.specs.declared.literal.OwnLit.{OwnLit}
use Rattle.rebuild_stack.specs.Roots.{root}
use Rattle.rebuild_stack.specs.declared.entry.Entry.TheVariants.{Equal}
use Rattle.state_laws.specs.RootTableLaws.{entry_of, depth, depth_replaced, root_replaced}
use Rattle.removed_vars.specs.Removed.{last_lit}
use Rattle.removed_vars.specs.Statuses.{status_of, IsEnd}
use Rattle.removed_vars.specs.declared.removed.Status.{Status}
use Rattle.removed_vars.specs.StatusLaws.{status_replaced, last_replaced, last_end, end_from}
use Rattle.removed_vars.proofs.removed.RemovedVars.last.Goals as goal

pub follow-smaller : goal.follow-smaller
follow-smaller c =
    let e : (v : Own) × (entry_of c.follow.last.var.0 c.args.self.now.entries ≡ Some (Equal v c.in-Replaced.by)) = status_replaced _ c.in-Replaced.by (sym c.status.ensures ∙ c.in-Replaced.is) in
    subst (λ (l : OwnLit). depth l.var.0 c.args.self.now.entries < depth c.follow.last.var.0 c.args.self.now.entries) (sym c.turned-last.ensures)
    (depth_replaced c.requires.active c.args.self.now.entries c.follow.last.var.0 e.0 c.in-Replaced.by c.requires.once c.requires.order e.1)

pub follow-preserved : goal.follow-preserved
follow-preserved c =
    let e : (v : Own) × (entry_of c.follow.last.var.0 c.args.self.now.entries ≡ Some (Equal v c.in-Replaced.by)) = status_replaced _ c.in-Replaced.by (sym c.status.ensures ∙ c.in-Replaced.is) in
    record {
      last = ap (last_lit c.args.self.now.entries) c.turned-last.ensures
          ∙ (sym (last_replaced c.requires.active c.args.self.now.entries c.follow.last e.0 c.in-Replaced.by c.requires.once c.requires.order e.1) ∙ c.follow.invariant.last);
      root = ap (root c.args.self.now.entries) c.turned-last.ensures
          ∙ (sym (root_replaced c.requires.active c.args.self.now.entries c.follow.last e.0 c.in-Replaced.by c.requires.once c.requires.order e.1) ∙ c.follow.invariant.root);
    }

pub returns : goal.returns
returns c =
    let end : IsEnd (status_of (entry_of c.follow.last.var.0 c.args.self.now.entries)) = subst (λ (x : Status). IsEnd x) c.status.ensures (end_from c.status.result c.in_default.not-Replaced) in
    record {
      last = sym (last_end c.requires.active c.args.self.now.entries c.follow.last c.requires.once end) ∙ c.follow.invariant.last;
      root = c.follow.invariant.root;
      end = end;
    }
