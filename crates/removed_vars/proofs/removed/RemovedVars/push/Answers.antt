use Rattle.std.proofs.Common.{◌≡◌, ◌<◌, ◌∙◌, length, ap, sym, subst, false, arith}
use Rattle.std.specs.List.{list_any}
use Rattle.rebuild_stack.specs.Entries.{named, names}
use Rattle.removed_vars.specs.Removed.{Removed}
use Rattle.removed_vars.specs.StatusLaws.{written}
use Rattle.removed_vars.proofs.removed.RemovedVars.push.Goals as goal

pub invariant_of-self-2 : goal.invariant_of-self-2
invariant_of-self-2 c =
    let there : named c.args.entry < length c.self.inside.statuses.items = subst (λ (r : Removed). named c.args.entry < r.vars) (sym c.self.view_is) c.requires.there in
    let free : list_any (names (named c.args.entry)) c.self.inside.stack ≡ false = ap (λ (r : Removed). list_any (names (named c.args.entry)) r.entries) c.self.view_is ∙ c.requires.unnamed in
    record {
      each = rw c.in_default.ensures.ok
          (written c.self.inside.statuses.items c.self.inside.stack c.args.entry c.var_of-var.result.0 c.status_of-status.result c.var_of-var.ensures c.status_of-status.ensures
          (omega (arith, there, c.var_of-var.ensures)) free c.self.invariant.each);
    }
