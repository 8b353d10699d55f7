use Rattle.std.proofs.Common.{◌≡◌, ◌∙◌, true, ap, sym, subst, List, take}
use Rattle.sat_lits.specs.ListLaws.{all_at}
use Rattle.sat_lits.specs.declared.literal.OwnLit.{OwnLit}
use Rattle.rebuild_stack.specs.PutIn.{is_clean}
use Rattle.state_laws.specs.ViewLaws.{clean_distinct}
use Rattle.removed_vars.specs.Fresh.{Stores}
use Rattle.removed_vars.specs.CollectLaws.{read_at}
use Rattle.removed_vars.specs.CollectLaws.{stores_more}
use Rattle.removed_vars.proofs.restoring.hard_fresh.Goals as goal

pub each-preserved : goal.each-preserved
each-preserved c =
    let clean : is_clean c.clause-item.result ≡ true = ap is_clean c.clause-item.is ∙ all_at is_clean c.args.clauses.now c.each.clause-index c.clause-item.result c.each-test.true c.requires.clean in
    subst (λ (z : List (List OwnLit)). Stores c.args.maps.now c.push.new.self.items z) (sym (read_at c.args.clauses.now c.each.clause-index c.clause-item.result c.clause-item.is c.each-test.true))
    (stores_more c.args.maps.now c.each.fresh.items c.push.new.self.items (take c.each.clause-index c.args.clauses.now) c.in_ok-lits.lits c.clause-item.result c.in_ok-push.ensures.items (c.in_ok-lits.ensures ∙ c.as_slice.ensures)
    (clean_distinct c.args.maps.now c.in_ok-lits.lits (ap is_clean (c.in_ok-lits.ensures ∙ c.as_slice.ensures) ∙ clean)) c.each.invariant)
