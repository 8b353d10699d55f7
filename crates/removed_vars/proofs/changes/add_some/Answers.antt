use Rattle.std.proofs.Common.{◌∙◌, ap, List, take, ◌++◌, ◌∷◌, []}
use Rattle.std.proofs.lemmas.List.{map-append}
use Rattle.sat_lits.specs.declared.literal.ClauseId.{ClauseId}
use Rattle.sat_lits.specs.declared.literal.InLit.{InLit}
use Rattle.clause_store.specs.Store.{held_as}
use Rattle.state_laws.specs.HeldLaws.{adds_more}
use Rattle.removed_vars.specs.Fresh.{in_clause, in_clauses}
use Rattle.removed_vars.specs.CollectLaws.{map_take, read_at}
use Rattle.removed_vars.proofs.changes.add_some.Goals as goal

pub returns-in_err-reserve-clause-some : goal.returns-in_err-reserve-clause-some
returns-in_err-reserve-clause-some c =
    (c.each.clause-index, rw (c.in_err-reserve.ensures.items, ← map_take in_clause c.each.clause-index c.args.fresh.now) c.each.invariant)

pub returns-in_err-id-clause-some : goal.returns-in_err-id-clause-some
returns-in_err-id-clause-some c =
    (c.each.clause-index, rw (c.in_err-id.ensures.err, c.in_ok-reserve.ensures.items, ← map_take in_clause c.each.clause-index c.args.fresh.now) c.each.invariant)

pub each-preserved : goal.each-preserved
each-preserved c =
    adds_more c.args.store.now c.each.store c.add.new.self c.each.ids.items c.push.new.self.items (in_clauses (take c.each.clause-index c.args.fresh.now)) _ c.in_ok-id.id (in_clause c.clause-item.result)
    c.in_ok-id.ensures.fresh c.in_ok-id.ensures.given
    (c.in_ok-id.ensures.held ∙ ap (λ (z : List InLit). c.each.store.held ++ held_as c.in_ok-id.id.0 c.clause-item.result.learned z ∷ []) c.as_slice.ensures)
    c.in_ok-id.ensures.mark c.in_ok-id.ensures.marked
    (c.in_ok-push.ensures.items ∙ ap (λ (z : List ClauseId). z ++ c.in_ok-id.id ∷ []) c.in_ok-reserve.ensures.items)
    (ap in_clauses (read_at c.args.fresh.now c.each.clause-index c.clause-item.result c.clause-item.is c.each-test.true) ∙ map-append in_clause (take c.each.clause-index c.args.fresh.now) (c.clause-item.result ∷ []))
    c.each.invariant
