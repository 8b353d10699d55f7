use Rattle.std.proofs.Common.{◌≡◌, subst, Some, List, take_all, rules}
use Rattle.indexed_store.specs.declared.short_id.ShortId.{ShortId}
use Rattle.indexed_store.specs.Occurrences.{clauses_at}
use Rattle.var_maps.specs.Maps.{inner_at}
use Rattle.private_state.specs.Resolving.{Takes}
use Rattle.removed_vars.specs.CollectLaws.{clauses_at-more}
use Rattle.private_state.proofs.Resolving.{taken_all}
use Rattle.private_state.proofs.take_out.take_out.Goals as goal

abbrev first : ShortId
first = record { 0 = 0 }

pub walk-preserved : goal.walk-preserved
walk-preserved c =
    rw (clauses_at-more c.args.store.now.held c.occurrences-ids.result.now c.walk.id-index first c.walk-test.true, ← c.store.ensures.value)
    (rw (← c.whole.ensures) (c.in_ok-take_one.ensures _ (rw c.store.ensures.value c.walk.invariant)))

pub returns-clause-taken : goal.returns-clause-taken
returns-clause-taken c =
    let e : inner_at c.args.maps.now c.args.var.0 ≡ Some c.unwrap-inner.result = search rules in
    taken_all c.args.maps.now c.args.var.0 c.unwrap-inner.result c.args.store.now.held c.occurrences-ids.result.now c.walk.to c.to_inner.ensures.matched e c.occurrences-ids.ensures.value
    (subst (λ (ids : List ShortId). Takes c.args.maps.now (clauses_at c.args.store.now.held ids) c.walk.to) (take_all c.walk.id-index c.occurrences-ids.result.now c.walk-test.false) c.walk.invariant)
