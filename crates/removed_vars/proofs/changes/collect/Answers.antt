use Rattle.std.proofs.Common.{◌≡◌, subst, [], ◌∷◌, Some, List, take_all, rules}
use Rattle.rebuild_stack.specs.Roots.{root}
use Rattle.rebuild_stack.specs.Entries.{named}
use Rattle.indexed_store.specs.declared.short_id.ShortId.{ShortId}
use Rattle.indexed_store.specs.Occurrences.{clauses_at}
use Rattle.var_maps.specs.Maps.{inner_at}
use Rattle.removed_vars.specs.Fresh.{Collects}
use Rattle.removed_vars.specs.CollectLaws.{collected_all, clauses_at-more, listed_touches}
use Rattle.removed_vars.proofs.changes.collect.Goals as goal

abbrev first : ShortId
first = record { 0 = 0 }

pub collect_one-requires-clause-touched : goal.collect_one-requires-clause-touched
collect_one-requires-clause-touched c =
    let e : inner_at c.args.maps.now (named c.args.entry.now) ≡ Some c.unwrap-var.result = search rules in
    rw (c.store.ensures.value, c.whole.ensures)
    (listed_touches c.args.maps.now (named c.args.entry.now) c.unwrap-var.result c.args.store.now.held c.occurrences-ids.result.now c.walk.id-index first c.to_inner.ensures.matched e c.occurrences-ids.ensures.value c.walk-test.true)

pub walk-preserved : goal.walk-preserved
walk-preserved c =
    rw (clauses_at-more c.args.store.now.held c.occurrences-ids.result.now c.walk.id-index first c.walk-test.true, ← c.store.ensures.value)
    (rw (← c.whole.ensures) (c.in_ok-collect_one.ensures _ (rw c.store.ensures.value c.walk.invariant)))

pub returns-clause-collected : goal.returns-clause-collected
returns-clause-collected c =
    let e : inner_at c.args.maps.now (named c.args.entry.now) ≡ Some c.unwrap-var.result = search rules in
    collected_all c.args.maps.now (root (c.args.entry.now ∷ [])) (named c.args.entry.now) c.unwrap-var.result c.args.store.now.held c.occurrences-ids.result.now c.walk.to c.to_inner.ensures.matched e c.occurrences-ids.ensures.value
    (subst (λ (ids : List ShortId). Collects c.args.maps.now (root (c.args.entry.now ∷ [])) (named c.args.entry.now) (clauses_at c.args.store.now.held ids) c.walk.to) (take_all c.walk.id-index c.occurrences-ids.result.now c.walk-test.false) c.walk.invariant)
