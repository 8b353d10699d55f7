use Rattle.std.proofs.Common.{◌≡◌, ◌∙◌, ◌+◌, ◌≤◌, ap, sym, subst, arith, true, length, get_or, take, take_all, List}
use Rattle.std.specs.List.{list_all}
use Rattle.indexed_store.specs.declared.short_id.ShortId.{ShortId}
use Rattle.clause_store.specs.Store.{Held, clause_at}
use Rattle.indexed_store.specs.Occurrences.{clauses_at}
use Rattle.var_elim.specs.Dropping.{Drops, HasNoSubsumed, subsumes_none, subsumes_none_at}
use Rattle.state_laws.specs.Kernel.{Kernel, state_of}
use Rattle.sync_laws.specs.KeepLaws.{keeps_refl}
use Rattle.var_elim.proofs.Meeting.{drops_met}
use Rattle.var_elim.proofs.Implying.{drops_covered}
use Rattle.var_elim.proofs.Counting.{drops_zero, drops_none, drops_more, drops_bound, named_bound, same_more, all_more}
use Rattle.var_elim.proofs.drop.drop_subsumed.Goals as goal

abbrev first : ShortId
first = record { 0 = 0 }

pub overflow_add-dropped : goal.overflow_add-dropped
overflow_add-dropped c =
    let a : c.each.dropped + c.in_ok-more.more ≤ length c.args.state.now.store.held =
    drops_bound (c.each.dropped + c.in_ok-more.more) c.args.state.now.store.held c.drop_all_by_any.new.state.store.held
    (drops_more c.each.dropped c.in_ok-more.more c.args.state.now.store.held c.each.state.store.held c.drop_all_by_any.new.state.store.held c.each.invariant.drops c.in_ok-more.ensures.dropped) in
    let b : length (clauses_at c.args.state.now.store.held c.in_ok-ids.ids.items) ≤ length c.in_ok-ids.ids.items = named_bound c.args.state.now.store.held c.in_ok-ids.ids.items in
    let d : length (clauses_at c.args.state.now.store.held c.in_ok-ids.ids.items) ≡ length c.args.state.now.store.held = ap length (rw c.clauses.ensures.value at c.in_ok-ids.ensures.all) in
    omega (arith, c.in_ok-ids.ids.ok.0, c.in_ok-ids.ids.small)

pub each-preserved : goal.each-preserved
each-preserved c =
    record {
      drops = drops_more c.each.dropped c.in_ok-more.more c.args.state.now.store.held c.each.state.store.held c.drop_all_by_any.new.state.store.held c.each.invariant.drops c.in_ok-more.ensures.dropped;
      same = same_more c.args.state.now c.each.state c.drop_all_by_any.new.state c.each.invariant.same c.in_ok-more.ensures.same;
      none = λ z.
          let n : c.each.dropped ≡ 0 = omega arith in
          let m : c.in_ok-more.more ≡ 0 = omega arith in
          all_more c.args.state.now.store.held c.deref-id-items.result.now c.each.id-index first c.each-test.true (c.each.invariant.none n)
          (subst (λ (hs : List Held). subsumes_none_at hs (clause_at hs (get_or c.deref-id-items.result.now c.each.id-index first).0) ≡ true) (drops_none c.each.dropped c.args.state.now.store.held c.each.state.store.held c.each.invariant.drops n) (rw c.whole.ensures at (c.in_ok-more.ensures.none m)));
    }

pub returns-clause-none : goal.returns-clause-none
returns-clause-none c = λ z.
    let same : c.each.state.store.held ≡ c.args.state.now.store.held = drops_none c.each.dropped c.args.state.now.store.held c.each.state.store.held c.each.invariant.drops z in
    let ids : clauses_at c.args.state.now.store.held (take c.each.id-index c.deref-id-items.result.now) ≡ c.args.state.now.store.held =
    ap (clauses_at c.args.state.now.store.held) (take_all c.each.id-index c.deref-id-items.result.now c.each-test.false ∙ c.deref-id-items.ensures.value) ∙ (rw c.clauses.ensures.value at c.in_ok-ids.ensures.all) in
    subst (λ (hs : List Held). HasNoSubsumed hs) (sym same) (ap (list_all (subsumes_none c.args.state.now.store.held)) (sym ids) ∙ c.each.invariant.none z)

pub returns-in_err-ids-clause-covered : goal.returns-in_err-ids-clause-covered
returns-in_err-ids-clause-covered c =
    drops_covered 0 c.args.state.now.store.held c.args.state.now.store.held (rw c.clauses.ensures.value at c.all_ids.ensures.kept.rises) (drops_zero c.args.state.now.store.held)

pub returns-in_err-more-clause-covered : goal.returns-in_err-more-clause-covered
returns-in_err-more-clause-covered c =
    drops_covered c.each.dropped c.args.state.now.store.held c.drop_all_by_any.new.state.store.held (rw c.clauses.ensures.value at c.all_ids.ensures.kept.rises)
    (subst (λ (k : Kernel). Drops c.each.dropped c.args.state.now.store.held k.store.held) (sym c.in_err-more.ensures.err) c.each.invariant.drops)

pub returns-clause-covered : goal.returns-clause-covered
returns-clause-covered c = drops_covered c.each.dropped c.args.state.now.store.held c.each.state.store.held (rw c.clauses.ensures.value at c.all_ids.ensures.kept.rises) c.each.invariant.drops

pub returns-in_err-ids-clause-met : goal.returns-in_err-ids-clause-met
returns-in_err-ids-clause-met c = keeps_refl (state_of c.args.state.now)

pub returns-in_err-more-clause-met : goal.returns-in_err-more-clause-met
returns-in_err-more-clause-met c =
    drops_met c.each.dropped c.args.state.now c.drop_all_by_any.new.state (rw c.clauses.ensures.value at c.all_ids.ensures.kept.rises)
    (same_more c.args.state.now c.each.state c.drop_all_by_any.new.state c.each.invariant.same c.drop_all_by_any.ensures.same)
    (subst (λ (k : Kernel). Drops c.each.dropped c.args.state.now.store.held k.store.held) (sym c.in_err-more.ensures.err) c.each.invariant.drops)

pub returns-clause-met : goal.returns-clause-met
returns-clause-met c = drops_met c.each.dropped c.args.state.now c.each.state (rw c.clauses.ensures.value at c.all_ids.ensures.kept.rises) c.each.invariant.same c.each.invariant.drops
