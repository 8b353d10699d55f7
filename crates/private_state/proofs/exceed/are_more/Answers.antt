use Rattle.std.proofs.Common.{◌+◌, arith}
use Rattle.clause_store.specs.Store.{hard_of}
use Rattle.indexed_store.specs.declared.short_id.ShortId.{ShortId}
use Rattle.indexed_store.specs.Occurrences.{clauses_at}
use Rattle.private_state.specs.Pairs.{count_right}
use Rattle.private_state.proofs.Exceeding.{pairs_more, pairs_over}
use Rattle.private_state.proofs.exceed.are_more.Goals as goal

abbrev first : ShortId
first = record { 0 = 0 }

pub each-preserved : goal.each-preserved
each-preserved c =
    record {
      counted = pairs_more (count_right c.args.var.0 (hard_of (clauses_at c.args.store.now.held c.args.ids.now))) c.args.store.now.held c.args.ids.now c.each.id-index first c.each.count c.count_right_at-count.result
          c.each-test.true c.each.invariant.counted (rw c.whole.ensures at c.count_right_at-count.ensures.value);
      few = omega (arith, c.if-count-most.false);
    }

pub returns-then-count-most : goal.returns-then-count-most
returns-then-count-most c = λ t.
    pairs_over (count_right c.args.var.0 (hard_of (clauses_at c.args.store.now.held c.args.ids.now))) c.args.store.now.held c.args.ids.now (c.each.id-index + 1) (c.each.count + c.count_right_at-count.result) c.args.most
    (pairs_more (count_right c.args.var.0 (hard_of (clauses_at c.args.store.now.held c.args.ids.now))) c.args.store.now.held c.args.ids.now c.each.id-index first c.each.count c.count_right_at-count.result
    c.each-test.true c.each.invariant.counted (rw c.whole.ensures at c.count_right_at-count.ensures.value))
    (omega (arith, c.if-count-most.true))
