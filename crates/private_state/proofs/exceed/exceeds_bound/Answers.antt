use Rattle.std.proofs.Common.{◌≡◌, ◌<◌, Some, inl, inr, arith, length, sym, rules}
use Rattle.clause_store.specs.Store.{hard_of}
use Rattle.indexed_store.specs.Occurrences.{clauses_at}
use Rattle.var_maps.specs.Maps.{inner_at}
use Rattle.private_state.specs.Pairs.{count_pairs}
use Rattle.private_state.proofs.Exceeding.{exceeding}
use Rattle.private_state.proofs.exceed.exceeds_bound.Goals as goal

pub returns-then-hard-gt-MOST_HARD : goal.returns-then-hard-gt-MOST_HARD
returns-then-hard-gt-MOST_HARD c = λ t.
    let e : inner_at c.args.maps.now c.args.var.0 ≡ Some c.unwrap-inner.result = search rules in
    let n : 32 < length (hard_of (clauses_at c.args.store.now.held c.occurrences-ids.result.now)) = omega (arith, rw c.store.ensures.value at c.count_hard-hard.ensures.value, c.if-hard-gt-MOST_HARD.true) in
    exceeding c.args.maps.now c.args.var.0 c.unwrap-inner.result c.args.store.now.held c.occurrences-ids.result.now c.to_inner.ensures.matched e c.occurrences-ids.ensures.value c.requires.active c.requires.clean (inl n)

pub returns : goal.returns
returns c = λ t.
    let e : inner_at c.args.maps.now c.args.var.0 ≡ Some c.unwrap-inner.result = search rules in
    let s : length (hard_of (clauses_at c.args.store.now.held c.occurrences-ids.result.now)) ≡ c.count_hard-hard.result = sym (rw c.store.ensures.value at c.count_hard-hard.ensures.value) in
    let p : c.count_hard-hard.result < count_pairs c.unwrap-inner.result.0 (hard_of (clauses_at c.args.store.now.held c.occurrences-ids.result.now)) = (rw c.store-2.ensures.value at c.are_more.ensures) t in
    let n : length (hard_of (clauses_at c.args.store.now.held c.occurrences-ids.result.now)) < count_pairs c.unwrap-inner.result.0 (hard_of (clauses_at c.args.store.now.held c.occurrences-ids.result.now)) = omega arith in
    exceeding c.args.maps.now c.args.var.0 c.unwrap-inner.result c.args.store.now.held c.occurrences-ids.result.now c.to_inner.ensures.matched e c.occurrences-ids.ensures.value c.requires.active c.requires.clean (inr n)
