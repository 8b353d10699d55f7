use Rattle.std.proofs.Common.{◌<◌, ◌≤◌, ◌^◌, length, length-set, arith, subst, sym}
use Rattle.clause_store.proofs.Blocks.{as_dropped, stored_within, dropped_blocks, dropped_distinct, dropped_stored, stored_kept}
use Rattle.clause_store.proofs.store.ClauseStore.drop_clause.Goals as goal

pub index_mut-requires : goal.index_mut-requires
index_mut-requires c =
    let l : c.args.id.0 < length c.self.inside.words.items = stored_within c.self.inside.words.items c.args.self.now c.args.id.0 c.self.view_is c.requires in
    omega (arith, l, c.self.inside.words.ok.0)

pub invariant_of-self : goal.invariant_of-self
invariant_of-self c = record {
  blocks = dropped_blocks c.self.inside.words.items c.args.id.0 c.index_mut.result.now c.self.invariant.blocks c.index_mut.ensures.value;
  few = subst (λ n. n ≤ 2 ^ 32) (sym (length-set c.self.inside.words.items c.args.id.0 (as_dropped c.index_mut.result.now))) c.self.invariant.few;
  marked = subst (λ n. c.self.inside.mark ≤ n) (sym (length-set c.self.inside.words.items c.args.id.0 (as_dropped c.index_mut.result.now))) c.self.invariant.marked;
  distinct = dropped_distinct c.self.inside.words.items c.args.self.now c.args.id.0 c.index_mut.result.now c.self.view_is c.self.invariant.blocks c.requires c.index_mut.ensures.value c.self.invariant.distinct;
}

pub returns-clause-rest : goal.returns-clause-rest
returns-clause-rest c = dropped_stored c.self.inside.words.items c.args.self.now c.args.id.0 c.index_mut.result.now c.self.view_is c.self.invariant.blocks c.requires c.index_mut.ensures.value

pub returns-clause-kept : goal.returns-clause-kept
returns-clause-kept c = stored_kept c.self.inside c.args.self.now c.self.view_is c.self.invariant
