use Rattle.std.proofs.Common.{◌≡◌, ◌∙◌, ◌+◌, ◌≤◌, ◌^◌, true, false, sym, ap, subst, sum_by, length, take, refl, arith, List, zero-add}
use Rattle.std.proofs.lemmas.List.{take-take, take-append-le}
use Rattle.std.specs.List.{list_all}
use Rattle.sat_lits.specs.InLits.{is_distinct}
use Rattle.sat_lits.specs.declared.literal.InLit.{InLit}
use Rattle.clause_store.specs.Store.{Held, Store, contents, marked}
use Rattle.clause_store.specs.Words.{closed_up, held_in, AreBlocks}
use Rattle.clause_store.specs.Laws.{hard_of-contents, learned_of-contents}
use Rattle.clause_store.proofs.Blocks.{stored_kept}
use Rattle.clause_store.proofs.Closing.{blocks_closed, contents_closed, contents_below, contents_marked, closed_before, length-closed, closed_short, all_distinct-contents}
use Rattle.clause_store.proofs.store.ClauseStore.compact.Goals as goal
use Rattle.clause_store.proofs.store.ClauseStore.compact.Goals.{After-truncate}

-- the words that are left
left : (c : After-truncate) → c.truncate.new.self.items ≡ closed_up false c.self.inside.words.items
left c =
    let n : length c.deref_mut.result.now ≡ length c.self.inside.words.items = ap length c.deref_mut.ensures.value in
    c.truncate.ensures.items
    ∙ (take-take _ _ _ (omega (arith, c.close_up-end.ensures.within, n, c.self.inside.words.ok.0))
    ∙ (take-append-le _ _ _ (omega (arith, c.close_up-end.ensures.within, c.close_up-end.auto.words))
    ∙ (c.close_up-end.ensures.words ∙ ap (closed_up false) c.deref_mut.ensures.value)))

same_contents : (c : After-truncate) → contents (held_in c.truncate.new.self.items) ≡ contents (held_in c.self.inside.words.items)
same_contents c = ap (λ ws. contents (held_in ws)) (left c) ∙ contents_closed 0 0 c.self.inside.words.items 0 false c.self.invariant.blocks

all_distinct : (c : After-truncate) → list_all (λ h. is_distinct h.lits) (held_in c.truncate.new.self.items) ≡ true
all_distinct c = all_distinct-contents (held_in c.truncate.new.self.items) (held_in c.self.inside.words.items) (same_contents c) c.self.invariant.distinct

few : (c : After-truncate) → length c.truncate.new.self.items ≤ 2 ^ 32
few c =
    let l : length (closed_up false c.self.inside.words.items) ≤ length c.self.inside.words.items = closed_short c.self.inside.words.items false in
    let m : length c.truncate.new.self.items ≡ length (closed_up false c.self.inside.words.items) = ap length (left c) in
    omega (arith, l, m, c.self.invariant.few)

-- the mark is where the words that stood before it end
mark_is : (c : After-truncate) → c.close_up-end.result.1 ≡ length (closed_up false (take c.self.inside.mark c.self.inside.words.items))
mark_is c = c.close_up-end.ensures.mark ∙ ap (λ ws. length (closed_up false (take c.self.inside.mark ws))) c.deref_mut.ensures.value

pub invariant_of-self : goal.invariant_of-self
invariant_of-self c = record {
  blocks = subst (λ (ws : List InLit). AreBlocks ws 0) (sym (left c.before)) (blocks_closed c.self.inside.words.items 0 false c.self.invariant.blocks);
  few = few c.before;
  marked = rw (left c.before, mark_is c.before) (closed_before c.self.inside.mark c.self.inside.words.items false);
  distinct = all_distinct c.before;
}

pub returns-clause-clauses : goal.returns-clause-clauses
returns-clause-clauses c = same_contents c.before ∙ ap (λ (s : Store). contents s.held) c.self.view_is

pub returns-clause-hard : goal.returns-clause-hard
returns-clause-hard c = hard_of-contents (held_in c.truncate.new.self.items) c.args.self.now.held (same_contents c.before ∙ ap (λ (s : Store). contents s.held) c.self.view_is)

pub returns-clause-learned : goal.returns-clause-learned
returns-clause-learned c = learned_of-contents (held_in c.truncate.new.self.items) c.args.self.now.held (same_contents c.before ∙ ap (λ (s : Store). contents s.held) c.self.view_is)

pub returns-clause-given : goal.returns-clause-given
returns-clause-given c =
    ap length (left c.before)
    ∙ (length-closed 0 c.self.inside.words.items 0 false c.self.invariant.blocks
    ∙ (zero-add _ ∙ ap (λ (s : Store). sum_by (λ (h : Held). length h.lits + 1) s.held) c.self.view_is))

pub returns-clause-kept : goal.returns-clause-kept
returns-clause-kept c = stored_kept _ _ refl (invariant_of-self c)

pub returns-clause-marked : goal.returns-clause-marked
returns-clause-marked c =
    ap (λ ws. contents_below c.close_up-end.result.1 (held_in ws)) (left c.before)
    ∙ (contents_marked 0 0 c.close_up-end.result.1 c.self.inside.mark c.self.inside.mark c.self.inside.words.items 0 false c.self.invariant.blocks (mark_is c.before ∙ sym (zero-add _)) (sym (zero-add _))
    ∙ ap (λ (s : Store). contents (marked s)) c.self.view_is)
