use Rattle.std.proofs.Common.{◌≡◌, ◌∙◌, [], ◌∷◌, ◌++◌, true, ◌+◌, ◌≤◌, ◌^◌, suc, ap, refl, sym, subst, arith, List, length, length-append}
use Rattle.std.specs.List.{list_all}
use Rattle.sat_lits.specs.InLits.{is_distinct}
use Rattle.sat_lits.specs.declared.literal.InLit.{InLit}
use Rattle.clause_store.specs.Store.{held_as}
use Rattle.clause_store.specs.Words.{header_of, held_in, can_stand, AreBlocks}
use Rattle.clause_store.specs.Laws.{marked_more}
use Rattle.clause_store.proofs.Blocks.{blocks-add, held_in-add, add_distinct, stored_kept}
use Rattle.clause_store.proofs.store.ClauseStore.add.Goals as goal
use Rattle.clause_store.proofs.store.ClauseStore.add.Goals.{After-append}

-- the words after the clause was added
longer : (c : After-append) → c.append.new.words.items ≡ c.self.inside.words.items ++ (header_of (length c.args.lits.now) c.args.learned ∷ c.args.lits.now)
longer c = c.append.ensures ∙ ap (λ (ws : List InLit). ws ++ (header_of (length c.args.lits.now) c.args.learned ∷ c.args.lits.now)) c.in_ok-reserve.ensures.items

stands : (c : After-append) → can_stand c.args.lits.now ≡ true
stands c = sym c.can_stand.ensures ∙ c.if-not-can_stand.false

all_distinct : (c : After-append) → list_all (λ h. is_distinct h.lits) (held_in c.append.new.words.items) ≡ true
all_distinct c = rw (longer c) (add_distinct c.self.inside.words.items c.args.lits.now c.args.learned c.self.invariant.blocks (stands c) c.self.invariant.distinct c.requires)

-- there are not too many of them
few : (c : After-append) → length c.append.new.words.items ≤ 2 ^ 32
few c =
    let l : length c.append.new.words.items ≡ length c.self.inside.words.items + suc (length c.args.lits.now) = ap length (longer c) ∙ length-append c.self.inside.words.items _ in
    omega (arith, l, c.len-place.ensures, c.self.inside.words.ok.0, c.self.invariant.few, c.if-lits-place.false)

-- the mark is not past them
marked : (c : After-append) → c.self.inside.mark ≤ length c.append.new.words.items
marked c =
    let l : length c.append.new.words.items ≡ length c.self.inside.words.items + suc (length c.args.lits.now) = ap length (longer c) ∙ length-append c.self.inside.words.items _ in
    omega (arith, l, c.self.invariant.marked)

pub invariant_of-self-2 : goal.invariant_of-self-2
invariant_of-self-2 c = record {
  blocks = subst (λ (ws : List InLit). AreBlocks ws 0) (sym (longer c)) (blocks-add c.self.inside.words.items c.args.lits.now c.args.learned c.self.invariant.blocks (stands c));
  few = few c;
  marked = marked c;
  distinct = all_distinct c;
}

pub returns-clause-held : goal.returns-clause-held
returns-clause-held c =
    rw (longer c, held_in-add c.self.inside.words.items c.args.lits.now c.args.learned c.self.invariant.blocks (stands c), ← c.self.view_is)
    (ap (λ n. held_in c.self.inside.words.items ++ held_as n c.args.learned c.args.lits.now ∷ []) (sym (c.len-place.ensures ∙ c.self.inside.words.ok.0)))

pub returns-then-not-can_stand-clause-kept : goal.returns-then-not-can_stand-clause-kept
returns-then-not-can_stand-clause-kept c = stored_kept c.self.inside c.args.self.now c.self.view_is c.self.invariant

pub returns-then-not-can_stand-clause-stays_kept : goal.returns-then-not-can_stand-clause-stays_kept
returns-then-not-can_stand-clause-stays_kept c = stored_kept c.self.inside c.args.self.now c.self.view_is c.self.invariant

pub returns-in_err-reserve-clause-kept : goal.returns-in_err-reserve-clause-kept
returns-in_err-reserve-clause-kept c = stored_kept c.self.inside c.args.self.now c.self.view_is c.self.invariant

pub returns-in_err-reserve-clause-stays_kept : goal.returns-in_err-reserve-clause-stays_kept
returns-in_err-reserve-clause-stays_kept c =
    stored_kept (record c.self.inside { words = c.reserve.new.self }) _ refl
    (record {
      blocks = rw c.in_err-reserve.ensures.items c.self.invariant.blocks;
      few = rw c.in_err-reserve.ensures.items c.self.invariant.few;
      marked = rw c.in_err-reserve.ensures.items c.self.invariant.marked;
      distinct = rw c.in_err-reserve.ensures.items c.self.invariant.distinct;
    })

pub returns-clause-kept : goal.returns-clause-kept
returns-clause-kept c = stored_kept c.self.inside c.args.self.now c.self.view_is c.self.invariant

pub returns-clause-stays_kept : goal.returns-clause-stays_kept
returns-clause-stays_kept c = stored_kept _ _ refl (invariant_of-self-2 c)

pub returns-then-lits-place-clause-kept : goal.returns-then-lits-place-clause-kept
returns-then-lits-place-clause-kept c = stored_kept c.self.inside c.args.self.now c.self.view_is c.self.invariant

pub returns-then-lits-place-clause-stays_kept : goal.returns-then-lits-place-clause-stays_kept
returns-then-lits-place-clause-stays_kept c = stored_kept c.self.inside c.args.self.now c.self.view_is c.self.invariant

pub returns-clause-marked : goal.returns-clause-marked
returns-clause-marked c =
    let place : c.len-place.result ≡ length c.self.inside.words.items = c.len-place.ensures ∙ c.self.inside.words.ok.0 in
    rw (longer c, held_in-add c.self.inside.words.items c.args.lits.now c.args.learned c.self.invariant.blocks (stands c), ← c.self.view_is)
    (marked_more (held_in c.self.inside.words.items) c.self.inside.mark (held_as (length c.self.inside.words.items) c.args.learned c.args.lits.now) c.self.invariant.marked)
