use Rattle.std.proofs.Common.{◌≡◌, ◌<◌, ◌+◌, ◌-◌, ◌∙◌, ℕ, suc, true, ap, sym, subst, List, [], ◌∷◌, ◌++◌, length, length-drop, get_or, take, drop, take-suc, take_all, arith}
use Rattle.std.proofs.lemmas.List.Elements.{All-push, All-weaker}
use Rattle.std.specs.List.{All}
use Rattle.clause_store.specs.Store.{Store}
use Rattle.indexed_store.specs.Lists.{are_below}
use Rattle.indexed_store.specs.declared.short_id.ShortId.{ShortId}
use Rattle.state_laws.specs.State.{State}
use Rattle.state_laws.specs.Kernel.{Kernel, state_of}
use Rattle.sync_laws.specs.Told.{IsToldClause}
use Rattle.sync_laws.specs.ToldLaws.{clause_grows}
use Rattle.data_sync.specs.Giving.{IsToldAt}
use Rattle.data_sync.specs.GivingLaws.{turns_through}
use Rattle.data_sync.specs.PairLaws.{all_told}
use Rattle.data_sync.proofs.binaries.offer_binaries.Goals as goal

next : (xs : List ShortId) (n : ℕ) (d : ShortId) → n < length xs → take (n + 1) xs ≡ take n xs ++ get_or xs n d ∷ []
next xs n d h = ap (λ (k : ℕ). take k xs) (let a : n + 1 ≡ suc n = omega arith in a) ∙ take-suc xs n d h

pub offer-preserved : goal.offer-preserved
offer-preserved c =
    let k : Kernel = c.args.state.now in
    let s : State = state_of k in
    let ids : List ShortId = c.pairs-ids.result.now in
    let xs : List ShortId = take (length ids - c.count_below-start.result) (drop c.count_below-start.result ids) in
    let d : ShortId = record { 0 = 0 } in
    record {
      turns = turns_through s c.args.solver c.args.after c.args.store.now c.offer.store c.offer_live.new.store c.offer.invariant.turns c.in_ok-offer_live.ensures.turns;
      told = subst (λ (z : List ShortId). All (λ id. IsToldAt k c.offer_live.new.store id.0) z) (sym (next xs c.offer.id-index d c.offer-test.true))
          (All-push (λ id. IsToldAt k c.offer_live.new.store id.0) (take c.offer.id-index xs) (get_or xs c.offer.id-index d)
          (All-weaker (λ (id : ShortId). IsToldAt k c.offer.store id.0) (λ id. IsToldAt k c.offer_live.new.store id.0)
          (λ id a h e l. clause_grows s c.offer.store c.offer_live.new.store c.in_ok-offer_live.ensures.turns.keeps _ (a h e l)) (take c.offer.id-index xs) c.offer.invariant.told)
          (subst (λ (n : ℕ). IsToldAt k c.offer_live.new.store n) c.whole.ensures c.in_ok-offer_live.ensures.told));
      earlier = omega (arith, c.offer.invariant.earlier, c.in_ok-offer_live.ensures.turns.longer);
    }

pub returns-clause-told : goal.returns-clause-told
returns-clause-told c =
    let k : Kernel = c.args.state.now in
    let s : State = state_of k in
    let ids : List ShortId = c.pairs-ids.result.now in
    let n : ℕ = c.count_below-start.result in
    let xs : List ShortId = take (length ids - n) (drop n ids) in
    let l : length (drop n ids) ≡ length ids - n = length-drop n ids in
    let all : xs ≡ drop n ids = take_all (length ids - n) (drop n ids) (omega (arith, l)) in
    let mark : c.mark.result ≡ k.store.mark = c.mark.ensures.value ∙ ap (λ (z : Store). z.mark) c.clauses.ensures.value in
    all_told k c.offer.store ids n c.clauses.ensures.standing c.pairs-ids.ensures.value (subst (λ (m : ℕ). are_below m (take n ids) ≡ true) mark c.count_below-start.ensures.below)
    (subst (λ (z : List ShortId). All (λ id. IsToldAt k c.offer.store id.0) z) (take_all c.offer.id-index xs (omega (arith, c.offer-test.false)) ∙ all) c.offer.invariant.told)
    (All-weaker (IsToldClause s c.args.store.now) (IsToldClause s c.offer.store) (clause_grows s c.args.store.now c.offer.store c.offer.invariant.turns.keeps) s.marked_learned c.requires.told.learned)
