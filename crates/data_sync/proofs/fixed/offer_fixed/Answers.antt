use Rattle.std.proofs.Common.{◌≡◌, ◌<◌, ◌+◌, ◌∙◌, ℕ, suc, ap, sym, subst, List, [], ◌∷◌, ◌++◌, length, get_or, take, drop, take-append-drop, take-suc, take_all, arith}
use Rattle.std.proofs.lemmas.List.Elements.{All-push, All-weaker, All-append}
use Rattle.std.specs.List.{All}
use Rattle.rebuild_stack.specs.declared.entry.Entry.{Entry}
use Rattle.state_laws.specs.State.{State}
use Rattle.state_laws.specs.Kernel.{Kernel, state_of}
use Rattle.sync_laws.specs.Told.{IsToldEntry}
use Rattle.sync_laws.specs.ToldLaws.{entry_grows}
use Rattle.data_sync.specs.GivingLaws.{turns_through}
use Rattle.data_sync.proofs.fixed.offer_fixed.Goals as goal

next : (xs : List Entry) (n : ℕ) (e : Entry) → n < length xs → e ≡ get_or xs n e → take (n + 1) xs ≡ take n xs ++ e ∷ []
next xs n e h q = ap (λ (k : ℕ). take k xs) (let a : n + 1 ≡ suc n = omega arith in a) ∙ (take-suc xs n e h ∙ ap (λ (x : Entry). take n xs ++ x ∷ []) (sym q))

pub offer-preserved : goal.offer-preserved
offer-preserved c =
    let k : Kernel = c.args.state.now in
    let s : State = state_of k in
    let xs : List Entry = drop k.stack_mark k.stack in
    let items : c.new_entries-entry-items.result.now ≡ xs = c.new_entries-entry-items.ensures in
    let within : c.offer.entry-index < length xs = subst (λ (z : List Entry). c.offer.entry-index < length z) items c.offer-test.true in
    record {
      turns = turns_through s c.args.solver c.args.after c.args.store.now c.offer.store c.offer_entry.new.store c.offer.invariant.turns c.in_ok-offer_entry.ensures.turns;
      told = subst (λ (z : List Entry). All (IsToldEntry s c.offer_entry.new.store) z)
          (sym (next xs c.offer.entry-index c.entry-item.result within (c.entry-item.is ∙ ap (λ (z : List Entry). get_or z c.offer.entry-index c.entry-item.result) items)))
          (All-push (IsToldEntry s c.offer_entry.new.store) (take c.offer.entry-index xs) c.entry-item.result
          (All-weaker (IsToldEntry s c.offer.store) (IsToldEntry s c.offer_entry.new.store) (entry_grows s c.offer.store c.offer_entry.new.store c.in_ok-offer_entry.ensures.turns.keeps) (take c.offer.entry-index xs) c.offer.invariant.told)
          c.in_ok-offer_entry.ensures.told);
      earlier = omega (arith, c.offer.invariant.earlier, c.in_ok-offer_entry.ensures.turns.longer);
    }

pub returns-clause-told : goal.returns-clause-told
returns-clause-told c =
    let k : Kernel = c.args.state.now in
    let s : State = state_of k in
    let xs : List Entry = drop k.stack_mark k.stack in
    let items : length c.new_entries-entry-items.result.now ≡ length xs = ap length c.new_entries-entry-items.ensures in
    subst (λ (z : List Entry). All (IsToldEntry s c.offer.store) z) (take-append-drop k.stack_mark k.stack)
    (All-append (IsToldEntry s c.offer.store) (take k.stack_mark k.stack) xs
    (All-weaker (IsToldEntry s c.args.store.now) (IsToldEntry s c.offer.store) (entry_grows s c.args.store.now c.offer.store c.offer.invariant.turns.keeps) (take k.stack_mark k.stack) c.requires.told.stack)
    (subst (λ (z : List Entry). All (IsToldEntry s c.offer.store) z) (take_all c.offer.entry-index xs (omega (arith, c.offer-test.false, items))) c.offer.invariant.told))
