use Rattle.std.proofs.Common.{◌≡◌, ◌∙◌, Bool, ◌&&◌, not, refl, ap, ap₂, length, List, Option, subst, sym, arith}
use Rattle.std.proofs.lemmas.List.{with_items_is}
use Rattle.std.specs.Vec.{with_items}
use Rattle.std.specs.Option.{is_some}
use Rattle.pick_order.specs.declared.preference.Preference.{Preference}
use Rattle.pick_order.specs.Preferences.{IsLimited, preference_in, raised, bumped}
use Rattle.pick_order.specs.Orders.{Order, is_passed}
use Rattle.pick_order.specs.Queues.{IsQueued, IsCarried}
use Rattle.pick_order.specs.Laws.{bumped_active}
use Rattle.pick_order.proofs.Raising.{bumped_is, carried_on, queued_carried, candidates_carried}
use Rattle.pick_order.proofs.order.PickOrder.bump.Goals as goal
use Rattle.pick_order.proofs.order.PickOrder.bump.Goals.{After-raise}

roomy : (c : After-raise) → c.deref_mut-2.result.now ≡ c.make_room-by.new.preferences
roomy c =
    c.deref_mut-2.ensures.value
    ∙ with_items_is c.self.inside.preferences c.make_room-by.new.preferences (omega (arith, c.make_room-by.auto.preferences, ap length c.deref_mut.ensures.value, c.self.inside.preferences.ok.0))

kept : (c : After-raise) → (with_items (with_items c.self.inside.preferences c.make_room-by.new.preferences) c.raise.new.preferences).items ≡ c.raise.new.preferences
kept c =
    with_items_is (with_items c.self.inside.preferences c.make_room-by.new.preferences) c.raise.new.preferences
    (omega (arith, c.raise.auto.preferences, ap length (roomy c), c.make_room-by.auto.preferences, ap length c.deref_mut.ensures.value, c.self.inside.preferences.ok.0))

carried : (c : After-raise) → IsCarried c.self.inside.preferences.items c.self.inside.tournament c.raise.new.preferences c.raise.new.tournament
carried c =
    carried_on _ c.make_room-by.new.preferences _ _ c.make_room-by.new.tournament _
    (subst (λ (z : List (Option Preference)). IsCarried z c.self.inside.tournament c.make_room-by.new.preferences c.make_room-by.new.tournament) c.deref_mut.ensures.value c.make_room-by.ensures.carried)
    (subst (λ (z : List (Option Preference)). IsCarried z c.make_room-by.new.tournament c.raise.new.preferences c.raise.new.tournament) (roomy c) c.raise.ensures.carried)

known : (c : After-raise) → c.raise.new.preferences ≡ bumped c.args.var.0 c.self.inside.increment c.self.inside.preferences.items
known c =
    c.raise.ensures.order
    ∙ (ap (raised c.args.var.0 c.make_room-by.result) (roomy c)
    ∙ (bumped_is c.deref_mut.result.now c.make_room-by.new.preferences c.args.var.0 c.self.inside.increment c.make_room-by.result _ refl c.make_room-by.ensures.value c.make_room-by.ensures.order
    ∙ ap (bumped c.args.var.0 c.self.inside.increment) c.deref_mut.ensures.value))

pub invariant_of-self : goal.invariant_of-self
invariant_of-self c =
    let d : After-raise = (goal.at.invariant_of-self c).After-raise in
    record {
      queued = subst (λ (z : List (Option Preference)). IsQueued z c.raise.new.tournament) (sym (kept d)) (queued_carried _ _ c.raise.new.preferences c.raise.new.tournament c.self.invariant.queued (carried d));
      numbers = omega (arith, ap length (kept d), (carried d).sized, c.self.invariant.numbers);
      limit = subst IsLimited (sym (kept d)) c.raise.ensures.limit;
      grows = omega (arith, c.make_room-by.ensures.least);
      within = omega (arith, c.make_room-by.ensures.least);
    }

pub returns-clause-known : goal.returns-clause-known
returns-clause-known c =
    let d : After-raise = (goal.at.returns-clause-known c).After-raise in
    kept d ∙ (known d ∙ ap (λ (o : Order). bumped c.args.var.0 o.increment o.known) c.self.view_is)

pub returns-clause-passed : goal.returns-clause-passed
returns-clause-passed c v =
    let d : After-raise = (goal.at.returns-clause-passed c).After-raise in
    let a : is_some (preference_in c.raise.new.preferences v) ≡ is_some (preference_in c.self.inside.preferences.items v) =
    ap (λ (z : List (Option Preference)). is_some (preference_in z v)) (known d) ∙ bumped_active c.args.var.0 c.self.inside.increment c.self.inside.preferences.items v in
    ap₂ (λ (x y : Bool). x && not y) (ap (λ (z : List (Option Preference)). is_some (preference_in z v)) (kept d) ∙ a)
    (candidates_carried _ _ c.raise.new.preferences c.raise.new.tournament c.self.invariant.queued (carried d) v a)
    ∙ ap (λ (o : Order). is_passed o v) c.self.view_is
