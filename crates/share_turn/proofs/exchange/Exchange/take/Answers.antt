use Rattle.std.proofs.Common.{rules, ◌≡◌, Some, ap, ◌∙◌}
use Rattle.share_turn.specs.declared.held.Held.TheVariants.{Stored}
use Rattle.share_turn.specs.declared.view.Phase.TheVariants.{Free, Away}
use Rattle.share_turn.proofs.TurnSteps.{tries, lifts, empties, in_hand}
use Rattle.share_turn.proofs.exchange.Exchange.take.Goals as goal

pub compare_exchange-found-requires : goal.compare_exchange-found-requires
compare_exchange-found-requires c =
    let free : c.pass.inside.seat.me.0.turn ≡ Free = cc in
    (search rules, search rules, tries _ _ _ _ free c.pass.invariant.alive)

pub load-requires : goal.load-requires
load-requires c =
    let won = c.compare_exchange-found.ensures.2.1 c.if-found-ne-TURN_FREE.false in
    (search rules, search rules, lifts _ _ _ _ c.self.invariant.1 (ap (λ v. v.turn) won) (ap (λ v. v.spent) won ∙ c.pass.invariant.alive))

pub exchange-held-requires : goal.exchange-held-requires
exchange-held-requires c =
    let up = c.load.ensures.2 in
    (search rules, (Some (Stored up.0), in_hand _ _ _ up.1))

pub load-requires-2 : goal.load-requires-2
load-requires-2 c =
    let up = c.load.ensures.2 in
    let put = c.exchange-held.ensures.3 in
    let at : c.exchange-held.new.seat.me.0.turn ≡ Away up.0 = ap (λ m. m.0.turn) put ∙ ap (λ v. v.turn) up.4 in (
      search rules,
      search rules,
      empties _ _ _ _ up.0 _ c.self.invariant.1 at (ap (λ m. m.1) put)
          (ap (λ m. m.0.spent) put ∙ ap (λ v. v.spent) up.4 ∙ ap (λ v. v.spent) (c.compare_exchange-found.ensures.2.1 c.if-found-ne-TURN_FREE.false) ∙ c.pass.invariant.alive),
    )
