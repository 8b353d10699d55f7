use Rattle.std.proofs.Common.{rules, ◌≡◌, false, sym, ap, ◌∙◌, subst}
use Rattle.share_turn.specs.declared.view.Phase.TheVariants.{Away, Out}
use Rattle.share_turn.specs.declared.view.Question.{Question}
use Rattle.share_turn.specs.Views.{IsLegalFor}
use Rattle.share_turn.specs.Steps.{phase_back}
use Rattle.share_turn.proofs.TurnSteps.{reaches, lands, releases, in_hand}
use Rattle.share_turn.proofs.exchange.Exchange.give.Goals as goal

pub load-requires : goal.load-requires
load-requires c =
    let is : c.pass.inside.seat.me.0.turn ≡ Out c.requires.turn.0 = ap (λ k. k.view.turn) c.pass.view_is ∙ c.requires.turn.1 in
    (search rules, search rules, reaches _ _ _ _ c.requires.turn.0 c.self.invariant.1 is c.pass.invariant.alive)

pub load-requires-2 : goal.load-requires-2
load-requires-2 c =
    let is : c.pass.inside.seat.me.0.turn ≡ Out c.requires.turn.0 = ap (λ k. k.view.turn) c.pass.view_is ∙ c.requires.turn.1 in
    let put = c.exchange.ensures.3 in
    let out = c.load.ensures.2.1 in
    let at : c.exchange.new.seat.me.0.turn ≡ Away c.requires.turn.0 = ap (λ m. m.0.turn) put ∙ ap (λ v. v.turn) out ∙ ap phase_back is in
    let alive : c.exchange.new.seat.me.0.spent ≡ false = ap (λ m. m.0.spent) put ∙ ap (λ v. v.spent) out ∙ c.pass.invariant.alive in
    let question : c.exchange.new.seat.me.0.question ≡ c.args.pass.now.view.question = ap (λ m. m.0.question) put ∙ ap (λ v. v.question) out ∙ ap (λ k. k.view.question) c.pass.view_is in (
      search rules,
      search rules,
      lands _ _ _ _ c.requires.turn.0 c.args.store _ c.self.invariant.1 at (ap (λ m. m.1) put) alive
          (subst (λ (z : Question). IsLegalFor z c.args.store) (sym question) c.requires.legal) c.requires.turn.2,
    )

pub store-requires : goal.store-requires
store-requires c =
    let hand = ap (λ m. m.1) c.exchange.ensures.3 in
    let back = c.load-2.ensures.2.1 c.args.store (in_hand _ _ _ hand) in
    (search rules, search rules, releases _ _ _ _ c.args.store (ap (λ v. v.turn) back) (ap (λ v. v.spent) back ∙ ap (λ m. m.0.spent) c.exchange.ensures.3 ∙ ap (λ v. v.spent) c.load.ensures.2.1 ∙ c.pass.invariant.alive))
