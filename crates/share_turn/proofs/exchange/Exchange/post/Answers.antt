use Rattle.std.proofs.Common.{rules, ap, sym, ◌∙◌, subst}
use Rattle.atomic_table.specs.Table.{rest}
use Rattle.share_turn.specs.Steps.{IsStill}
use Rattle.share_turn.proofs.TurnSteps.{in_hand}
use Rattle.share_turn.proofs.OutcomeSteps.{asks, holds_up, lays, shows, may_move}
use Rattle.share_turn.proofs.exchange.Exchange.post.Goals as goal

pub compare_exchange-found-requires : goal.compare_exchange-found-requires
compare_exchange-found-requires c = (search rules, search rules, asks _ _ _ _ c.pass.invariant.alive c.pass.invariant.quiet)

pub load-requires : goal.load-requires
load-requires c =
    let won = c.compare_exchange-found.ensures.2.1 c.if-found-ne-UNCLAIMED.false in
    (search rules, search rules, holds_up _ _ _ _ c.self.invariant.1 (ap (λ v. v.spent) won ∙ c.pass.invariant.alive) (ap (λ v. v.claim) won))

pub load-requires-2 : goal.load-requires-2
load-requires-2 c =
    let won = c.compare_exchange-found.ensures.2.1 c.if-found-ne-UNCLAIMED.false in
    let up = c.load.ensures.2.1 in
    let put = c.exchange.ensures.3 in (
      search rules,
      search rules,
      lays _ _ _ _ c.args.outcome _ c.self.invariant.1 (ap (λ m. m.0.spent) put ∙ ap (λ v. v.spent) up ∙ ap (λ v. v.spent) won ∙ c.pass.invariant.alive) (ap (λ m. m.0.claim) put ∙ ap (λ v. v.claim) up)
          (ap (λ m. m.1) put)
          (may_move c.args.pass.now.view c.exchange.new.seat.me.0 c.args.outcome
          (ap (λ m. m.0.question) put ∙ ap (λ v. v.question) up ∙ ap (λ v. v.question) won ∙ ap (λ k. k.view.question) c.pass.view_is)
          (ap (λ m. m.0.first) put ∙ ap (λ v. v.first) up ∙ ap (λ v. v.first) won ∙ ap (λ k. k.view.first) c.pass.view_is) c.requires.right),
    )

pub store-requires : goal.store-requires
store-requires c =
    let won = c.compare_exchange-found.ensures.2.1 c.if-found-ne-UNCLAIMED.false in
    let up = c.load.ensures.2.1 in
    let put = c.exchange.ensures.3 in
    let done = c.load-2.ensures.2.1 c.args.outcome (in_hand _ _ _ (ap (λ m. m.1) put)) in
    (search rules, search rules, shows _ _ _ _ (ap (λ v. v.spent) done ∙ ap (λ m. m.0.spent) put ∙ ap (λ v. v.spent) up ∙ ap (λ v. v.spent) won ∙ c.pass.invariant.alive) (ap (λ v. v.claim) done))

pub invariant_of-pass-2 : goal.invariant_of-pass-2
invariant_of-pass-2 c =
    let won = c.compare_exchange-found.ensures.2.1 c.if-found-ne-UNCLAIMED.false in
    let up = c.load.ensures.2.1 in
    let put = c.exchange.ensures.3 in
    let done = c.load-2.ensures.2.1 c.args.outcome (in_hand _ _ _ (ap (λ m. m.1) put)) in
    let last = c.store.ensures.2.1 in
    record {
      none_out = c.store.ensures.2.0 ∙ c.load-2.ensures.2.0 ∙ ap (λ m. rest m.1) put ∙ ap rest c.load.ensures.2.0 ∙ c.compare_exchange-found.ensures.2.0 ∙ c.pass.invariant.none_out;
      still = subst IsStill (sym (ap (λ v. v.turn) last ∙ ap (λ v. v.turn) done ∙ ap (λ m. m.0.turn) put ∙ ap (λ v. v.turn) up ∙ ap (λ v. v.turn) won)) c.pass.invariant.still;
      quiet = ap (λ v. v.claim) last;
      alive = ap (λ v. v.spent) last ∙ ap (λ v. v.spent) done ∙ ap (λ m. m.0.spent) put ∙ ap (λ v. v.spent) up ∙ ap (λ v. v.spent) won ∙ c.pass.invariant.alive;
    }
