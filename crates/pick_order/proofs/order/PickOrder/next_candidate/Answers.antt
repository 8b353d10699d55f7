use Rattle.std.proofs.Common.{◌≡◌, ◌<◌, ◌∙◌, Some, None, length, not, refl, sym, subst, arith}
use Rattle.std.proofs.lemmas.List.{get_or_read}
use Rattle.pick_order.specs.Preferences.{preference_in, AllSet, IsPick}
use Rattle.pick_order.specs.Orders.{Order, HasPassedSet}
use Rattle.pick_order.specs.Inside.{order_of}
use Rattle.pick_order.specs.Queues.{IsQueued}
use Rattle.pick_order.proofs.Queueing.{placed, queued_lost, passed_lost, none_left, picked, first_within}
use Rattle.pick_order.proofs.order.PickOrder.next_candidate.Goals as goal
use Rattle.pick_order.proofs.order.PickOrder.next_candidate.Goals.{After-pass_over}

pub pass_over-requires : goal.pass_over-requires
pass_over-requires c = placed c.self.inside.preferences.items c.self.inside.tournament c.self.invariant.queued

-- what was passed over then
abbrev order : (c : After-pass_over) → Order
order c = record (order_of c.self.inside) { candidates = c.pass_over.new.tournament }

queued : (c : After-pass_over) → IsQueued c.self.inside.preferences.items c.pass_over.new.tournament
queued c = queued_lost c.self.inside.preferences.items c.args.trail.now.steps c.self.inside.tournament c.pass_over.new.tournament c.self.invariant.queued c.pass_over.ensures.lost

sets : (c : After-pass_over) → HasPassedSet (order c) c.args.trail.now.steps
sets c =
    passed_lost (order_of c.self.inside) c.args.trail.now.steps c.pass_over.new.tournament
    (subst (λ (o : Order). HasPassedSet o c.args.trail.now.steps) (sym c.self.view_is) c.requires) c.pass_over.ensures.lost

pub returns-in_err-first-clause-none : goal.returns-in_err-first-clause-none
returns-in_err-first-clause-none c =
    let d : After-pass_over = (goal.at.returns-in_err-first-clause-none c).After-pass_over in (
      λ n. subst (λ (o : Order). AllSet o.known c.args.trail.now.steps) c.self.view_is (none_left (order d) (queued d) c.args.trail.now.steps (sets d) c.in_err-first.ensures.first),
      λ all. rw c.from_residual.ensures refl,
    )

pub returns-clause-some : goal.returns-clause-some
returns-clause-some c =
    let d : After-pass_over = (goal.at.returns-clause-some c).After-pass_over in
    let w : c.in_ok-first.first.var.0 < length c.pass_over.new.tournament =
    first_within c.pass_over.new.tournament (placed c.self.inside.preferences.items c.pass_over.new.tournament (queued d)) c.in_ok-first.first c.in_ok-first.ensures.first in
    let l : c.in_ok-first.first.var.0 < length c.self.inside.preferences.items = omega (arith, (queued d).sized) in
    let p : preference_in c.self.inside.preferences.items c.in_ok-first.first.var.0 ≡ Some c.unwrap-preference.result =
    sym (get_or_read c.self.inside.preferences.items c.in_ok-first.first.var.0 c.index.result.now l c.index.ensures None) ∙ c.unwrap-preference.ensures in (
      c.unwrap-preference.result,
      subst (λ (o : Order). IsPick o.known c.args.trail.now.steps (record { var = c.in_ok-first.first.var; negative = not c.unwrap-preference.result.phase }) c.unwrap-preference.result) c.self.view_is
          (picked (order d) (queued d) c.args.trail.now.steps (sets d) c.in_ok-first.first (record { var = c.in_ok-first.first.var; negative = not c.unwrap-preference.result.phase }) c.unwrap-preference.result
          c.in_ok-first.ensures.first c.in_ok-first.ensures.unset p refl refl),
    )
