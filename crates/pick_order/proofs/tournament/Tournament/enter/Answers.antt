use Rattle.std.proofs.Common.{◌≡◌, ◌+◌, ◌∙◌, ap, drop, length, List, Option, subst, sym, arith}
use Rattle.std.proofs.lemmas.List.{length-set, with_items_is}
use Rattle.std.specs.Vec.{with_item, with_items}
use Rattle.pick_order.specs.declared.preference.Candidate.{Candidate}
use Rattle.pick_order.specs.Tournaments.{IsPlayed}
use Rattle.pick_order.proofs.Matches.{played_enter, entrants_count, entered}
use Rattle.pick_order.proofs.tournament.Tournament.enter.Goals as goal
use Rattle.pick_order.proofs.tournament.Tournament.enter.Goals.{After-play_up}

pub play_up-requires : goal.play_up-requires
play_up-requires c =
    let n : length c.args.self.now ≡ c.self.inside.count = entrants_count c.self.inside.places.items c.args.self.now c.self.inside.count c.self.invariant.sized c.self.view_is in
    rw c.deref_mut.ensures.value
    (record {
      sized = length-set c.self.inside.places.items (c.self.inside.count + c.args.at) c.args.candidate ∙ c.self.invariant.sized;
      from = omega arith;
      within = omega arith;
      others =
          played_enter c.self.inside.places.items (c.self.inside.count + c.args.at) c.self.inside.count c.args.candidate (omega arith)
          (omega (arith, c.self.invariant.sized)) c.self.invariant.played;
    })

sized : (c : After-play_up) → length c.play_up.new.places ≡ c.self.inside.count + c.self.inside.count
sized c =
    omega
    (arith, c.play_up.auto.places, ap length c.deref_mut.ensures.value, length-set c.self.inside.places.items (c.self.inside.count + c.args.at) c.args.candidate, c.self.invariant.sized)

kept : (c : After-play_up) → (with_items (with_item c.self.inside.places (c.self.inside.count + c.args.at) c.args.candidate) c.play_up.new.places).items ≡ c.play_up.new.places
kept c = with_items_is (with_item c.self.inside.places (c.self.inside.count + c.args.at) c.args.candidate) c.play_up.new.places (omega (arith, sized c, c.self.invariant.sized, c.self.inside.places.ok.0))

pub invariant_of-self : goal.invariant_of-self
invariant_of-self c =
    let d : After-play_up = (goal.at.invariant_of-self c).After-play_up in
    record {
      sized = ap length (kept d) ∙ sized d;
      played = subst (λ (z : List (Option Candidate)). IsPlayed z c.self.inside.count) (sym (kept d)) c.play_up.ensures.played;
    }

pub returns : goal.returns
returns c =
    let d : After-play_up = (goal.at.returns c).After-play_up in
    ap (drop c.self.inside.count) (kept d)
    ∙ entered c.self.inside.places.items c.play_up.new.places c.args.self.now c.self.inside.count c.args.at c.args.candidate c.self.view_is
    (c.play_up.ensures.same ∙ ap (drop c.self.inside.count) c.deref_mut.ensures.value)
