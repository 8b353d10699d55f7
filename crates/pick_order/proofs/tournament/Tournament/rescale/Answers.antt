use Rattle.std.proofs.Common.{◌≡◌, ◌+◌, ◌∙◌, ap, drop, length, List, Option, option_map, arith}
use Rattle.std.proofs.lemmas.List.{with_items_is}
use Rattle.std.specs.Vec.{with_items}
use Rattle.pick_order.specs.declared.preference.Candidate.{Candidate}
use Rattle.pick_order.specs.Preferences.{rescaled_candidate}
use Rattle.pick_order.specs.Tournaments.{entrant}
use Rattle.pick_order.proofs.Matches.{rescaled_view}
use Rattle.pick_order.proofs.tournament.Tournament.rescale.Goals as goal

pub returns-clause-rescaled : goal.returns-clause-rescaled
returns-clause-rescaled c k =
    let n : length c.rescale_all.new.places ≡ c.self.inside.count + c.self.inside.count = omega (arith, c.rescale_all.auto.places, ap length c.deref_mut.ensures.value, c.self.invariant.sized) in
    let e : (with_items c.self.inside.places c.rescale_all.new.places).items ≡ c.rescale_all.new.places = with_items_is c.self.inside.places c.rescale_all.new.places (omega (arith, n, c.self.invariant.sized, c.self.inside.places.ok.0)) in
    ap (λ (z : List (Option Candidate)). entrant (drop c.self.inside.count z) k) e
    ∙ rescaled_view c.self.inside.places.items c.rescale_all.new.places c.args.self.now c.self.inside.count c.self.invariant.sized n c.self.view_is
    (λ j l. c.rescale_all.ensures.rescaled j l ∙ ap (λ (z : List (Option Candidate)). option_map rescaled_candidate (entrant z (c.self.inside.count + j))) c.deref_mut.ensures.value) k
