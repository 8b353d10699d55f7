use Rattle.std.proofs.Common.{◌≡◌, List, Option, None, drop, subst, sym, arith}
use Rattle.std.proofs.lemmas.List.{get_or_read}
use Rattle.pick_order.specs.declared.preference.Candidate.{Candidate}
use Rattle.pick_order.specs.Tournaments.{IsFirst, entrant}
use Rattle.pick_order.proofs.Matches.{root_first, none_first}
use Rattle.pick_order.proofs.tournament.Tournament.first.Goals as goal

pub returns-then-self-eq0 : goal.returns-then-self-eq0
returns-then-self-eq0 c = none_first c.self.inside.places.items c.args.self.now c.self.inside.count c.self.invariant.sized c.if-self-eq0.true c.self.view_is

pub returns-else-self-eq0 : goal.returns-else-self-eq0
returns-else-self-eq0 c =
    let e : c.index.result.now ≡ entrant c.self.inside.places.items 1 = get_or_read c.self.inside.places.items 1 c.index.result.now (omega (arith, c.self.invariant.sized)) c.index.ensures None in
    subst (λ (z : List (Option Candidate)). IsFirst z c.index.result.now) c.self.view_is
    (subst (λ (z : Option Candidate). IsFirst (drop c.self.inside.count c.self.inside.places.items) z) (sym e) (root_first c.self.inside.places.items c.self.inside.count c.self.invariant.sized c.self.invariant.played))
