use Rattle.std.proofs.Common.{◌≡◌, ◌+◌, ◌∙◌, ap, drop, length, List, Option, arith}
use Rattle.std.proofs.lemmas.List.{with_items_is}
use Rattle.std.specs.Vec.{with_items}
use Rattle.pick_order.specs.declared.preference.Candidate.{Candidate}
use Rattle.pick_order.specs.Tournaments.{entrant}
use Rattle.pick_order.proofs.Matches.{entered_view}
use Rattle.pick_order.proofs.tournament.Tournament.over.Goals as goal

pub returns-clause-entered : goal.returns-clause-entered
returns-clause-entered c v =
    let m : c.resize.new.self.len ≡ length c.args.preferences.now + length c.args.preferences.now = omega (arith, c.in_ok-resize.ensures.len) in
    let n : length c.enter_all.new.places ≡ length c.args.preferences.now + length c.args.preferences.now = omega (arith, c.enter_all.auto.places, c.deref_mut.ensures.len, m) in
    let e : (with_items c.resize.new.self c.enter_all.new.places).items ≡ c.enter_all.new.places = with_items_is c.resize.new.self c.enter_all.new.places (omega arith) in
    ap (λ (z : List (Option Candidate)). entrant (drop (length c.args.preferences.now) z) v) e
    ∙ entered_view c.enter_all.new.places c.args.preferences.now n c.enter_all.ensures.entered v
