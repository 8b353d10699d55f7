use Rattle.std.proofs.Common.{◌≡◌, ◌∙◌, sym, subst}
use Rattle.one_solver.specs.Parts.{Parts}
use Rattle.share_turn.specs.Views.{Known}
use Rattle.race.specs.Seating.{IsNewAt, IsSeatOf}
use Rattle.race.proofs.Outing.{takes_seat}
use Rattle.race.proofs.seats.seat.Goals as goal

pub returns-clause-left : goal.returns-clause-left
returns-clause-left c =
    let n = c.new.ensures in
    subst (IsNewAt c.args.solver.now.number) (sym c.replace-taken.ensures.after)
    (record { number = n.number ∙ c.number-number.ensures; new = record { problem = n.problem; okay = n.okay; conflicts = n.conflicts; in_step = n.in_step } })

pub returns-clause-seat : goal.returns-clause-seat
returns-clause-seat c limit k number =
    let q = c.args.first.now.view.question in
    let t = c.args.exchange.now in
    let r = c.new-3.ensures in
    subst (λ (s : Parts). IsSeatOf limit q t k s c.new-3.result.watch.pass) (sym (r.solver ∙ c.replace-taken.ensures.value))
    (subst (λ (p : Known). IsSeatOf limit q t k c.args.solver.now p) (sym (r.pass ∙ c.split-pass.ensures.new))
    (takes_seat limit t k c.args.solver.now c.args.first.now c.requires.first c.requires.known c.requires.entrant number))
