use Rattle.std.proofs.Common.{◌≡◌, ℕ, ◌<◌, length, get_or, inl, refl, sym, ap, subst, arith}
use Rattle.one_solver.specs.Parts.{Parts}
use Rattle.race.specs.Homes.{IsHome}
use Rattle.race.specs.Running.{IsSpent, HasEnded, IsLate, late_is_found}
use Rattle.race.proofs.Outing.{ends_home, ends_together, all_spent_at}
use Rattle.race.proofs.Homing.{at_place, comes_home, home_grows}
use Rattle.race.proofs.field.gather.Goals as goal

pub returns-clause-homes : goal.returns-clause-homes
returns-clause-homes g c =
    let limit = c.args.task.now.limit in
    let f = c.args.task.now.formula.now.problem in
    let before = c.args.solvers.now in
    let xs = c.bring_home-others_ended.new.solvers in
    let own = get_or before 0 c.index-solvers-0.result in
    let old = get_or xs 0 c.index-solvers-0.result in
    let new = c.come_home-ended.new.home in
    let led = c.args.led in
    let e = c.bring_home-others_ended.ensures in
    let seen = c.bring_home-others_ended.new.first.view.seen in
    let some : 0 < length before = omega (arith, c.requires.count) in
    let inside : 0 < length xs = omega (arith, c.bring_home-others_ended.auto.solvers, some) in
    let home : IsHome limit f seen 0 old = subst (IsHome limit f seen 0) (sym (e.lead c.index-solvers-0.result))
    (home_grows limit f led.pass.view.seen seen 0 own e.seen (c.requires.homes 0 c.index-solvers-0.result some)) in
    at_place xs 0 new inside (IsHome limit f seen)
    (subst (λ n. IsHome limit f seen n new) c.requires.first_number
    (comes_home limit f led.pass.view.seen seen led.solver old new e.seen c.requires.first_seated.in_step
    c.requires.first_seated.within (subst (λ n. IsHome limit f seen n old) (sym c.requires.first_number) home) c.come_home-ended.ensures.home
    c.come_home-ended.ensures.in_step))
    (λ k d ne w. e.homes k d (omega (arith, ne)) (subst (λ n. k < n) c.bring_home-others_ended.auto.solvers w))

pub returns-clause-ended : goal.returns-clause-ended
returns-clause-ended g c =
    let limit = c.args.task.now.limit in
    let f = c.args.task.now.formula.now.problem in
    let led = c.args.led in
    let q = led.pass.view.question in
    let before = c.args.solvers.now in
    let xs = c.bring_home-others_ended.new.solvers in
    let w = c.bring_home-others_ended.new.first.view in
    let new = c.come_home-ended.new.home in
    let e = c.bring_home-others_ended.ensures in
    let h = c.come_home-ended.ensures in
    let same : length xs ≡ length before = c.bring_home-others_ended.auto.solvers in
    let inside : 0 < length xs = omega (arith, same, c.requires.count) in
    let own : HasEnded q w (IsSpent limit f new.conflicts) c.come_home-ended.result =
    ends_home limit q f led.pass.view w led.solver new led.ending c.come_home-ended.result refl (ap (λ b. b.problem) c.requires.formula)
    c.requires.first_ended h.ending h.spent e.outcome in
    let others : HasEnded q w ((k : ℕ) (d : Parts) → 0 < k → k < length xs → IsSpent limit f (get_or xs k d).conflicts) c.bring_home-others_ended.result =
    subst (λ n. HasEnded q w ((k : ℕ) (d : Parts) → 0 < k → k < n → IsSpent limit f (get_or xs k d).conflicts) c.bring_home-others_ended.result) (sym same) e.ended in
    ends_together q w w w c.come_home-ended.result c.bring_home-others_ended.result c.with.result c.with.ensures.one c.with.ensures.spent own others (λ k. k) (λ k. k)
    (all_spent_at limit f xs new inside)

pub returns-clause-late_first : goal.returns-clause-late_first
returns-clause-late_first g c late =
    let e = c.args.led.ending in
    c.with.ensures.late (inl (subst IsLate (sym (c.come_home-ended.ensures.found (late_is_found e late))) late))
