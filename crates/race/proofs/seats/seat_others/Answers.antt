use Rattle.std.proofs.Common.{◌≡◌, ◌≢◌, ⊎_elim, ℕ, ◌+◌, ◌-◌, ◌<◌, length, get_or, set, sym, ap, subst, ◌∙◌, arith, vec_len, length-set, get_or-set_same, get_or-set_other}
use Rattle.std.proofs.lemmas.Bool.{cases_eq}
use Rattle.std.specs.declared.option.Option.{Option}
use Rattle.race.specs.Homes.{IsEntrant}
use Rattle.race.specs.declared.runner.Runner.{Runner}
use Rattle.sat_ports.specs.declared.alarms.Silent.{Silent}
use Rattle.sat_ports.specs.contracts.alarms.SilentAlarm.TheImpl as silent
use Rattle.race.specs.Seating.{IsSeatOf, IsNewAt}
use Rattle.race.specs.Laws.{each_pushed}
use Rattle.race.proofs.Outing.{split_more}
use Rattle.race.proofs.seats.seat_others.Goals as goal

pub seats-preserved : goal.seats-preserved
seats-preserved c =
    let inv = c.seats.invariant in
    let xs = c.seats.solvers in
    let i = c.seats.place in
    let d = c.index-solvers-place.result in
    let e = c.seat.ensures in
    let p = c.push_reserved.ensures in
    let inside : i < length xs = omega arith in
    let number : (get_or xs i d).number ≡ i = (inv.5 i d (omega arith) inside).number in
    let len : vec_len c.push_reserved.new.self ≡ vec_len c.seats.runners + 1 = p.len in
    let s = c.seat.new.solver in
    let t = c.args.exchange.now in
    let q = c.args.first.now.view.question in
    let P : Option ℕ → ℕ → Runner Silent silent.ghosts → Type 0 = λ limit k r. IsSeatOf limit q t k r.solver r.watch.pass in
    let old : length c.seats.runners.items ≡ vec_len c.seats.runners = sym c.seats.runners.ok.0 in
    let new : length c.push_reserved.new.self.items ≡ vec_len c.push_reserved.new.self = sym c.push_reserved.new.self.ok.0 in
    let place : (get_or xs i d).number ≡ length c.seats.runners.items + 1 = omega (arith, number, inv.0, old) in (
      omega (arith, len, inv.0),
      p.capacity ∙ (inv.1 ∙ ap (λ n. n - 1) (sym (length-set xs i s))),
      split_more c.args.first.now c.seats.first c.seat.new.first (vec_len c.seats.runners) 1 (vec_len c.push_reserved.new.self) inv.2 e.first len,
      λ limit k d' below.
          subst (λ l. P limit k (get_or l k d')) (sym p.items)
          (each_pushed (P limit) c.seats.runners.items c.seat.result (λ k d w. inv.3 limit k d (omega (arith, old, w)))
          (subst (λ u. IsSeatOf limit u t (length c.seats.runners.items) c.seat.result.solver c.seat.result.watch.pass) inv.2.question (e.seat limit (length c.seats.runners.items) place)) k d'
          (let w : k < length c.push_reserved.new.self.items = omega (arith, new, below) in subst (λ l. k < length l) p.items w)),
      λ k d' pos below.
          ⊎_elim
          (λ (same : k ≡ i). subst (λ n. IsNewAt n (get_or (set xs i s) n d')) (sym same) (subst (IsNewAt i) (sym (get_or-set_same xs i s d' inside)) (subst (λ n. IsNewAt n s) number e.left)))
          (λ (ne : k ≡ i → ⊥). subst (IsNewAt k) (sym (get_or-set_other xs i k s d' ne)) (inv.4 k d' pos (omega (arith, ne, below))))
          (cases_eq k i),
      λ k d' past within.
          let ne : k ≢ i = omega (arith, past) in
          subst (IsEntrant c.args.first.now.view.question.formula.problem c.args.first.now.view.seen k) (sym (get_or-set_other xs i k s d' ne))
          (inv.5 k d' (omega (arith, past)) (omega (arith, within, length-set xs i s))),
      λ d'. let ne : 0 ≢ i = omega (arith, inv.0) in get_or-set_other xs i 0 s d' ne ∙ inv.6 d',
    )
