use Rattle.std.proofs.Common.{◌≡◌, ◌≢◌, ⊎_elim, inl, inr, ℕ, ◌+◌, ◌<◌, List, [], ◌∷◌, ◌++◌, length, get_or, set, sym, ap, subst, ◌∙◌, arith, vec_len, length-set, length-append, get_or-set_other}
use Rattle.std.proofs.lemmas.Bool.{cases_eq}
use Rattle.std.proofs.lemmas.List.{get_or_append_left, get_or_default}
use Rattle.std.proofs.Math.Seq.{get_or-append_seam}
use Rattle.sat_ports.specs.declared.alarms.Silent.{Silent}
use Rattle.sat_ports.specs.contracts.alarms.SilentAlarm.TheImpl as silent
use Rattle.share_store.specs.Laws.{starts_trans}
use Rattle.share_turn.specs.Views.{IsLegalFor}
use Rattle.share_turn.specs.declared.view.Question.{Question}
use Rattle.race.specs.declared.runner.Runner.{Runner}
use Rattle.race.specs.Homes.{IsHome}
use Rattle.race.specs.Running.{IsSpent, HasEnded, IsFound, IsLate}
use Rattle.race.specs.Seating.{IsDone}
use Rattle.race.proofs.Homing.{home_grows, at_place}
use Rattle.race.proofs.Outing.{leads_on, ends_together, popped}
use Rattle.race.proofs.home.bring_home.Goals as goal

pub homes-preserved : goal.homes-preserved
homes-preserved g c =
    let inv = c.homes.invariant in
    let xs = c.homes.solvers in
    let r = c.in-Some.runner in
    let m = vec_len c.pop.new.self in
    let i = c.len.result + 1 in
    let s = c.bring_one.new.home in
    let old = c.homes.first in
    let new = c.bring_one.new.first in
    let e = c.bring_one.ensures in
    let w = c.with-ended.ensures in
    let q = c.args.first.now.view.question in
    let t = c.args.exchange.now in
    let f = c.args.task.now.formula.now.problem in
    let limit = c.args.task.now.limit in
    let all = c.args.runners.items in
    let D : ℕ → Runner Silent silent.ghosts → Type 0 = λ k u. IsDone limit q t k u.solver u.watch.pass u.ending in
    let left = c.pop.new.self.items in
    let lasts : length left ≡ m = sym c.pop.new.self.ok.0 in
    let items : c.homes.runners.items ≡ left ++ r ∷ [] = c.in-Some.ensures.items in
    let len : vec_len c.homes.runners ≡ m + 1 = c.homes.runners.ok.0 ∙ (ap length items ∙ omega (arith, length-append left (r ∷ []), lasts)) in
    let place : i ≡ m + 1 = omega (arith, c.len.ensures) in
    let inside : i < length xs = omega (arith, place, inv.0, len) in
    let here : get_or c.homes.runners.items m r ≡ r = ap (λ (l : List (Runner Silent silent.ghosts)). get_or l m r) items
    ∙ (ap (λ n. get_or (left ++ r ∷ []) n r) (sym lasts) ∙ get_or-append_seam left r [] r) in
    let last : D m r = subst (D m) here (inv.8 m r (omega (arith, len))) in
    let at : r.solver.number ≡ i = last.seat.number ∙ sym place in
    let size : length (set xs i s) ≡ length xs = length-set xs i s in
    let before : (k : ℕ) (d : Runner Silent silent.ghosts) → k < m → get_or left k d ≡ get_or c.homes.runners.items k d =
    λ k d below. sym (ap (λ (l : List (Runner Silent silent.ghosts)). get_or l k d) items ∙ get_or_append_left left (r ∷ []) d k (omega (arith, below, lasts))) in (
      omega (arith, size, inv.0, len),
      leads_on q t old new r.watch.pass inv.1 (subst (λ (u : Question). IsLegalFor u r.watch.pass.view.seen) last.seat.question_is last.seat.seated.legal) e.joined,
      e.joined.alarmed ∙ inv.2,
      e.joined.splits ∙ inv.3,
      omega (arith, e.joined.joins, inv.4, len),
      starts_trans new.view.seen old.view.seen c.args.first.now.view.seen e.joined.seen inv.5,
      λ k d pos b.
          at_place xs i s inside (λ n u. 0 < n → IsHome limit f new.view.seen n u) (λ _. subst (λ n. IsHome limit f new.view.seen n s) at e.home)
          (λ n d ne b' pos'. home_grows limit f old.view.seen new.view.seen n (get_or xs n d) e.joined.seen (inv.6 n d pos' b')) k d b pos,
      λ d. let ne : 0 ≢ i = omega (arith, place) in get_or-set_other xs i 0 s d ne ∙ inv.7 d,
      λ k d below. subst (D k) (sym (before k d below)) (inv.8 k d (omega (arith, below, len))),
      λ k. e.joined.outcome (inl (inv.9 k)),
      ends_together q old.view new.view new.view c.homes.ended c.bring_one.result c.with-ended.result w.one w.spent inv.10
          (subst (λ (u : Question). HasEnded u new.view (IsSpent limit f s.conflicts) c.bring_one.result) inv.1.question_is e.ended) (λ k. e.joined.outcome (inl k)) (λ k. k)
          (λ others own k d past b.
          at_place xs i s inside (λ n u. m < n → IsSpent limit f u.conflicts) (λ _. own) (λ n d ne b' past'. others n d (omega (arith, len, place, ne, past')) b') k d b past),
      λ k d past b found.
          w.found
          (⊎_elim
          (λ (same : k ≡ m).
          let it : get_or all k d ≡ r =
          ap (λ n. get_or all n d) same ∙ (get_or_default all m d r (omega (arith, same, b, c.args.runners.ok.0)) ∙ (sym (inv.12 m r (omega (arith, len))) ∙ here)) in
          inr (e.found (subst (λ (u : Runner Silent silent.ghosts). IsFound u.ending) it found)))
          (λ (ne : k ≡ m → ⊥). inl (inv.11 k d (omega (arith, past, ne, len)) b found))
          (cases_eq k m)),
      λ k d below. before k d below ∙ inv.12 k d (omega (arith, below, len)),
      λ k d past b late.
          w.late
          (⊎_elim
          (λ (same : k ≡ m).
          let it : get_or all k d ≡ r =
          ap (λ n. get_or all n d) same ∙ (get_or_default all m d r (omega (arith, same, b, c.args.runners.ok.0)) ∙ (sym (inv.12 m r (omega (arith, len))) ∙ here)) in
          inr (e.late (subst (λ (u : Runner Silent silent.ghosts). IsLate u.ending) it late)))
          (λ (ne : k ≡ m → ⊥). inl (inv.13 k d (omega (arith, past, ne, len)) b late))
          (cases_eq k m)),
    )

pub bring_one-requires-clause-seated : goal.bring_one-requires-clause-seated
bring_one-requires-clause-seated g c =
    let inv = c.homes.invariant in
    let D : ℕ → Runner Silent silent.ghosts → Type 0 = λ k u. IsDone c.args.task.now.limit c.args.first.now.view.question c.args.exchange.now k u.solver u.watch.pass u.ending in
    let last : D (length c.pop.new.self.items) c.in-Some.runner =
    popped D c.pop.new.self.items c.in-Some.runner c.homes.runners.items c.in-Some.ensures.items (λ k d w. inv.8 k d (omega (arith, w, c.homes.runners.ok.0))) in
    last.seat.seated

pub bring_one-requires-clause-ended : goal.bring_one-requires-clause-ended
bring_one-requires-clause-ended g c =
    let inv = c.homes.invariant in
    let D : ℕ → Runner Silent silent.ghosts → Type 0 = λ k u. IsDone c.args.task.now.limit c.args.first.now.view.question c.args.exchange.now k u.solver u.watch.pass u.ending in
    let last : D (length c.pop.new.self.items) c.in-Some.runner =
    popped D c.pop.new.self.items c.in-Some.runner c.homes.runners.items c.in-Some.ensures.items (λ k d w. inv.8 k d (omega (arith, w, c.homes.runners.ok.0))) in
    last.ended

pub bring_one-requires-clause-home : goal.bring_one-requires-clause-home
bring_one-requires-clause-home g c =
    let inv = c.homes.invariant in
    let D : ℕ → Runner Silent silent.ghosts → Type 0 = λ k u. IsDone c.args.task.now.limit c.args.first.now.view.question c.args.exchange.now k u.solver u.watch.pass u.ending in
    let last : D (length c.pop.new.self.items) c.in-Some.runner =
    popped D c.pop.new.self.items c.in-Some.runner c.homes.runners.items c.in-Some.ensures.items (λ k d w. inv.8 k d (omega (arith, w, c.homes.runners.ok.0))) in
    let left = c.pop.new.self.items in
    let more : length c.homes.runners.items ≡ length (left ++ c.in-Some.runner ∷ []) = ap length c.in-Some.ensures.items in
    let place : length left + 1 ≡ c.len.result + 1 = omega (arith, c.len.ensures, c.pop.new.self.ok.0) in
    let inside : c.len.result + 1 < length c.homes.solvers = omega (arith, place, more, length-append left (c.in-Some.runner ∷ []), c.homes.runners.ok.0, inv.0) in
    subst (λ n. IsHome c.args.task.now.limit c.args.task.now.formula.now.problem c.homes.first.view.seen n (get_or c.homes.solvers (c.len.result + 1) c.index-solvers-len.result)) (sym (last.seat.number ∙ place)) (inv.6 (c.len.result + 1) c.index-solvers-len.result (omega arith) inside)
