use Rattle.std.proofs.Common.{◌≡◌, ◌<◌, ◌≤◌, ◌-◌, ◌&&◌, ℕ, Bool, eqb, length, map, refl, get_or, ap, subst, sym, not, ◌∙◌, true, List, Option, arith}
use Rattle.std.specs.List.{list_all}
use Rattle.std.specs.Option.{unwrap_or}
use Rattle.std.proofs.lemmas.List.{length-map, length-reverse}
use Rattle.trail.specs.declared.trail.Step.{Step}
use Rattle.sat_lits.specs.ListLaws.{all_at}
use Rattle.sat_lits.specs.declared.literal.InLit.{InLit}
use Rattle.pick_order.specs.Orders.{Order, is_passed}
use Rattle.search.specs.Assumed.{positive}
use Rattle.search.specs.Ordering.{is_ordered}
use Rattle.search.proofs.Moves.{lits_all}
use Rattle.search.proofs.Orders.{phase_same}
use Rattle.search.proofs.Passing.{left_all, left_on, left_done, phase_passed}
use Rattle.search.proofs.conflict.let_go.Goals as goal

pub loop-place-init : goal.loop-place-init
loop-place-init c =
    record {
      same = λ v. refl;
      left = left_all c.args.order.now c.args.trail.now.steps c.args.level (length c.lits-lits.result.now) c.lits-lits.ensures.kept.sound
          (sym (ap length c.lits-lits.ensures.value ∙ (length-reverse (map (λ (r : Step). r.lit) c.args.trail.now.steps) ∙ length-map c.args.trail.now.steps (λ (r : Step). r.lit)))) c.requires.passed;
    }

pub keep_phase-requires : goal.keep_phase-requires
keep_phase-requires c =
    let h : list_all (λ (l : InLit). is_ordered c.args.order.now.known l.var.0) c.lits-lits.result.now ≡ true =
    subst (λ (ls : List InLit). list_all (λ (l : InLit). is_ordered c.args.order.now.known l.var.0) ls ≡ true) (sym c.lits-lits.ensures.value) (lits_all (λ (l : InLit). is_ordered c.args.order.now.known l.var.0) c.args.trail.now.steps c.requires.steps) in
    c.loop-place.invariant.same (get_or c.lits-lits.result.now (c.loop-place.place - 1) (positive 0)).var.0
    ∙ all_at (λ (l : InLit). is_ordered c.args.order.now.known l.var.0) c.lits-lits.result.now (c.loop-place.place - 1) (positive 0) (omega arith) h

pub loop-place-preserved : goal.loop-place-preserved
loop-place-preserved c =
    record {
      same = λ v.
          ap (λ (o : Order). is_ordered o.known v) (c.put_back.ensures.same ∙ ap (λ (o : Order). record o { candidates = c.put_back.new.self.candidates }) c.keep_phase.ensures)
          ∙ (phase_same (get_or c.lits-lits.result.now (c.loop-place.place - 1) (positive 0)).var.0 (not (get_or c.lits-lits.result.now (c.loop-place.place - 1) (positive 0)).negative) c.loop-place.order.known v ∙ c.loop-place.invariant.same v);
      left =
          left_on c.loop-place.order c.args.trail.now.steps c.args.level c.loop-place.place c.lits-lits.result.now (positive 0) c.loop-place.invariant.left (omega arith) c.lits-lits.ensures.value c.put_back.new.self
          (λ v. c.put_back.ensures.passed v
          ∙ ap (λ (b : Bool). b && not (eqb v (get_or c.lits-lits.result.now (c.loop-place.place - 1) (positive 0)).var.0))
          (ap (λ (o : Order). is_passed o v) c.keep_phase.ensures
          ∙ phase_passed (get_or c.lits-lits.result.now (c.loop-place.place - 1) (positive 0)).var.0 (not (get_or c.lits-lits.result.now (c.loop-place.place - 1) (positive 0)).negative) c.loop-place.order v))
          (subst (λ (n : ℕ). c.args.level < n) (c.unwrap_or.ensures ∙ ap (λ (o : Option ℕ). unwrap_or o 0) c.level_of.ensures) c.if-unwrap_or-level.false);
    }

pub returns-then-unwrap_or-level-clause-passed : goal.returns-then-unwrap_or-level-clause-passed
returns-then-unwrap_or-level-clause-passed c =
    left_done c.loop-place.order c.args.trail.now.steps c.args.level c.loop-place.place c.lits-lits.result.now (positive 0) c.loop-place.invariant.left (omega arith) c.lits-lits.ensures.value
    (subst (λ (n : ℕ). n ≤ c.args.level) (c.unwrap_or.ensures ∙ ap (λ (o : Option ℕ). unwrap_or o 0) c.level_of.ensures) c.if-unwrap_or-level.true)
