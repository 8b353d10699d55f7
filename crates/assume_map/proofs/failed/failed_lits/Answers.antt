use Rattle.std.proofs.Common.{◌≡◌, ◌<◌, ◌+◌, ◌++◌, ◌∷◌, [], ◌∙◌, ℕ, true, false, not, List, take, get_or, Some, sym, ap, subst}
use Rattle.std.proofs.lemmas.Bool.{not-true, not-false}
use Rattle.std.specs.List.{list_any, slice_get, Contains}
use Rattle.sat_lits.specs.declared.literal.Lit.{Lit}
use Rattle.assume_map.specs.Failed.{AreFailedLits}
use Rattle.assume_map.specs.Met.{has_met, same_outer}
use Rattle.assume_map.proofs.Gathering.{none_failed, failed_again, failed_new, earlier, one_more, stands, within_at, met_more, met_again, met_stands, unmet}
use Rattle.assume_map.proofs.failed.failed_lits.Goals as goal
use Rattle.assume_map.proofs.failed.failed_lits.Goals.{In_ok-add, then-branch+in_ok-push, else-branch}

abbrev d : Lit
d = record { var = record { 0 = 0 }; negative = false }

pub loop-position-init : goal.loop-position-init
loop-position-init c =
    record {
      failed = subst (λ (z : List Lit). AreFailedLits c.args.assumptions.now [] z) (sym c.new-failed.ensures) (none_failed c.args.assumptions.now);
      met = λ k. c.new-met.ensures k ∙ ap (λ (z : List Lit). list_any (same_outer k) z) (sym c.new-failed.ensures);
    }

pub bounds-assumptions-position : goal.bounds-assumptions-position
bounds-assumptions-position c = within_at c.args.assumptions.now c.args.positions.now c.loop-position.position-index c.loop-position-test.true c.requires.within

abbrev lit : In_ok-add → Lit
lit c = get_or c.args.assumptions.now (get_or c.args.positions.now c.loop-position.position-index 0) d

-- whether the literal was met before
before : (c : In_ok-add) → c.in_ok-add.field-0 ≡ not (list_any (same_outer (lit c)) c.loop-position.failed)
before c = c.in_ok-add.ensures.value ∙ ap not (c.loop-position.invariant.met (lit c))

later : (c : In_ok-add) (q : ℕ) → Contains (take c.loop-position.position-index c.args.positions.now) q → q < get_or c.args.positions.now c.loop-position.position-index 0
later c = earlier c.args.assumptions.now c.args.positions.now c.loop-position.position-index c.loop-position-test.true c.requires.rising

here : (c : In_ok-add) → slice_get c.args.assumptions.now (get_or c.args.positions.now c.loop-position.position-index 0) ≡ Some (lit c)
here c = stands c.args.assumptions.now c.args.positions.now c.loop-position.position-index c.loop-position-test.true d c.requires.within

-- the positions so far, and this one
longer : (c : In_ok-add) (failed : List Lit) → AreFailedLits c.args.assumptions.now (take c.loop-position.position-index c.args.positions.now ++ get_or c.args.positions.now c.loop-position.position-index 0 ∷ []) failed
    → AreFailedLits c.args.assumptions.now (take (c.loop-position.position-index + 1) c.args.positions.now) failed
longer c failed h = subst (λ (z : List ℕ). AreFailedLits c.args.assumptions.now z failed) (sym (one_more c.args.assumptions.now c.args.positions.now c.loop-position.position-index c.loop-position-test.true)) h

-- a new literal
new : (c : In_ok-add) → c.in_ok-add.field-0 ≡ true → (failed : List Lit) → failed ≡ c.loop-position.failed ++ lit c ∷ [] → AreFailedLits c.args.assumptions.now (take (c.loop-position.position-index + 1) c.args.positions.now) failed
new c t failed e =
    subst (λ (z : List Lit). AreFailedLits c.args.assumptions.now (take (c.loop-position.position-index + 1) c.args.positions.now) z) (sym e)
    (longer c (c.loop-position.failed ++ lit c ∷ [])
    (failed_new c.args.assumptions.now (take c.loop-position.position-index c.args.positions.now) c.loop-position.failed (get_or c.args.positions.now c.loop-position.position-index 0) (lit c) c.loop-position.invariant.failed (later c) (here c)
    (unmet c.loop-position.failed (lit c) (not-true _ (sym (before c) ∙ t)))))

-- one that was met
again : (c : In_ok-add) → c.in_ok-add.field-0 ≡ false → list_any (same_outer (lit c)) c.loop-position.failed ≡ true
again c t = not-false _ (sym (before c) ∙ t)

pub loop-position-preserved : goal.loop-position-preserved
loop-position-preserved c =
    let o : In_ok-add = (goal.at.loop-position-preserved c).In_ok-add in
    elim c.if-branch.branch [
      | then-branch+in_ok-push w ↦ record {
        failed = new o w.if-branch.true c.if-branch.failed (w.failed-is ∙ w.in_ok-push.ensures.ok);
        met = λ k. subst (λ (z : List Lit). has_met c.add.new.self k ≡ list_any (same_outer k) z) (sym (w.failed-is ∙ w.in_ok-push.ensures.ok))
            (met_more c.loop-position.failed (lit o) k (has_met c.loop-position.met k) (has_met c.add.new.self k) (o.in_ok-add.ensures.met.each k) (c.loop-position.invariant.met k));
      }
      | else-branch w ↦ record {
        failed = subst (λ (z : List Lit). AreFailedLits c.args.assumptions.now (take (c.loop-position.position-index + 1) c.args.positions.now) z) (sym w.failed-is)
            (longer o c.loop-position.failed
            (failed_again c.args.assumptions.now (take c.loop-position.position-index c.args.positions.now) c.loop-position.failed (get_or c.args.positions.now c.loop-position.position-index 0) (lit o) c.loop-position.invariant.failed (later o) (here o)
            (met_stands c.loop-position.failed (lit o) (again o w.if-branch.false))));
        met = λ k. subst (λ (z : List Lit). has_met c.add.new.self k ≡ list_any (same_outer k) z) (sym w.failed-is)
            (met_again c.loop-position.failed (lit o) k (has_met c.loop-position.met k) (has_met c.add.new.self k) (again o w.if-branch.false) (o.in_ok-add.ensures.met.each k) (c.loop-position.invariant.met k));
      }
    ]
