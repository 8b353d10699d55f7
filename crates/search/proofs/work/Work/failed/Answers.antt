use Rattle.std.proofs.Common.{◌-◌, ◌++◌, ℕ, List, [], ◌∷◌, get_or, sym, ap, ap₂, subst, ◌∙◌}
use Rattle.std.proofs.lemmas.List.{take_all}
use Rattle.sat_lits.specs.declared.literal.InLit.{InLit}
use Rattle.analyze.specs.FinalSets.{IsFinalSet}
use Rattle.search.specs.Answers.{AreFailed}
use Rattle.search.proofs.Failing.{positions_at, positions_more, failed_set}
use Rattle.search.proofs.work.Work.failed.Goals as goal

pub loop-level-preserved : goal.loop-level-preserved
loop-level-preserved c =
    c.in_ok-push.ensures.ok
    ∙ (ap₂ (λ (xs ps : List ℕ). xs ++ get_or ps (get_or c.as_slice-level-items.result.now c.loop-level.level-index 0 - 1) 0 ∷ []) c.loop-level.invariant c.as_slice.ensures
    ∙ sym (positions_more c.args.self.now.positions c.as_slice-level-items.result.now c.loop-level.level-index c.loop-level-test.true))

pub returns-clause-failed : goal.returns-clause-failed
returns-clause-failed c =
    subst (AreFailed c.args.store.now.held c.args.self.now.assumptions)
    (sym (c.in_ok-push-2.ensures.ok
    ∙ ap (λ (xs : List ℕ). xs ++ c.args.self.now.next ∷ [])
    (c.loop-level.invariant ∙ (ap (positions_at c.args.self.now.positions) (take_all c.loop-level.level-index c.as_slice-level-items.result.now c.loop-level-test.false) ∙ ap (positions_at c.args.self.now.positions) c.as_slice-level-items.ensures))))
    (failed_set c.args.store.now.held c.args.self.now.assumptions c.args.self.now.positions c.args.self.now.next c.args.self.now.trail.steps c.in_ok-levels.levels c.requires.assumes c.requires.next
    (subst (λ (l : InLit). IsFinalSet c.args.store.now.held c.args.self.now.trail.steps l c.in_ok-levels.levels) c.requires.lit c.in_ok-levels.ensures))
