use Rattle.std.proofs.Common.{◌∙◌, ◌+◌, ℕ, ap, sym, subst, unwrap_or, false, take}
use Rattle.analyze.specs.Marking.{IsGreatest}
use Rattle.analyze.proofs.Shortening.{greatest_more}
use Rattle.analyze.proofs.chains.greatest_level.Goals as goal

pub loop-lit-preserved : goal.loop-lit-preserved
loop-lit-preserved c =
    subst (λ (n : ℕ). IsGreatest c.args.trail.now.steps (take (c.loop-lit.lit-index + 1) c.args.lits.now) n) (sym c.max-greatest.ensures)
    (greatest_more c.args.trail.now.steps c.args.lits.now c.loop-lit.lit-index (record { var = record { 0 = 0 }; negative = false }) c.loop-lit.greatest c.unwrap_or.result c.loop-lit-test.true (c.unwrap_or.ensures ∙ ap (λ o. unwrap_or o 0) c.level_of.ensures) c.loop-lit.invariant)
