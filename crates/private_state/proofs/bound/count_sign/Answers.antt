use Rattle.std.proofs.Common.{◌≡◌, ◌∙◌, ◌+◌, ◌<◌, ap, sym, arith, get_or, length}
use Rattle.std.proofs.lemmas.List.Sums.{count_by_more_yes, count_by_more_no}
use Rattle.std.proofs.lemmas.Option.{slice_get_within}
use Rattle.state_laws.specs.Resolution.{has_sign}
use Rattle.removed_vars.specs.CollectLaws.{got}
use Rattle.private_state.proofs.bound.count_sign.Goals.{then-has_sign, else-has_sign}
use Rattle.private_state.proofs.bound.count_sign.Goals as goal

pub each-preserved : goal.each-preserved
each-preserved c =
    let l : c.each.at < length c.args.block.now = slice_get_within c.args.block.now c.each.at c.get.result.now c.get.ensures in
    let e : has_sign c.args.var.0 c.args.negative (get_or c.args.block.now c.each.at c.get.result.now) ≡ c.has_sign.result = ap (has_sign c.args.var.0 c.args.negative) (got c.args.block.now c.each.at c.get.result.now c.get.result.now c.get.ensures) ∙ sym c.has_sign.ensures in
    elim c.if-has_sign.branch [
      | then-has_sign w ↦
          record {
            counted = w.count-is ∙ (ap (λ n. n + 1) c.each.invariant.counted ∙ sym (count_by_more_yes (has_sign c.args.var.0 c.args.negative) c.args.block.now c.each.at c.get.result.now l (e ∙ w.if-has_sign.true)));
            below = omega (arith, w.count-is, c.each.invariant.below);
          }
      | else-has_sign w ↦
          record {
            counted = w.count-is ∙ (c.each.invariant.counted ∙ sym (count_by_more_no (has_sign c.args.var.0 c.args.negative) c.args.block.now c.each.at c.get.result.now l (e ∙ w.if-has_sign.false)));
            below = omega (arith, w.count-is, c.each.invariant.below);
          }
    ]
