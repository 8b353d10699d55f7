use Rattle.std.proofs.Common.{◌∙◌, ◌++◌, ◌∷◌, [], ap, sym}
use Rattle.state_laws.specs.Resolution.{rests}
use Rattle.private_state.proofs.Resolving.{rests_more}
use Rattle.private_state.proofs.resolve.rests.Goals as goal

pub each-preserved : goal.each-preserved
each-preserved c =
    c.in_ok-add_rest.ensures
    ∙ (ap (λ z. z ++ rests c.args.var.0 c.args.value (c.get.result.now ∷ [])) c.each.invariant
    ∙ sym (rests_more c.args.var.0 c.args.value c.args.block.now c.each.at c.get.result.now c.get.ensures))
