use Rattle.std.proofs.Common.{◌∙◌, Bool, ◌++◌, ◌∷◌, [], ap, arith}
use Rattle.rebuild_stack.specs.Values.{values_of}
use Rattle.private_state.proofs.Reading.{outer_value_step}
use Rattle.private_state.proofs.values.outer_values.Goals as goal

pub loop-var-preserved : goal.loop-var-preserved
loop-var-preserved c =
    outer_value_step (values_of c.args.own.now) c.args.maps.now.outers c.loop-var.var c.to_own.result c.loop-var.outer c.push.new.self (omega (arith, c.loop-var-test.true, c.outer_count-var-end.ensures.value)) c.to_own.ensures.value
    (c.in_ok-push.ensures.ok ∙ ap (λ (b : Bool). c.loop-var.outer ++ b ∷ []) c.value_of.ensures) c.loop-var.invariant
