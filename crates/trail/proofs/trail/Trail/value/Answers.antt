use Rattle.std.proofs.Common.{◌∙◌, ap, sym}
use Rattle.std.specs.Option.{is_some}
use Rattle.trail.specs.Laws.{value_in-step, value_in-unset, set_in-step_in}
use Rattle.trail.proofs.trail.Trail.value.Goals as goal

pub returns-in_err-step : goal.returns-in_err-step
returns-in_err-step c =
    c.from_residual.ensures
    ∙ sym (value_in-unset c.args.self.now.steps c.args.lit (set_in-step_in c.args.self.now.steps c.args.lit.var.0 ∙ ap is_some (sym c.in_err-step.ensures.value)))

pub returns : goal.returns
returns c = sym (value_in-step c.args.self.now.steps c.args.lit c.in_ok-step.step c.in_ok-step.ensures.kept.sound (sym c.in_ok-step.ensures.value))
