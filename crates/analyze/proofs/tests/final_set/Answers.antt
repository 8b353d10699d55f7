use Rattle.std.proofs.Common.{◌∙◌, Some, ap, sym}
use Rattle.trail.specs.Laws.{value_in-false}
use Rattle.analyze.proofs.tests.final_set.Goals as goal

pub final_set-requires-clause-false_lit : goal.final_set-requires-clause-false_lit
final_set-requires-clause-false_lit c = value_in-false c.args.trail.now.steps c.args.lit (sym c.value.ensures ∙ (c.in-Some-false.is ∙ ap Some c.in-Some-false.field-0-test))
