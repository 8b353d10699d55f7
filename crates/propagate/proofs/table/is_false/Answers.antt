use Rattle.std.proofs.Common.{◌∙◌, sym}
use Rattle.propagate.proofs.Opening.{value_is, value_none_is}
use Rattle.propagate.proofs.table.is_false.Goals as goal

pub returns-in-Some : goal.returns-in-Some
returns-in-Some c = value_is c.args.trail.now.steps c.args.lit c.in-Some.value c.requires (sym c.value.ensures ∙ c.in-Some.is)

pub returns-in-None : goal.returns-in-None
returns-in-None c = value_none_is c.args.trail.now.steps c.args.lit c.requires (sym c.value.ensures ∙ c.in-None.is)
