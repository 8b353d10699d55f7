use Rattle.state_laws.specs.WidenLaws.{widened_outer, widened_defined}
use Rattle.state_laws.proofs.laws.assignments_are_widened_by_the_definitions.Goals as goal

pub returns-clause-outer : goal.returns-clause-outer
returns-clause-outer c = widened_outer

pub returns-clause-defined : goal.returns-clause-defined
returns-clause-defined c = widened_defined
