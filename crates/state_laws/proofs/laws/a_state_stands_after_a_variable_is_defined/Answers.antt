use Rattle.state_laws.specs.ExtendLaws.{extended-Stands}
use Rattle.state_laws.proofs.laws.a_state_stands_after_a_variable_is_defined.Goals as goal

pub returns : goal.returns
returns c = extended-Stands
