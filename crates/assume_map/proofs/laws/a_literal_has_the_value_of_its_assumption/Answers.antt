use Rattle.assume_map.specs.MappingLaws.{ready_has_values}
use Rattle.assume_map.proofs.laws.a_literal_has_the_value_of_its_assumption.Goals as goal

pub returns : goal.returns
returns c = ready_has_values
