use Rattle.assume_map.specs.MappingLaws.{ready_is_rebuilt}
use Rattle.assume_map.proofs.laws.rebuilt_values_make_the_assumptions_true.Goals as goal

pub returns : goal.returns
returns c = ready_is_rebuilt
