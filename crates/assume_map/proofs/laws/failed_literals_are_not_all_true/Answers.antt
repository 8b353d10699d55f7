use Rattle.assume_map.specs.MappingLaws.{failed_contradict}
use Rattle.assume_map.proofs.laws.failed_literals_are_not_all_true.Goals as goal

pub returns : goal.returns
returns c = failed_contradict
