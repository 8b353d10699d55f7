use Rattle.assume_map.specs.MappingLaws.{clash_contradicts}
use Rattle.assume_map.proofs.laws.a_clash_contradicts_what_was_taken.Goals as goal

pub returns : goal.returns
returns c = clash_contradicts
