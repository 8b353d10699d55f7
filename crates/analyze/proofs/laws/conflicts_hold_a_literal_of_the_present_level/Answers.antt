use Rattle.analyze.specs.QuietLaws.{conflict_present}
use Rattle.analyze.proofs.laws.conflicts_hold_a_literal_of_the_present_level.Goals as goal

pub returns : goal.returns
returns c = conflict_present
