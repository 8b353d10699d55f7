use Rattle.analyze.specs.QuietLaws.{conflict_keeps}
use Rattle.analyze.proofs.laws.conflicts_keep_lower_levels_quiet.Goals as goal

pub returns : goal.returns
returns c = conflict_keeps
