use Rattle.analyze.specs.QuietLaws.{assign_keeps}
use Rattle.analyze.proofs.laws.assignments_keep_lower_levels_quiet.Goals as goal

pub returns : goal.returns
returns c = assign_keeps
