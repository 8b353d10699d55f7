use Rattle.analyze.specs.QuietLaws.{back_keeps}
use Rattle.analyze.proofs.laws.the_way_back_keeps_lower_levels_quiet.Goals as goal

pub returns : goal.returns
returns c = back_keeps
