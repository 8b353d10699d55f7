use Rattle.analyze.specs.QuietLaws.{decide_keeps}
use Rattle.analyze.proofs.laws.decisions_keep_lower_levels_quiet.Goals as goal

pub returns : goal.returns
returns c = decide_keeps
