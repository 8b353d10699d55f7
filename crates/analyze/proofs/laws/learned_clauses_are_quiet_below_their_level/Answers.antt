use Rattle.analyze.specs.QuietLaws.{learned_quiet}
use Rattle.analyze.proofs.laws.learned_clauses_are_quiet_below_their_level.Goals as goal

pub returns : goal.returns
returns c = learned_quiet
