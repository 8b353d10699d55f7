use Rattle.analyze.specs.QuietLaws.{learned_new}
use Rattle.analyze.proofs.laws.learned_clauses_are_new.Goals as goal

pub returns : goal.returns
returns c = learned_new
