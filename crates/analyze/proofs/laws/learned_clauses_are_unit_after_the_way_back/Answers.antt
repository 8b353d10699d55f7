use Rattle.analyze.specs.QuietLaws.{learned_unit_by_first}
use Rattle.analyze.proofs.laws.learned_clauses_are_unit_after_the_way_back.Goals as goal

pub returns : goal.returns
returns c = learned_unit_by_first
