use Rattle.state_laws.specs.LearnLaws.{with_learned-Stands}
use Rattle.state_laws.proofs.laws.a_state_stands_with_other_learned_clauses.Goals as goal

pub returns : goal.returns
returns c = with_learned-Stands
