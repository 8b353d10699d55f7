use Rattle.state_laws.specs.LearnLaws.{learning-Stands}
use Rattle.state_laws.proofs.laws.a_state_stands_after_a_clause_is_learned.Goals as goal

pub returns : goal.returns
returns c = learning-Stands
