use Rattle.state_laws.specs.TakeLaws.{taken-Stands}
use Rattle.state_laws.proofs.laws.a_state_stands_after_a_clause_is_taken.Goals as goal

pub returns : goal.returns
returns c = taken-Stands
