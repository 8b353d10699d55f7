use Rattle.state_laws.specs.EliminateLaws.{eliminated-Stands}
use Rattle.state_laws.proofs.laws.a_state_stands_after_an_elimination.Goals as goal

pub returns : goal.returns
returns c = eliminated-Stands
