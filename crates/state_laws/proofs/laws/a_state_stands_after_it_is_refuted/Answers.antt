use Rattle.state_laws.specs.LearnLaws.{refuted-Stands}
use Rattle.state_laws.proofs.laws.a_state_stands_after_it_is_refuted.Goals as goal

pub returns : goal.returns
returns c = refuted-Stands
