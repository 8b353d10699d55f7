use Rattle.state_laws.specs.PutIntoLaws.{put_into-Stands}
use Rattle.state_laws.proofs.laws.a_state_stands_after_an_entry_is_put_into_it.Goals as goal

pub returns : goal.returns
returns c = put_into-Stands
