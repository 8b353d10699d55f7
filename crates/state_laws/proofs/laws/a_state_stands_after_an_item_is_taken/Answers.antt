use Rattle.state_laws.specs.ExtendLaws.{taking-Stands}
use Rattle.state_laws.proofs.laws.a_state_stands_after_an_item_is_taken.Goals as goal

pub returns : goal.returns
returns c = taking-Stands
