use Rattle.state_laws.specs.WidenLaws.{rebuilt_is_model}
use Rattle.state_laws.proofs.laws.rebuilt_values_are_a_model.Goals as goal

pub returns : goal.returns
returns c = rebuilt_is_model
