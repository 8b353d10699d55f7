use Rattle.state_laws.specs.RootTableLaws.{root_fixed}
use Rattle.state_laws.proofs.laws.a_fixed_literal_is_known.Goals as goal

pub returns : goal.returns
returns c = root_fixed
