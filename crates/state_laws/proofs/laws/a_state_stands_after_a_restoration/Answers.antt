use Rattle.state_laws.specs.RestoreLaws.{restored-Stands}
use Rattle.state_laws.proofs.laws.a_state_stands_after_a_restoration.Goals as goal

pub returns : goal.returns
returns c = restored-Stands
