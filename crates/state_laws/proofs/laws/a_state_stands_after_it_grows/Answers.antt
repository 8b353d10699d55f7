use Rattle.state_laws.specs.ExtendLaws.{grown-Stands}
use Rattle.state_laws.proofs.laws.a_state_stands_after_it_grows.Goals as goal

pub returns : goal.returns
returns c = grown-Stands
