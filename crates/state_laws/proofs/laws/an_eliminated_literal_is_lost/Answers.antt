use Rattle.state_laws.specs.RootTableLaws.{root_gone}
use Rattle.state_laws.proofs.laws.an_eliminated_literal_is_lost.Goals as goal

pub returns : goal.returns
returns c = root_gone
