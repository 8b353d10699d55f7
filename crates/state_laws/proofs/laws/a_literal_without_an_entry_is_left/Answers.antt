use Rattle.state_laws.specs.RootTableLaws.{root_without_entry}
use Rattle.state_laws.proofs.laws.a_literal_without_an_entry_is_left.Goals as goal

pub returns : goal.returns
returns c = root_without_entry
