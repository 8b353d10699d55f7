use Rattle.state_laws.specs.TakeLaws.{imported-Stands}
use Rattle.state_laws.proofs.laws.a_state_stands_after_an_entry_is_imported.Goals as goal

pub returns : goal.returns
returns c = imported-Stands
