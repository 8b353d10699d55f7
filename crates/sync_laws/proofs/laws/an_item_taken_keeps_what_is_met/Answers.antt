use Rattle.sync_laws.specs.KeepLaws.{taking-KeepsMet}
use Rattle.sync_laws.proofs.laws.an_item_taken_keeps_what_is_met.Goals as goal

pub returns : goal.returns
returns c = taking-KeepsMet
