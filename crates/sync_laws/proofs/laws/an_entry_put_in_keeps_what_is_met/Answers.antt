use Rattle.sync_laws.specs.KeepLaws.{put_into-KeepsMet}
use Rattle.sync_laws.proofs.laws.an_entry_put_in_keeps_what_is_met.Goals as goal

pub returns : goal.returns
returns c = put_into-KeepsMet
