use Rattle.sync_laws.specs.KeepLaws.{restored-KeepsMet}
use Rattle.sync_laws.proofs.laws.a_restoration_keeps_what_is_met.Goals as goal

pub returns : goal.returns
returns c = restored-KeepsMet
