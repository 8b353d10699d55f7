use Rattle.sync_laws.specs.KeepLaws.{refuted-KeepsMet}
use Rattle.sync_laws.proofs.laws.a_refutation_keeps_what_is_met.Goals as goal

pub returns : goal.returns
returns c = refuted-KeepsMet
