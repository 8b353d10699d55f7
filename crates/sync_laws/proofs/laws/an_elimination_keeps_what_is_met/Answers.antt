use Rattle.sync_laws.specs.KeepLaws.{eliminated-KeepsMet}
use Rattle.sync_laws.proofs.laws.an_elimination_keeps_what_is_met.Goals as goal

pub returns : goal.returns
returns c = eliminated-KeepsMet
