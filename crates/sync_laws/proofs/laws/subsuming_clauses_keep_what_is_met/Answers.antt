use Rattle.sync_laws.specs.KeepLaws.{with_hard-KeepsMet}
use Rattle.sync_laws.proofs.laws.subsuming_clauses_keep_what_is_met.Goals as goal

pub returns : goal.returns
returns c = with_hard-KeepsMet
