use Rattle.sync_laws.specs.MetLaws.{imported-IsMet, imported-own-IsMet}
use Rattle.sync_laws.proofs.laws.an_entry_taken_is_met.Goals as goal

pub returns-clause-others : goal.returns-clause-others
returns-clause-others c = imported-IsMet

pub returns-clause-own : goal.returns-clause-own
returns-clause-own c = imported-own-IsMet
