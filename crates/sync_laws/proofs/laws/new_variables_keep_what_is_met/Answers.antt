use Rattle.sync_laws.specs.KeepLaws.{extended-KeepsMet, grown-KeepsMet}
use Rattle.sync_laws.proofs.laws.new_variables_keep_what_is_met.Goals as goal

pub returns-clause-own : goal.returns-clause-own
returns-clause-own c = extended-KeepsMet

pub returns-clause-outer : goal.returns-clause-outer
returns-clause-outer c = grown-KeepsMet
