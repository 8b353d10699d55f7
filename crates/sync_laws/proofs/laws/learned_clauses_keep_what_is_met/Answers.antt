use Rattle.sync_laws.specs.Told.{IsToldClause}
use Rattle.sync_laws.specs.ToldLaws.{all_among}
use Rattle.sync_laws.specs.KeepLaws.{learning-KeepsMet, with_learned-KeepsMet}
use Rattle.sync_laws.proofs.laws.learned_clauses_keep_what_is_met.Goals as goal

pub returns-clause-one : goal.returns-clause-one
returns-clause-one c = learning-KeepsMet

pub returns-clause-others : goal.returns-clause-others
returns-clause-others c = λ cs ms s a. with_learned-KeepsMet cs ms s (λ log h. all_among (IsToldClause s log) s.marked_learned ms a h)
