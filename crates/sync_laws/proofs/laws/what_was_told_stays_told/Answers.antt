use Rattle.sync_laws.specs.ToldLaws.{told_grows, told_none}
use Rattle.sync_laws.proofs.laws.what_was_told_stays_told.Goals as goal

pub returns-clause-kept : goal.returns-clause-kept
returns-clause-kept c = λ s t log k h. k.told log h

pub returns-clause-longer : goal.returns-clause-longer
returns-clause-longer c = told_grows

pub returns-clause-none : goal.returns-clause-none
returns-clause-none c = told_none
