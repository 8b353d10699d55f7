use Rattle.propagate.specs.Laws.{reasoned_more}
use Rattle.analyze.proofs.laws.an_added_clause_keeps_a_trail_reasoned.Goals as goal

pub returns : goal.returns
returns c = reasoned_more
