use Rattle.sat_lits.specs.LogLaws.{each_follows}
use Rattle.sat_lits.proofs.laws.each_shared_clause_follows.Goals as goal

pub returns : goal.returns
returns c = each_follows
