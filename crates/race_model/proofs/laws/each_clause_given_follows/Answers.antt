use Rattle.race_model.proofs.Runs.{each_given}
use Rattle.race_model.proofs.laws.each_clause_given_follows.Goals as goal

pub returns : goal.returns
returns c = each_given
