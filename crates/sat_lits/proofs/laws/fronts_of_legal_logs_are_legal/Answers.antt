use Rattle.sat_lits.specs.LogLaws.{front_is_legal}
use Rattle.sat_lits.proofs.laws.fronts_of_legal_logs_are_legal.Goals as goal

pub returns : goal.returns
returns c = front_is_legal
