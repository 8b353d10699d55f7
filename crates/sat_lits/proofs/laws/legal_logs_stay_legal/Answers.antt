use Rattle.sat_lits.specs.LogLaws.{stays_legal}
use Rattle.sat_lits.proofs.laws.legal_logs_stay_legal.Goals as goal

pub returns : goal.returns
returns c = stays_legal
