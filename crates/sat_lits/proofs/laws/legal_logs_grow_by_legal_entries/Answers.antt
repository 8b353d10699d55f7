use Rattle.sat_lits.specs.LogLaws.{push_is_legal}
use Rattle.sat_lits.proofs.laws.legal_logs_grow_by_legal_entries.Goals as goal

pub returns : goal.returns
returns c = push_is_legal
