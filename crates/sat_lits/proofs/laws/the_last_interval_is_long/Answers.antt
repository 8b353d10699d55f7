use Rattle.sat_lits.specs.ConflictLaws.{last_is_long}
use Rattle.sat_lits.proofs.laws.the_last_interval_is_long.Goals as goal

pub returns : goal.returns
returns c = last_is_long
