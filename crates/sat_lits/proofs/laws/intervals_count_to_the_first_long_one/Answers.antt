use Rattle.sat_lits.specs.ConflictLaws.{intervals_count}
use Rattle.sat_lits.proofs.laws.intervals_count_to_the_first_long_one.Goals as goal

pub returns : goal.returns
returns c = intervals_count
