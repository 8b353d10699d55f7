use Rattle.sat_lits.specs.ConflictLaws.{intervals_len_sum}
use Rattle.sat_lits.proofs.laws.intervals_add_up.Goals as goal

pub returns : goal.returns
returns c = intervals_len_sum
