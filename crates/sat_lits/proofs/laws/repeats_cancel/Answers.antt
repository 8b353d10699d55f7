use Rattle.sat_lits.specs.ParityLaws.{is_odd_twice}
use Rattle.sat_lits.proofs.laws.repeats_cancel.Goals as goal

pub returns : goal.returns
returns c = is_odd_twice
