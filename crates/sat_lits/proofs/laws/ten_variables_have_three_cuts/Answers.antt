use Rattle.sat_lits.specs.ParityLaws.{cuts_of_ten}
use Rattle.sat_lits.proofs.laws.ten_variables_have_three_cuts.Goals as goal

pub returns : goal.returns
returns c = cuts_of_ten
