use Rattle.sat_lits.specs.ParityLaws.{odd_vars_right}
use Rattle.sat_lits.proofs.laws.odd_variables_stand_an_odd_number_of_times.Goals as goal

pub returns : goal.returns
returns c = odd_vars_right
