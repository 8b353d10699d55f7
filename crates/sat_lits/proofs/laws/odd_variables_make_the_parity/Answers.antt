use Rattle.sat_lits.specs.ParityLaws.{odd_of-odd_vars}
use Rattle.sat_lits.proofs.laws.odd_variables_make_the_parity.Goals as goal

pub returns : goal.returns
returns c = odd_of-odd_vars
