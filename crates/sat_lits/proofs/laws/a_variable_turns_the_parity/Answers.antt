use Rattle.sat_lits.specs.ParityLaws.{is_odd-cons}
use Rattle.sat_lits.proofs.laws.a_variable_turns_the_parity.Goals as goal

pub returns : goal.returns
returns c = is_odd-cons
