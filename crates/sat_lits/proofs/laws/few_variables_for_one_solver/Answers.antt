use Rattle.sat_lits.specs.ConflictLaws.{own_count-few}
use Rattle.sat_lits.proofs.laws.few_variables_for_one_solver.Goals as goal

pub returns : goal.returns
returns c = own_count-few
