use Rattle.one_solver.specs.InStep.{in_step_grows}
use Rattle.one_solver.proofs.laws.a_solver_stays_in_step_with_a_longer_log.Goals as goal

pub returns : goal.returns
returns c = in_step_grows
