use Rattle.one_solver.specs.InStep.{in_step_follows}
use Rattle.one_solver.proofs.laws.what_a_solver_in_step_took_follows.Goals as goal

pub returns : goal.returns
returns c = in_step_follows
