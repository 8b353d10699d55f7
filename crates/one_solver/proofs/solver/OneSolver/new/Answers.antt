use Rattle.state_laws.specs.Kernel.{no_kernel}
use Rattle.private_state.specs.MovingLaws.{plain_state}
use Rattle.one_solver.specs.InStep.{none_in_step}
use Rattle.one_solver.proofs.solver.OneSolver.new.Goals as goal

pub returns-clause-in_step : goal.returns-clause-in_step
returns-clause-in_step c = none_in_step _ (plain_state no_kernel c.new.result c.new.ensures) c.new-2.ensures
