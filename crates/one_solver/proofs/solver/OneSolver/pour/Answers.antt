use Rattle.std.proofs.Common.{sym, subst}
use Rattle.state_laws.specs.Kernel.{state_of}
use Rattle.data_sync.specs.Syncs.{InStepWith}
use Rattle.one_solver.specs.InStep.{in_step_with, with_in_step}
use Rattle.one_solver.specs.Parts.{Parts}
use Rattle.one_solver.proofs.solver.OneSolver.pour.Goals as goal

pub returns-clause-in_step : goal.returns-clause-in_step
returns-clause-in_step c = λ log h. with_in_step _ log (subst (λ (s : Parts). InStepWith (state_of s.kernel) s.book log) (sym c.self.view_is) (in_step_with c.args.self.now log h))
