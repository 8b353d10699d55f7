use Rattle.std.proofs.Common.{ap, subst}
use Rattle.state_laws.specs.Kernel.{state_of}
use Rattle.sync_laws.specs.Met.{KeepsMet}
use Rattle.one_solver.specs.InStep.{in_step_kept}
use Rattle.one_solver.specs.Parts.{Parts}
use Rattle.one_solver.proofs.solver.OneSolver.absorb.Goals as goal

pub returns-clause-in_step : goal.returns-clause-in_step
returns-clause-in_step c =
    in_step_kept c.args.self.now _ (subst (λ (s : Parts). KeepsMet (state_of s.kernel) (state_of c.take_formula.new.state)) c.self.view_is c.take_formula.ensures.met) (ap (λ (s : Parts). s.book) c.self.view_is)
