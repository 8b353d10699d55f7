use Rattle.std.proofs.Common.{ap, subst}
use Rattle.state_laws.specs.Kernel.{state_of}
use Rattle.sync_laws.specs.Met.{KeepsMet}
use Rattle.sync_laws.specs.KeepLaws.{keeps_same}
use Rattle.one_solver.specs.InStep.{in_step_kept}
use Rattle.one_solver.specs.Parts.{Parts}
use Rattle.one_solver.proofs.solver.OneSolver.begin_call.Goals as goal

pub returns-in_err-kept-clause-in_step : goal.returns-in_err-kept-clause-in_step
returns-in_err-kept-clause-in_step c =
    in_step_kept c.args.self.now _ (keeps_same (state_of c.args.self.now.kernel) (state_of c.self.inside.state) (ap (λ (s : Parts). state_of s.kernel) c.self.view_is)) (ap (λ (s : Parts). s.book) c.self.view_is)

pub returns-in_err-settle-clause-in_step : goal.returns-in_err-settle-clause-in_step
returns-in_err-settle-clause-in_step c =
    in_step_kept c.args.self.now _ (subst (λ (s : Parts). KeepsMet (state_of s.kernel) (state_of c.settle.new.state)) c.self.view_is c.settle.ensures.met) (ap (λ (s : Parts). s.book) c.self.view_is)

pub returns-clause-in_step : goal.returns-clause-in_step
returns-clause-in_step c =
    in_step_kept c.args.self.now _ (subst (λ (s : Parts). KeepsMet (state_of s.kernel) (state_of c.settle.new.state)) c.self.view_is c.settle.ensures.met) (ap (λ (s : Parts). s.book) c.self.view_is)
