use Rattle.std.proofs.Common.{subst, sym, ◌∙◌}
use Rattle.one_solver.specs.InStep.{EntriesFollow}
use Rattle.one_solver.specs.Kept.{parts_of}
use Rattle.one_solver.specs.Parts.{Parts, problem_in}
use Rattle.one_solver.specs.Steps.{HasNoModel}
use Rattle.one_solver.proofs.Refuting.{no_model}
use Rattle.one_solver.proofs.solver.OneSolver.okay.Goals as goal

pub returns-clause-right : goal.returns-clause-right
returns-clause-right c = λ e follow.
    subst (λ (s : Parts). HasNoModel (problem_in s)) c.self.view_is
    (no_model (parts_of c.self.inside) c.okay.ensures.standing (subst EntriesFollow (sym c.self.view_is) follow) (sym c.okay.ensures.value ∙ e))
