use Rattle.std.proofs.Common.{List, sym, ap, subst, ◌∙◌}
use Rattle.sat_lits.specs.Verdicts.{IsFailed}
use Rattle.sat_lits.specs.declared.literal.Lit.{Lit}
use Rattle.state_laws.specs.Kernel.{state_of}
use Rattle.sync_laws.specs.KeepLaws.{keeps_trans}
use Rattle.one_solver.specs.InStep.{EntriesFollow, follow_same, in_step_kept}
use Rattle.one_solver.specs.Kept.{parts_of}
use Rattle.one_solver.specs.Parts.{Parts, problem_in}
use Rattle.one_solver.specs.Steps.{HasNoModel}
use Rattle.one_solver.proofs.Refuting.{no_model}
use Rattle.one_solver.proofs.Counting.{none_fails}
use Rattle.one_solver.proofs.solver.OneSolver.step.Goals as goal

pub returns-then-not-okay-clause-right : goal.returns-then-not-okay-clause-right
returns-then-not-okay-clause-right g c =
    let follow : EntriesFollow (parts_of c.self.inside) = subst EntriesFollow (sym c.self.view_is) c.requires.entries in
    let none : HasNoModel (problem_in (parts_of c.self.inside)) = no_model (parts_of c.self.inside) c.okay.ensures.standing follow (sym c.okay.ensures.value ∙ c.if-not-okay.true) in
    subst (λ (ls : List Lit). IsFailed (problem_in c.args.self.now) c.args.self.now.assumptions ls) (sym c.new.ensures)
    (none_fails (problem_in c.args.self.now) c.args.self.now.assumptions (subst (λ (s : Parts). HasNoModel (problem_in s)) c.self.view_is none))

pub search_mapped-requires-clause-entries : goal.search_mapped-requires-clause-entries
search_mapped-requires-clause-entries g c =
    follow_same c.args.self.now c.free_assumptions.new.self c.free_assumptions.ensures.problem c.free_assumptions.ensures.met.entries c.requires.entries

pub returns-in-Ok-clause-in_step : goal.returns-in-Ok-clause-in_step
returns-in-Ok-clause-in_step g c =
    in_step_kept c.args.self.now c.search_mapped.new.self
    (keeps_trans (state_of c.args.self.now.kernel) (state_of c.free_assumptions.new.self.kernel) (state_of c.search_mapped.new.self.kernel) c.free_assumptions.ensures.met c.search_mapped.ensures.met)
    (c.search_mapped.ensures.exchange.book ∙ ap (λ (s : Parts). s.book) c.free_assumptions.ensures.same)

pub returns-in-Err-clause-in_step : goal.returns-in-Err-clause-in_step
returns-in-Err-clause-in_step g c =
    in_step_kept c.args.self.now c.free_assumptions.new.self c.free_assumptions.ensures.met (ap (λ (s : Parts). s.book) c.free_assumptions.ensures.same)
