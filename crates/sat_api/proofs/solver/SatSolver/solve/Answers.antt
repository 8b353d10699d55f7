use Rattle.std.proofs.Common.{◌≡◌, ◌∙◌, ℕ, true, sym, ap, subst}
use Rattle.sat_lits.specs.Formulas.{names_known, numbers_of, first_unknown}
use Rattle.sat_lits.specs.Laws.{known_where_none}
use Rattle.sat_lits.specs.declared.formula.Item.TheVariants.{Clause}
use Rattle.sat_api.specs.State.{SolverState}
use Rattle.sat_api.proofs.solver.SatSolver.solve.Goals as goal

pub ask-requires-clause-known : goal.ask-requires-clause-known
ask-requires-clause-known g c lifetimes within =
    subst (λ (n : ℕ). names_known n (Clause c.args.assumptions.now) ≡ true) (ap (λ (s : SolverState). s.problem.vars) c.self.view_is)
    (known_where_none c.self.inside.formula.problem.vars (numbers_of (Clause c.args.assumptions.now))
    (ap (λ (n : ℕ). first_unknown n (numbers_of (Clause c.args.assumptions.now))) (sym c.vars.ensures.value) ∙ (sym c.unknown_lit.ensures ∙ c.in_default.is)))
