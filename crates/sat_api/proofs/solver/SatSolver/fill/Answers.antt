use Rattle.std.proofs.Common.{◌≡◌, ◌∙◌, true, false, sym, ap, inr, length, rules}
use Rattle.std.proofs.lemmas.Bool.{true≢false}
use Rattle.sat_api.specs.State.{SolverState}
use Rattle.sat_api.proofs.solver.SatSolver.fill.Goals as goal

pub invariant_of-self : goal.invariant_of-self
invariant_of-self c =
    record {
      backed = record { model = c.self.invariant.backed.model; conflict = c.self.invariant.backed.conflict; legal = c.self.invariant.backed.legal; given = c.self.invariant.backed.given };
      limits = c.self.invariant.limits;
      some = c.self.invariant.some;
      many = inr (sym c.in_ok-self-inside.field-0.ok.0 ∙ c.in_ok-self-inside.ensures.many);
      entrants = c.in_ok-self-inside.ensures.entrants c.self.inside.formula.problem c.self.inside.store;
      fresh = λ e. absurd (true≢false (sym (ap (λ (s : SolverState). s.begun) c.self.view_is ∙ c.requires) ∙ e));
      refuted = c.self.invariant.refuted;
    }
