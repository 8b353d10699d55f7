use Rattle.std.proofs.Common.{◌≡◌, [], Bool, List, Some, None, refl, sym, subst, ◌∙◌}
use Rattle.sat_lits.specs.Formulas.{Extends, with_vars}
use Rattle.sat_lits.specs.FollowLaws.{Follows_more, with_vars-Extends}
use Rattle.sat_lits.specs.Logs.{IsLegalLog}
use Rattle.sat_lits.specs.LogLaws.{stays_legal}
use Rattle.sat_lits.specs.Meaning.{Problem, Follows}
use Rattle.sat_lits.specs.declared.literal.Lit.{Lit}
use Rattle.race.specs.Homes.{EachPlace, IsEntrant}
use Rattle.sat_api.proofs.Racing.{enters_more}
use Rattle.sat_api.proofs.solver.SatSolver.new_vars.Goals as goal

no_model : (values : List Bool) → None ≡ Some values → ⊥
no_model values e = cc

no_conflict : (lits : List Lit) → None ≡ Some lits → ⊥
no_conflict lits e = cc

pub invariant_of-self-2 : goal.invariant_of-self-2
invariant_of-self-2 c =
    let f : Problem = c.self.inside.formula.problem in
    let new : Problem = with_vars c.args.by f in
    let ext : Extends f new = with_vars-Extends c.args.by f in
    let log = c.self.inside.store in
    let is : c.grow.new.self.problem ≡ new = c.in_ok-grow.ensures.ok in
    record {
      backed = record {
        model = λ values e. absurd (no_model values e);
        conflict = λ lits e. absurd (no_conflict lits e);
        legal = subst (λ (x : Problem). IsLegalLog x log) (sym is) (stays_legal f new log c.vars-vars.ensures.within.known ext c.self.invariant.backed.legal);
        given = c.self.invariant.backed.given;
      };
      limits = c.self.invariant.limits ∙ sym c.in_ok-grow.ensures.limits;
      some = c.self.invariant.some;
      many = c.self.invariant.many;
      entrants = subst (λ (x : Problem). EachPlace (IsEntrant x log) c.self.inside.solvers.items) (sym is) (enters_more f new log c.self.inside.solvers.items ext c.self.invariant.entrants);
      fresh = c.self.invariant.fresh;
      refuted = λ e. subst (λ (x : Problem). Follows x []) (sym is) (Follows_more f new [] c.vars-vars.ensures.within.known ext refl (c.self.invariant.refuted e));
    }
