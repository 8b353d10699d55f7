use Rattle.std.proofs.Common.{◌≡◌, [], Bool, List, Some, None, Err, refl, sym, subst, ap, ◌∙◌}
use Rattle.std.proofs.lemmas.Result.{err_from_is_err_and}
use Rattle.sat_lits.specs.declared.formula.FormulaError.TheVariants as formula
use Rattle.sat_api.specs.Errors.{api_error}
use Rattle.sat_api.proofs.Refusals.{api_error-NoSuchVar}
use Rattle.sat_lits.specs.Formulas.{Extends, with_item}
use Rattle.sat_lits.specs.FollowLaws.{Follows_more, with_item-Extends}
use Rattle.sat_lits.specs.Logs.{IsLegalLog}
use Rattle.sat_lits.specs.LogLaws.{stays_legal}
use Rattle.sat_lits.specs.Meaning.{Problem, Follows}
use Rattle.sat_lits.specs.declared.literal.Lit.{Lit}
use Rattle.race.specs.Homes.{EachPlace, IsEntrant}
use Rattle.sat_api.proofs.Racing.{enters_more}
use Rattle.sat_lits.specs.declared.formula.Item.TheVariants.{Clause}
use Rattle.sat_api.proofs.solver.SatSolver.add_clause.Goals as goal

no_model : (values : List Bool) → None ≡ Some values → ⊥
no_model values e = cc

no_conflict : (lits : List Lit) → None ≡ Some lits → ⊥
no_conflict lits e = cc

pub returns-in_err-push_clause-clause-no_such_var :
    goal.returns-in_err-push_clause-clause-no_such_var
returns-in_err-push_clause-clause-no_such_var c n =
    let refused = c.in_err-push_clause.field-0.0 in
    let missed = c.in_err-push_clause.ensures.no_such_var n in
    let p = err_from_is_err_and c.from_residual.result c.from_residual.ensures.1 in
    rw (p.1, p.2, ← c.self.view_is) (
      λ told. missed.0 (ap Err (api_error-NoSuchVar refused n (cc))),
      λ unknown. ap Err (let same : refused ≡ formula.NoSuchVar n = cc (missed.1 unknown) in ap api_error same),
    )

pub returns-clause-no_such_var : goal.returns-clause-no_such_var
returns-clause-no_such_var c n =
    rw (← c.self.view_is) (
      λ told. absurd (cc),
      λ unknown. absurd (cc ((c.in_ok-push_clause.ensures.no_such_var n).1 unknown)),
    )

pub invariant_of-self-2 : goal.invariant_of-self-2
invariant_of-self-2 c =
    let f : Problem = c.self.inside.formula.problem in
    let new : Problem = with_item (Clause c.args.lits.now) f in
    let ext : Extends f new = with_item-Extends (Clause c.args.lits.now) f in
    let log = c.self.inside.store in
    let is : c.push_clause.new.self.problem ≡ new = c.in_ok-push_clause.ensures.ok in
    record {
      backed = record {
        model = λ values e. absurd (no_model values e);
        conflict = λ lits e. absurd (no_conflict lits e);
        legal = subst (λ (x : Problem). IsLegalLog x log) (sym is) (stays_legal f new log c.vars-vars.ensures.within.known ext c.self.invariant.backed.legal);
        given = c.self.invariant.backed.given;
      };
      limits = c.self.invariant.limits ∙ sym c.in_ok-push_clause.ensures.limits;
      some = c.self.invariant.some;
      many = c.self.invariant.many;
      entrants = subst (λ (x : Problem). EachPlace (IsEntrant x log) c.self.inside.solvers.items) (sym is) (enters_more f new log c.self.inside.solvers.items ext c.self.invariant.entrants);
      fresh = c.self.invariant.fresh;
      refuted = λ e. subst (λ (x : Problem). Follows x []) (sym is) (Follows_more f new [] c.vars-vars.ensures.within.known ext refl (c.self.invariant.refuted e));
    }
