use Rattle.std.proofs.Common.{◌≡◌, ◌∙◌, not, List, Some, sym, subst, ap}
use Rattle.std.proofs.lemmas.Bool.{not-false}
use Rattle.sat_lits.specs.Meaning.{Problem, Follows}
use Rattle.sat_lits.specs.Verdicts.{IsFailed}
use Rattle.sat_lits.specs.declared.literal.Lit.{Lit}
use Rattle.sat_api.specs.State.{SolverState}
use Rattle.sat_api.specs.Answers.{HasModelUnder, is_refutation}
use Rattle.sat_api.proofs.Asking.{IsFilled, HaveRaced, kept, settled, problem_same}
use Rattle.sat_api.proofs.Verdicts.{negated_follow, found_failed, none_under, empty_follows}
use Rattle.sat_api.proofs.solver.SatSolver.ask.Goals as goal

some_same : (a b : List Lit) → Some a ≡ Some b → a ≡ b
some_same a b e = cc

pub invariant_of-self-in-Verdict-Unsat : goal.invariant_of-self-in-Verdict-Unsat
invariant_of-self-in-Verdict-Unsat g c =
    let f : Problem = c.self-2.inside.formula.problem in
    let filled : IsFilled c.args.self.now c.begin.new.self c.self-2.inside = record { filled = c.fill.new.self; begin = c.begin.ensures; same = c.in_ok-fill.ensures.same; many = c.in_ok-fill.ensures.many; view = c.self-2.view_is } in
    let raced : HaveRaced c.self-2.inside c.args.assumptions.now c.compete-found.new.solvers c.compete-found.new.store = record { before = c.as_mut_slice.result.now; read = c.as_mut_slice.ensures.value; many = c.compete-found.auto.solvers; legal = c.compete-found.ensures.legal; entrants = c.compete-found.ensures.entrants } in
    let failed : IsFailed f c.args.assumptions.now c.in-Verdict-Unsat.failed = found_failed f c.args.assumptions.now _ _ _ _ _ _ c.compete-found.result c.in-Verdict-Unsat.field-0 c.in-Verdict-Unsat.failed c.in-Verdict-Unsat.is c.in-Verdict-Unsat.field-0-is c.compete-found.ensures.found in
    let follows : Follows f c.negate.new.self = subst (λ (ls : List Lit). Follows f ls) (sym c.negate.ensures) (negated_follow f c.args.assumptions.now c.in-Verdict-Unsat.failed failed) in
    kept c.args.self.now c.begin.new.self c.self-2.inside c.args.assumptions.now c.compete-found.new.solvers c.compete-found.new.store c.count_lost-self-inside.result c.compete-found.new.tally c.self-2.inside.model (Some c.negate.new.self) (not c.is_empty_clause.result) c.self-2.invariant filled raced
    c.self-2.invariant.backed.model
    (λ lits e. subst (λ (ls : List Lit). Follows f ls) (some_same c.negate.new.self lits e) follows)
    (λ e. empty_follows f c.negate.new.self (ap (λ (ls : List Lit). is_refutation (Some ls)) (sym c.as_slice-in-Verdict-Unsat.ensures) ∙ (sym c.is_empty_clause.ensures ∙ not-false c.is_empty_clause.result e)) follows)

pub invariant_of-self-in-Spent : goal.invariant_of-self-in-Spent
invariant_of-self-in-Spent g c =
    let filled : IsFilled c.args.self.now c.begin.new.self c.self-2.inside = record { filled = c.fill.new.self; begin = c.begin.ensures; same = c.in_ok-fill.ensures.same; many = c.in_ok-fill.ensures.many; view = c.self-2.view_is } in
    let raced : HaveRaced c.self-2.inside c.args.assumptions.now c.compete-found.new.solvers c.compete-found.new.store = record { before = c.as_mut_slice.result.now; read = c.as_mut_slice.ensures.value; many = c.compete-found.auto.solvers; legal = c.compete-found.ensures.legal; entrants = c.compete-found.ensures.entrants } in
    kept c.args.self.now c.begin.new.self c.self-2.inside c.args.assumptions.now c.compete-found.new.solvers c.compete-found.new.store c.count_lost-self-inside.result c.compete-found.new.tally c.self-2.inside.model c.self-2.inside.conflict c.self-2.inside.okay c.self-2.invariant filled raced
    c.self-2.invariant.backed.model c.self-2.invariant.backed.conflict c.self-2.invariant.refuted

pub invariant_of-self-in-Interrupted : goal.invariant_of-self-in-Interrupted
invariant_of-self-in-Interrupted g c =
    let filled : IsFilled c.args.self.now c.begin.new.self c.self-2.inside = record { filled = c.fill.new.self; begin = c.begin.ensures; same = c.in_ok-fill.ensures.same; many = c.in_ok-fill.ensures.many; view = c.self-2.view_is } in
    let raced : HaveRaced c.self-2.inside c.args.assumptions.now c.compete-found.new.solvers c.compete-found.new.store = record { before = c.as_mut_slice.result.now; read = c.as_mut_slice.ensures.value; many = c.compete-found.auto.solvers; legal = c.compete-found.ensures.legal; entrants = c.compete-found.ensures.entrants } in
    kept c.args.self.now c.begin.new.self c.self-2.inside c.args.assumptions.now c.compete-found.new.solvers c.compete-found.new.store c.count_lost-self-inside.result c.compete-found.new.tally c.self-2.inside.model c.self-2.inside.conflict c.self-2.inside.okay c.self-2.invariant filled raced
    c.self-2.invariant.backed.model c.self-2.invariant.backed.conflict c.self-2.invariant.refuted

pub invariant_of-self-in-Memory : goal.invariant_of-self-in-Memory
invariant_of-self-in-Memory g c =
    let filled : IsFilled c.args.self.now c.begin.new.self c.self-2.inside = record { filled = c.fill.new.self; begin = c.begin.ensures; same = c.in_ok-fill.ensures.same; many = c.in_ok-fill.ensures.many; view = c.self-2.view_is } in
    let raced : HaveRaced c.self-2.inside c.args.assumptions.now c.compete-found.new.solvers c.compete-found.new.store = record { before = c.as_mut_slice.result.now; read = c.as_mut_slice.ensures.value; many = c.compete-found.auto.solvers; legal = c.compete-found.ensures.legal; entrants = c.compete-found.ensures.entrants } in
    kept c.args.self.now c.begin.new.self c.self-2.inside c.args.assumptions.now c.compete-found.new.solvers c.compete-found.new.store c.count_lost-self-inside.result c.compete-found.new.tally c.self-2.inside.model c.self-2.inside.conflict c.self-2.inside.okay c.self-2.invariant filled raced
    c.self-2.invariant.backed.model c.self-2.invariant.backed.conflict c.self-2.invariant.refuted

pub returns-in-Verdict-Unsat-clause-decided : goal.returns-in-Verdict-Unsat-clause-decided
returns-in-Verdict-Unsat-clause-decided g c =
    let f : Problem = c.self-2.inside.formula.problem in
    let failed : IsFailed f c.args.assumptions.now c.in-Verdict-Unsat.failed = found_failed f c.args.assumptions.now _ _ _ _ _ _ c.compete-found.result c.in-Verdict-Unsat.field-0 c.in-Verdict-Unsat.failed c.in-Verdict-Unsat.is c.in-Verdict-Unsat.field-0-is c.compete-found.ensures.found in
    let filled : IsFilled c.args.self.now c.begin.new.self c.self-2.inside = record { filled = c.fill.new.self; begin = c.begin.ensures; same = c.in_ok-fill.ensures.same; many = c.in_ok-fill.ensures.many; view = c.self-2.view_is } in
    subst (λ (x : Problem). HasModelUnder x c.args.assumptions.now → ⊥) (problem_same c.args.self.now c.begin.new.self c.self-2.inside filled) (none_under f c.in-Verdict-Unsat.failed c.args.assumptions.now failed)

pub returns-in-Verdict-Sat-clause-settled : goal.returns-in-Verdict-Sat-clause-settled
returns-in-Verdict-Sat-clause-settled g c okay =
    let filled : IsFilled c.args.self.now c.begin.new.self c.self-2.inside = record { filled = c.fill.new.self; begin = c.begin.ensures; same = c.in_ok-fill.ensures.same; many = c.in_ok-fill.ensures.many; view = c.self-2.view_is } in
    let raced : HaveRaced c.self-2.inside c.args.assumptions.now c.compete-found.new.solvers c.compete-found.new.store = record { before = c.as_mut_slice.result.now; read = c.as_mut_slice.ensures.value; many = c.compete-found.auto.solvers; legal = c.compete-found.ensures.legal; entrants = c.compete-found.ensures.entrants } in
    settled c.args.self.now c.begin.new.self c.self-2.inside c.args.assumptions.now c.compete-found.new.solvers c.as_slice.result.now c.compete-found.new.store c.count_lost-self-inside.result c.compete-found.new.tally (Some c.in-Verdict-Sat.values) (c.self-2.inside.conflict) (c.self-2.inside.okay) filled raced c.compete-found.ensures.settled c.as_slice.ensures.value c.count_lost-self-inside.ensures

pub returns-in-Verdict-Unsat-clause-settled : goal.returns-in-Verdict-Unsat-clause-settled
returns-in-Verdict-Unsat-clause-settled g c okay =
    let filled : IsFilled c.args.self.now c.begin.new.self c.self-2.inside = record { filled = c.fill.new.self; begin = c.begin.ensures; same = c.in_ok-fill.ensures.same; many = c.in_ok-fill.ensures.many; view = c.self-2.view_is } in
    let raced : HaveRaced c.self-2.inside c.args.assumptions.now c.compete-found.new.solvers c.compete-found.new.store = record { before = c.as_mut_slice.result.now; read = c.as_mut_slice.ensures.value; many = c.compete-found.auto.solvers; legal = c.compete-found.ensures.legal; entrants = c.compete-found.ensures.entrants } in
    settled c.args.self.now c.begin.new.self c.self-2.inside c.args.assumptions.now c.compete-found.new.solvers c.as_slice.result.now c.compete-found.new.store c.count_lost-self-inside.result c.compete-found.new.tally (c.self-2.inside.model) (Some c.negate.new.self) (not c.is_empty_clause.result) filled raced c.compete-found.ensures.settled c.as_slice.ensures.value c.count_lost-self-inside.ensures

pub returns-in-Spent-clause-settled : goal.returns-in-Spent-clause-settled
returns-in-Spent-clause-settled g c okay =
    let filled : IsFilled c.args.self.now c.begin.new.self c.self-2.inside = record { filled = c.fill.new.self; begin = c.begin.ensures; same = c.in_ok-fill.ensures.same; many = c.in_ok-fill.ensures.many; view = c.self-2.view_is } in
    let raced : HaveRaced c.self-2.inside c.args.assumptions.now c.compete-found.new.solvers c.compete-found.new.store = record { before = c.as_mut_slice.result.now; read = c.as_mut_slice.ensures.value; many = c.compete-found.auto.solvers; legal = c.compete-found.ensures.legal; entrants = c.compete-found.ensures.entrants } in
    settled c.args.self.now c.begin.new.self c.self-2.inside c.args.assumptions.now c.compete-found.new.solvers c.as_slice.result.now c.compete-found.new.store c.count_lost-self-inside.result c.compete-found.new.tally (c.self-2.inside.model) (c.self-2.inside.conflict) (c.self-2.inside.okay) filled raced c.compete-found.ensures.settled c.as_slice.ensures.value c.count_lost-self-inside.ensures

pub returns-in-Interrupted-clause-settled : goal.returns-in-Interrupted-clause-settled
returns-in-Interrupted-clause-settled g c okay =
    let filled : IsFilled c.args.self.now c.begin.new.self c.self-2.inside = record { filled = c.fill.new.self; begin = c.begin.ensures; same = c.in_ok-fill.ensures.same; many = c.in_ok-fill.ensures.many; view = c.self-2.view_is } in
    let raced : HaveRaced c.self-2.inside c.args.assumptions.now c.compete-found.new.solvers c.compete-found.new.store = record { before = c.as_mut_slice.result.now; read = c.as_mut_slice.ensures.value; many = c.compete-found.auto.solvers; legal = c.compete-found.ensures.legal; entrants = c.compete-found.ensures.entrants } in
    settled c.args.self.now c.begin.new.self c.self-2.inside c.args.assumptions.now c.compete-found.new.solvers c.as_slice.result.now c.compete-found.new.store c.count_lost-self-inside.result c.compete-found.new.tally (c.self-2.inside.model) (c.self-2.inside.conflict) (c.self-2.inside.okay) filled raced c.compete-found.ensures.settled c.as_slice.ensures.value c.count_lost-self-inside.ensures

pub returns-in-Memory-clause-settled : goal.returns-in-Memory-clause-settled
returns-in-Memory-clause-settled g c okay =
    let filled : IsFilled c.args.self.now c.begin.new.self c.self-2.inside = record { filled = c.fill.new.self; begin = c.begin.ensures; same = c.in_ok-fill.ensures.same; many = c.in_ok-fill.ensures.many; view = c.self-2.view_is } in
    let raced : HaveRaced c.self-2.inside c.args.assumptions.now c.compete-found.new.solvers c.compete-found.new.store = record { before = c.as_mut_slice.result.now; read = c.as_mut_slice.ensures.value; many = c.compete-found.auto.solvers; legal = c.compete-found.ensures.legal; entrants = c.compete-found.ensures.entrants } in
    settled c.args.self.now c.begin.new.self c.self-2.inside c.args.assumptions.now c.compete-found.new.solvers c.as_slice.result.now c.compete-found.new.store c.count_lost-self-inside.result c.compete-found.new.tally (c.self-2.inside.model) (c.self-2.inside.conflict) (c.self-2.inside.okay) filled raced c.compete-found.ensures.settled c.as_slice.ensures.value c.count_lost-self-inside.ensures
