use Rattle.std.proofs.Common.{◌≡◌, ℕ, true, nat_lt, length, List, [], ◌∷◌, refl, sym, subst, ◌∙◌, arith}
use Rattle.std.proofs.lemmas.Bool.{eqb-true}
use Rattle.std.specs.List.{list_all}
use Rattle.std.specs.List.Sorted.{IsStrictlyIncreasing}
use Rattle.state_laws.specs.Kernel.{Standing}
use Rattle.one_solver.specs.Assuming.{AreContradicted}
use Rattle.one_solver.specs.Parts.{Parts, problem_in}
use Rattle.one_solver.proofs.Refuting.{failed_contradicted}
use Rattle.one_solver.proofs.Assumptions.{failed_contradict_items, failed_rise, failed_within}
use Rattle.one_solver.proofs.solver.OneSolver.unsat_under.Goals as goal

no_more : {X : Type 0} (xs : List X) → length xs ≡ 0 → xs ≡ []
no_more [] e = refl
no_more (x ∷ xs) e = absurd (omega arith)

pub unsat-requires-clause-contradicted : goal.unsat-requires-clause-contradicted
unsat-requires-clause-contradicted c = failed_contradicted c.args.self.now.kernel c.args.lits.now c.args.failed.now (no_more c.args.failed.now (eqb-true _ _ (sym c.is_empty.ensures ∙ c.if-is_empty.true))) c.requires.failed

pub fails-requires-clause-rising : goal.fails-requires-clause-rising
fails-requires-clause-rising c =
    subst (λ (ps : List ℕ). IsStrictlyIncreasing ps) (sym (c.as_slice.ensures ∙ c.in-Ok.ensures))
    (failed_rise c.args.self.now c.args.lits.now c.args.positions.now c.requires.ready c.args.failed.now c.requires.failed)

pub fails-requires-clause-within : goal.fails-requires-clause-within
fails-requires-clause-within c =
    subst (λ (ps : List ℕ). list_all (λ p. nat_lt p (length c.args.self.now.assumptions)) ps ≡ true) (sym (c.as_slice.ensures ∙ c.in-Ok.ensures))
    (failed_within c.args.self.now c.args.lits.now c.args.positions.now c.requires.ready c.args.failed.now c.requires.failed)

pub fails-requires-clause-contradict : goal.fails-requires-clause-contradict
fails-requires-clause-contradict c =
    subst (λ (ps : List ℕ). AreContradicted (problem_in c.args.self.now) c.args.self.now.assumptions ps) (sym (c.as_slice.ensures ∙ c.in-Ok.ensures))
    (failed_contradict_items c.args.self.now c.args.lits.now c.args.positions.now c.requires.ready c.args.failed.now
    (subst (λ (s : Parts). Standing s.kernel) c.self.view_is c.okay-okay.ensures.standing) c.requires.entries c.requires.assumed c.requires.failed)
