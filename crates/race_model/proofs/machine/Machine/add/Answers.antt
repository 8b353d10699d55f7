use Rattle.std.proofs.Common.{◌≡◌, ◌+◌, true, ◌∷◌, ◌++◌, [], length, ap, ◌∙◌, arith}
use Rattle.std.proofs.lemmas.List.{length-map}
use Rattle.sat_lits.specs.Formulas.{names_known, numbers_of, lit_count}
use Rattle.sat_lits.specs.Laws.{lit_count-push}
use Rattle.sat_lits.specs.Limits.{LimitNumbers, standard_limits}
use Rattle.sat_lits.specs.declared.literal.Lit.{Lit}
use Rattle.sat_lits.specs.declared.literal.Var.{Var}
use Rattle.sat_lits.specs.declared.formula.Item.TheVariants.{Clause, Parity}
use Rattle.race_model.proofs.Refusals.{only_memory}
use Rattle.race_model.proofs.machine.Machine.add.Goals as goal

pub only_memory-requires : goal.only_memory-requires
only_memory-requires c =
    let lits = c.as_slice.result.now in
    let problem = c.self.inside.formula.problem in
    let item : Clause lits ≡ c.args.item.now = cc in
    let known : names_known problem.vars (Clause lits) ≡ true = (λ i. names_known (c.self.view_is i).formula.vars (item i)) ∙ c.requires.known in
    let same : lit_count (problem.items ++ Clause lits ∷ []) ≡ lit_count (c.args.self.now.formula.items ++ c.args.item.now ∷ []) = λ i. lit_count ((c.self.view_is i).formula.items ++ item i ∷ []) in
    let limit : c.self.inside.formula.limits.lits ≡ standard_limits.lits = ap (λ (l : LimitNumbers). l.lits) c.self.invariant in
    only_memory c.push_clause.result problem.vars (lit_count problem.items + length lits) c.self.inside.formula.limits.lits (numbers_of (Clause lits)) known
    (omega (arith, c.requires.room, same, limit, lit_count-push problem.items (Clause lits), length-map lits (λ (l : Lit). l.var.0)))
    c.push_clause.ensures.no_such_var c.push_clause.ensures.too_many_lits c.push_clause.ensures.no_other

pub only_memory-requires-in-Parity : goal.only_memory-requires-in-Parity
only_memory-requires-in-Parity c =
    let vars = c.as_slice-in-Parity.result.now in
    let rhs = c.in-Parity.rhs in
    let problem = c.self.inside.formula.problem in
    let item : Parity vars rhs ≡ c.args.item.now = cc in
    let known : names_known problem.vars (Parity vars rhs) ≡ true = (λ i. names_known (c.self.view_is i).formula.vars (item i)) ∙ c.requires.known in
    let same : lit_count (problem.items ++ Parity vars rhs ∷ []) ≡ lit_count (c.args.self.now.formula.items ++ c.args.item.now ∷ []) = λ i. lit_count ((c.self.view_is i).formula.items ++ item i ∷ []) in
    let limit : c.self.inside.formula.limits.lits ≡ standard_limits.lits = ap (λ (l : LimitNumbers). l.lits) c.self.invariant in
    only_memory c.push_parity.result problem.vars (lit_count problem.items + length vars) c.self.inside.formula.limits.lits (numbers_of (Parity vars rhs)) known
    (omega (arith, c.requires.room, same, limit, lit_count-push problem.items (Parity vars rhs), length-map vars (λ (v : Var). v.0)))
    c.push_parity.ensures.no_such_var c.push_parity.ensures.too_many_lits c.push_parity.ensures.no_other
