use Rattle.std.proofs.Common.{◌≡◌, ◌∙◌, true, nat_lt, List, ap, sym, subst}
use Rattle.std.specs.List.{list_all}
use Rattle.sat_lits.specs.Formulas.{names_known}
use Rattle.sat_lits.specs.declared.literal.Lit.{Lit}
use Rattle.sat_lits.specs.declared.literal.Var.{Var}
use Rattle.state_laws.specs.State.{outer_count}
use Rattle.one_solver.proofs.Freeing.{lits_there, vars_there}
use Rattle.one_solver.proofs.free.note_item.Goals as goal

pub note_lits-requires : goal.note_lits-requires
note_lits-requires c =
    subst (λ (ls : List Lit). list_all (λ l. nat_lt l.var.0 (outer_count c.args.state.now.definitions)) ls ≡ true) (sym c.as_slice.ensures)
    (lits_there (outer_count c.args.state.now.definitions) c.in-Clause.lits (sym (ap (names_known (outer_count c.args.state.now.definitions)) c.in-Clause.is) ∙ c.requires))

pub note_vars-requires : goal.note_vars-requires
note_vars-requires c =
    subst (λ (vs : List Var). list_all (λ v. nat_lt v.0 (outer_count c.args.state.now.definitions)) vs ≡ true) (sym c.as_slice-in-Parity.ensures)
    (vars_there (outer_count c.args.state.now.definitions) c.in-Parity.vars c.in-Parity.rhs (sym (ap (names_known (outer_count c.args.state.now.definitions)) c.in-Parity.is) ∙ c.requires))
