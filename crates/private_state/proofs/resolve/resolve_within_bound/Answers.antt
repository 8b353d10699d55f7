use Rattle.std.proofs.Common.{◌∙◌, ap, sym, subst, true, false, length, nat_le, List, Option, IfSome, is_some}
use Rattle.std.specs.Global.{Vec}
use Rattle.std.specs.List.{list_all}
use Rattle.state_laws.specs.Resolution.{resolvents}
use Rattle.removed_vars.specs.declared.changes.Fresh.{Fresh}
use Rattle.removed_vars.specs.Fresh.{Stores}
use Rattle.private_state.proofs.Resolving.{bounded_short}
use Rattle.private_state.proofs.resolve.resolve_within_bound.Goals as goal

pub returns-then-not-are_short-clause-bound : goal.returns-then-not-are_short-clause-bound
returns-then-not-are_short-clause-bound c =
    bounded_short c.args.maps.now c.args.var.0 c.args.block.now c.in-Some.fresh.items false (sym c.if-not-are_few.false ∙ c.are_few.ensures)
    (subst (λ (o : Option (Vec Fresh)). IfSome o (λ clauses. Stores c.args.maps.now clauses.items (resolvents c.args.var.0 c.args.block.now))) c.in-Some.is c.in_ok-fresh.ensures.value)
    (ap is_some (sym c.in-Some.is) ∙ c.in_ok-fresh.ensures.few)
    (sym c.if-not-are_short.true ∙ (c.are_short.ensures ∙ ap (λ (z : List Fresh). list_all (λ f. nat_le (length f.lits) 32) z) c.deref.ensures.value))

pub returns-clause-bound : goal.returns-clause-bound
returns-clause-bound c =
    bounded_short c.args.maps.now c.args.var.0 c.args.block.now c.in-Some.fresh.items true (sym c.if-not-are_few.false ∙ c.are_few.ensures)
    (subst (λ (o : Option (Vec Fresh)). IfSome o (λ clauses. Stores c.args.maps.now clauses.items (resolvents c.args.var.0 c.args.block.now))) c.in-Some.is c.in_ok-fresh.ensures.value)
    (ap is_some (sym c.in-Some.is) ∙ c.in_ok-fresh.ensures.few)
    (sym c.if-not-are_short.false ∙ (c.are_short.ensures ∙ ap (λ (z : List Fresh). list_all (λ f. nat_le (length f.lits) 32) z) c.deref.ensures.value))
