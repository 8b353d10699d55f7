use Rattle.std.proofs.Common.{◌≡◌, ◌∙◌, refl, ap, sym, subst, map, List, ◌++◌, ◌∷◌, [], option_to_list}
use Rattle.rebuild_stack.specs.PutIn.{option_passes}
use Rattle.sat_lits.specs.declared.literal.Lit.{Lit}
use Rattle.sat_lits.specs.declared.formula.Item.{Item}
use Rattle.sat_lits.specs.declared.formula.Item.TheVariants.{Clause}
use Rattle.state_laws.specs.Conditions.{Takable}
use Rattle.state_laws.specs.Moves.{own_form, taken}
use Rattle.state_laws.specs.Held.{has_inner}
use Rattle.state_laws.specs.Kernel.{Kernel, state_of}
use Rattle.state_laws.specs.KernelTakeLaws.{HoldsMore, own_form_outer, takable_there, takable_active, taken_state, taken-Standing}
use Rattle.removed_vars.specs.Fresh.{hard_in}
use Rattle.private_state.specs.Kept.{kernel_of}
use Rattle.private_state.specs.MovingLaws.{stored_form}
use Rattle.sat_lits.specs.ListLaws.{pushed}
use Rattle.private_state.proofs.state.PrivateState.take_clause.Goals as goal

pub own_form-requires-clause-there : goal.own_form-requires-clause-there
own_form-requires-clause-there c = takable_there (kernel_of c.self.inside) c.args.lits.now c.self.invariant.standing (subst (λ (k : Kernel). Takable (state_of k) c.args.lits.now) (sym c.self.view_is) c.requires)

pub own_form-requires-clause-active : goal.own_form-requires-clause-active
own_form-requires-clause-active c =
    ap (option_passes (has_inner c.self.inside.maps)) (own_form_outer (kernel_of c.self.inside) c.self.invariant.standing c.args.lits.now)
    ∙ takable_active (kernel_of c.self.inside) c.args.lits.now c.self.invariant.standing (subst (λ (k : Kernel). Takable (state_of k) c.args.lits.now) (sym c.self.view_is) c.requires)

abbrev after : goal.Joined-clause-3 → Kernel
after c = kernel_of (record c.self.inside { items = c.push.new.self; store = c.add_hard.new.store })

-- what was done
done : (c : goal.Joined-clause-3) → HoldsMore (kernel_of c.self.inside) (after c) (map hard_in (option_to_list c.in_ok-clause.clause)) (option_to_list (own_form (state_of (kernel_of c.self.inside)) c.args.lits.now))
done c =
    record {
      definitions = refl;
      maps = refl;
      stack = refl;
      stack_mark = refl;
      okay = refl;
      extends = c.in_ok-add_hard.ensures.ok;
      become = stored_form c.self.inside.maps c.in_ok-clause.clause (own_form (state_of (kernel_of c.self.inside)) c.args.lits.now)
          (c.in_ok-clause.ensures.value ∙ own_form_outer (kernel_of c.self.inside) c.self.invariant.standing c.args.lits.now);
    }

items : (c : goal.Joined-clause-3) → (after c).items ≡ (kernel_of c.self.inside).items ++ Clause c.args.lits.now ∷ []
items c =
    pushed c.push.result c.unwrap.result c.reserve.new.self.items (c.reserve.new.self.items ++ Clause c.in_ok-from_slice.field-0 ∷ []) c.push.new.self.items c.push.ensures.items c.unwrap.ensures
    ∙ (ap (λ (z : List Item). z ++ Clause c.in_ok-from_slice.field-0 ∷ []) c.in_ok-reserve.ensures.items
    ∙ ap (λ (z : List Lit). c.self.inside.items.items ++ Clause z ∷ []) c.in_ok-from_slice.ensures)

pub invariant_of-self-2 : goal.invariant_of-self-2
invariant_of-self-2 c =
    record {
      standing = taken-Standing (kernel_of c.self.inside) (after c) c.args.lits.now (map hard_in (option_to_list c.in_ok-clause.clause)) (done c) (items c) refl
          (subst (λ (k : Kernel). Takable (state_of k) c.args.lits.now) (sym c.self.view_is) c.requires) c.self.invariant.standing;
      vars = c.self.invariant.vars;
    }

pub returns-clause-ok : goal.returns-clause-ok
returns-clause-ok c =
    taken_state (kernel_of c.self.inside) (after c) c.args.lits.now (map hard_in (option_to_list c.in_ok-clause.clause)) (done c) (items c) refl
    ∙ ap (λ (k : Kernel). taken c.args.lits.now (state_of k)) c.self.view_is
