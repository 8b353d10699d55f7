use Rattle.std.proofs.Common.{◌≡◌, ◌∙◌, refl, ap, sym, subst, List, ◌++◌, ◌∷◌, [], Some, option_to_list}
use Rattle.sat_lits.specs.declared.shared.Shared.{Shared}
use Rattle.state_laws.specs.Conditions.{Takable}
use Rattle.state_laws.specs.Moves.{own_form, imported}
use Rattle.state_laws.specs.Held.{own_clause}
use Rattle.state_laws.specs.Kernel.{Kernel, state_of}
use Rattle.state_laws.specs.KernelTakeLaws.{HoldsMore, imported_state, imported-Standing}
use Rattle.removed_vars.specs.Fresh.{hard_in}
use Rattle.private_state.specs.Importing.{Holds}
use Rattle.private_state.specs.Kept.{kernel_of}
use Rattle.private_state.proofs.Importing.{held_more}
use Rattle.private_state.proofs.state.PrivateState.hold_shared.Goals as goal

abbrev after : goal.After-push_reserved → Kernel
after c = kernel_of (record c.self.inside { entries = c.push_reserved.new.self; store = c.add.new.self })

-- what was done
done : (c : goal.After-push_reserved) → HoldsMore (kernel_of c.self.inside) (after c) (hard_in c.args.stored.now ∷ []) (option_to_list (own_form (state_of (kernel_of c.self.inside)) c.args.entry.clause))
done c =
    let k : Kernel = kernel_of c.self.inside in
    held_more k c.add.new.self c.push_reserved.new.self.items c.in_ok-id.id.0 c.args.stored.now c.args.entry.clause (own_clause k.maps c.args.stored.now)
    (subst (λ (z : Kernel). own_form (state_of z) c.args.entry.clause ≡ Some (own_clause z.maps c.args.stored.now)) (sym c.self.view_is) c.requires.form) refl c.in_ok-id.ensures.held c.in_ok-id.ensures.fresh c.add.ensures.mark c.add.ensures.marked

entries : (c : goal.After-push_reserved) → (after c).entries ≡ (kernel_of c.self.inside).entries ++ c.args.entry ∷ []
entries c = c.push_reserved.ensures.items ∙ ap (λ (z : List Shared). z ++ c.args.entry ∷ []) c.in_ok-reserve.ensures.items

pub invariant_of-self-2 : goal.invariant_of-self-2
invariant_of-self-2 c =
    record {
      standing = imported-Standing (kernel_of c.self.inside) (after c) c.args.entry (hard_in c.args.stored.now ∷ []) (done c) refl (entries c)
          (subst (λ (z : Kernel). Takable (state_of z) c.args.entry.clause) (sym c.self.view_is) c.requires.takable) c.self.invariant.standing;
      vars = c.self.invariant.vars;
    }

pub returns-clause-ok : goal.returns-clause-ok
returns-clause-ok c =
    imported_state (kernel_of c.self.inside) (after c) c.args.entry (hard_in c.args.stored.now ∷ []) (done c) refl (entries c)
    ∙ ap (λ (z : Kernel). imported c.args.entry (state_of z)) c.self.view_is

pub returns-clause-held : goal.returns-clause-held
returns-clause-held c =
    let k : Kernel = kernel_of c.self.inside in
    subst (λ (z : Kernel). Holds z (after c) c.args.entry c.args.stored.now c.in_ok-id.id.0) c.self.view_is
    (record {
      is = ap (λ (z : List Shared). let y : Kernel = record k { entries = z; store = c.add.new.self } in y) (entries c);
      held = c.in_ok-id.ensures.held;
      fresh = c.in_ok-id.ensures.fresh;
      given = c.in_ok-id.ensures.given;
      mark = c.add.ensures.mark;
    })
