use Rattle.std.proofs.Common.{◌≡◌, ◌∙◌, refl, ap, sym, subst, map, [], None, option_to_list, append-nil}
use Rattle.state_laws.specs.Conditions.{Takable}
use Rattle.state_laws.specs.Moves.{own_form, imported}
use Rattle.state_laws.specs.Held.{hard_clause}
use Rattle.state_laws.specs.Kernel.{Kernel, state_of}
use Rattle.state_laws.specs.KernelTakeLaws.{HoldsMore, imported_state, imported-Standing}
use Rattle.private_state.specs.Importing.{Leaves}
use Rattle.private_state.specs.Kept.{kernel_of}
use Rattle.private_state.proofs.Importing.{noted_longer}
use Rattle.private_state.proofs.state.PrivateState.note_shared.Goals as goal

abbrev after : goal.In_ok-push → Kernel
after c = kernel_of (record c.self.inside { entries = c.push.new.self })

form : (c : goal.In_ok-push) → own_form (state_of (kernel_of c.self.inside)) c.args.entry.clause ≡ None
form c = ap (λ (k : Kernel). own_form (state_of k) c.args.entry.clause) c.self.view_is ∙ c.requires.form

done : (c : goal.In_ok-push) → HoldsMore (kernel_of c.self.inside) (after c) [] (option_to_list (own_form (state_of (kernel_of c.self.inside)) c.args.entry.clause))
done c =
    record {
      definitions = refl;
      maps = refl;
      stack = refl;
      stack_mark = refl;
      okay = refl;
      extends = record { news = []; held = sym (append-nil c.self.inside.store.held); contents = refl; fresh = refl; mark = refl; marked = refl };
      become = ap (λ o. map hard_clause (option_to_list o)) (sym (form c));
    }

pub invariant_of-self-2 : goal.invariant_of-self-2
invariant_of-self-2 c =
    record {
      standing = imported-Standing (kernel_of c.self.inside) (after c) c.args.entry [] (done c) refl c.in_ok-push.ensures.items
          (subst (λ (k : Kernel). Takable (state_of k) c.args.entry.clause) (sym c.self.view_is) c.requires.takable) c.self.invariant.standing;
      vars = c.self.invariant.vars;
    }

pub returns-clause-ok : goal.returns-clause-ok
returns-clause-ok c =
    imported_state (kernel_of c.self.inside) (after c) c.args.entry [] (done c) refl c.in_ok-push.ensures.items
    ∙ ap (λ (k : Kernel). imported c.args.entry (state_of k)) c.self.view_is

pub returns-clause-leaves : goal.returns-clause-leaves
returns-clause-leaves c = subst (λ (k : Kernel). Leaves None k (after c)) c.self.view_is (noted_longer (kernel_of c.self.inside) c.push.new.self.items)
