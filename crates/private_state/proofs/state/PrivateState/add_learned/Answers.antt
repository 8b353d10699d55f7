use Rattle.std.proofs.Common.{◌∙◌, ap, sym, subst}
use Rattle.rebuild_stack.specs.PutIn.{is_clean}
use Rattle.state_laws.specs.Conditions.{Learnable}
use Rattle.state_laws.specs.Held.{own_clause}
use Rattle.state_laws.specs.Kernel.{Kernel, state_of}
use Rattle.state_laws.specs.KernelLearnLaws.{learned-Standing}
use Rattle.state_laws.specs.ViewLaws.{clean_distinct}
use Rattle.private_state.specs.Kept.{kernel_of}
use Rattle.private_state.proofs.state.PrivateState.add_learned.Goals as goal

pub add-requires : goal.add-requires
add-requires c = rw c.as_slice.ensures (clean_distinct c.self.inside.maps c.in_ok-stored.stored (ap is_clean c.in_ok-stored.ensures ∙ c.requires.clean))

pub invariant_of-self-2 : goal.invariant_of-self-2
invariant_of-self-2 c =
    record {
      standing = learned-Standing (kernel_of c.self.inside) c.add.new.self c.in_ok-id.id.0 c.as_slice.result.now c.args.lits.now c.in_ok-id.ensures.held (ap (own_clause c.self.inside.maps) c.as_slice.ensures ∙ c.in_ok-stored.ensures) c.add.ensures.marked
          (subst (λ (k : Kernel). Learnable (state_of k) c.args.lits.now) (sym c.self.view_is) c.requires) c.self.invariant.standing;
      vars = c.self.invariant.vars;
    }
