use Rattle.std.proofs.Common.{refl, sym, subst}
use Rattle.state_laws.specs.Conditions.{Learnable}
use Rattle.state_laws.specs.Held.{own_clause}
use Rattle.state_laws.specs.Kernel.{Kernel, state_of}
use Rattle.state_laws.specs.KernelLearnLaws.{learned-Standing}
use Rattle.state_laws.specs.ViewLaws.{clean_distinct}
use Rattle.private_state.specs.Kept.{kernel_of}
use Rattle.private_state.proofs.state.PrivateState.learn.Goals as goal

pub add-requires : goal.add-requires
add-requires c = clean_distinct c.args.self.now.maps c.args.lits.now c.requires.clean

pub invariant_of-self-2 : goal.invariant_of-self-2
invariant_of-self-2 c =
    record {
      standing = learned-Standing (kernel_of c.self.inside) c.add.new.self c.in_ok-id.id.0 c.args.lits.now (own_clause c.self.inside.maps c.args.lits.now) c.in_ok-id.ensures.held refl c.add.ensures.marked
          (subst (λ (k : Kernel). Learnable (state_of k) (own_clause k.maps c.args.lits.now)) (sym c.self.view_is) c.requires) c.self.invariant.standing;
      vars = c.self.invariant.vars;
    }
