use Rattle.std.proofs.Common.{sym, subst}
use Rattle.state_laws.specs.Kernel.{Kernel, IsLearnedId}
use Rattle.state_laws.specs.KernelLearnLaws.{drop_learned-Standing}
use Rattle.private_state.specs.Kept.{kernel_of}
use Rattle.private_state.proofs.state.PrivateState.drop_learned.Goals as goal

pub invariant_of-self : goal.invariant_of-self
invariant_of-self c =
    record {
      standing = rw c.drop_clause.ensures.rest
          (drop_learned-Standing (kernel_of c.self.inside) c.args.id.0 (subst (λ (k : Kernel). IsLearnedId k c.args.id.0) (sym c.self.view_is) c.requires) c.drop_clause.ensures.kept c.self.invariant.standing);
      vars = c.self.invariant.vars;
    }
