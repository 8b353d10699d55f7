use Rattle.std.proofs.Common.{sym, subst}
use Rattle.state_laws.specs.Kernel.{Kernel, IsImplied}
use Rattle.state_laws.specs.KernelLearnLaws.{drop_implied-Standing}
use Rattle.private_state.specs.Kept.{kernel_of}
use Rattle.private_state.proofs.state.PrivateState.drop_implied.Goals as goal

pub invariant_of-self : goal.invariant_of-self
invariant_of-self c =
    record {
      standing = rw c.drop_clause.ensures.rest
          (drop_implied-Standing (kernel_of c.self.inside) c.args.id.0 (subst (λ (k : Kernel). IsImplied k c.args.id.0) (sym c.self.view_is) c.requires) c.drop_clause.ensures.kept c.self.invariant.standing);
      vars = c.self.invariant.vars;
    }
