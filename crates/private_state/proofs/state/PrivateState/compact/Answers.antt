use Rattle.std.proofs.Common.{◌∙◌, ap}
use Rattle.state_laws.specs.Kernel.{Kernel, state_of}
use Rattle.private_state.specs.Kept.{kernel_of}
use Rattle.private_state.specs.MovingLaws.{renumbered, renumbered-Standing}
use Rattle.private_state.proofs.state.PrivateState.compact.Goals as goal

pub invariant_of-self : goal.invariant_of-self
invariant_of-self c =
    record {
      standing = renumbered-Standing (kernel_of c.self.inside) c.compact.new.self c.compact.ensures.hard c.compact.ensures.learned c.compact.ensures.marked c.self.invariant.standing;
      vars = c.self.invariant.vars;
    }

pub returns-clause-state : goal.returns-clause-state
returns-clause-state c = renumbered (kernel_of c.self.inside) c.compact.new.self c.compact.ensures.hard c.compact.ensures.learned c.compact.ensures.marked ∙ ap (λ (k : Kernel). state_of k) c.self.view_is
