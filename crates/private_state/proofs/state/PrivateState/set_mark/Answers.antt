use Rattle.std.proofs.Common.{◌∙◌, ap, length}
use Rattle.state_laws.specs.Kernel.{Kernel, state_of}
use Rattle.state_laws.specs.State.{State}
use Rattle.private_state.specs.Kept.{kernel_of}
use Rattle.private_state.specs.MovingLaws.{marking_state}
use Rattle.private_state.proofs.state.PrivateState.set_mark.Goals as goal

pub returns-clause-state : goal.returns-clause-state
returns-clause-state c =
    marking_state (kernel_of c.self.inside) c.set_mark.new.self (length c.entries.result.now) c.set_mark.ensures (ap length (c.entries.ensures ∙ c.stack.ensures)) c.store-clauses.ensures.kept
    ∙ ap (λ (k : Kernel). let s : State = record (state_of k) { marked_learned = (state_of k).learned; marked_stack = k.stack } in s) c.self.view_is
