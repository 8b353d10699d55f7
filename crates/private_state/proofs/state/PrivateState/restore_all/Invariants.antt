use Rattle.std.proofs.Common.{◌≡◌, length}
use Rattle.std.specs.Prelude.{IsOk}
use Rattle.state_laws.specs.Kernel.{state_of}
use Rattle.private_state.specs.Kept.{kernel_of}
use Rattle.private_state.proofs.Walking.{AreUnderWay}
use Rattle.private_state.proofs.state.PrivateState.restore_all.Given as goal

abbrev pub invariant-each : goal.invariant-each
invariant-each l =
    record {
      ok : IsOk l.done;
      under_way : AreUnderWay l.vars l.var-index (state_of l.fn.self) (kernel_of l.self-inside);
      vars : l.self-inside.removed.vars ≡ length l.self-inside.definitions.items;
    }
