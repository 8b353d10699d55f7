use Rattle.std.proofs.Common.{◌≡◌, ◌≤◌, ◌+◌, ◌^◌, length, vec_len, vec_capacity}
use Rattle.state_laws.specs.Kernel.{Standing, state_of}
use Rattle.state_laws.specs.Moves.{grown}
use Rattle.private_state.specs.Kept.{kernel_of}
use Rattle.private_state.proofs.state.PrivateState.grow.Given as goal

abbrev pub invariant-each : goal.invariant-each
invariant-each l =
    record {
      state : state_of (kernel_of l.self-inside) ≡ grown l.counter (state_of l.fn.self);
      standing : Standing (kernel_of l.self-inside);
      store : l.self-inside.store ≡ l.fn.self.store;
      count : length l.self-inside.definitions.items ≡ length l.fn.self.definitions + l.counter;
      fits : length l.fn.self.definitions + l.more ≤ 2 ^ 31;
      vars : l.self-inside.removed.vars ≡ length l.fn.self.definitions + l.more;
      room : l.more ≤ l.self-inside.maps.spare + l.counter;
      capacity : vec_len l.self-inside.definitions + l.more ≤ vec_capacity l.self-inside.definitions + l.counter;
    }
