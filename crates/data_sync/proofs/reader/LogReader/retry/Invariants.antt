use Rattle.std.proofs.Common.{◌≡◌, ◌≤◌, ◌+◌, ◌-◌, length}
use Rattle.state_laws.specs.Kernel.{state_of}
use Rattle.data_sync.specs.Taking.{HasTried, IsRead, others}
use Rattle.data_sync.proofs.reader.LogReader.retry.Given as goal

abbrev pub invariant-retry : goal.invariant-retry
invariant-retry l =
    record {
      tried : HasTried (state_of l.fn.state) (state_of l.state) l.log l.self-inside.cursor l.self-inside.waiting.items l.at;
      read : IsRead (state_of l.fn.state) l.fn.self.cursor l.fn.self.waiting l.log → IsRead (state_of l.state) l.self-inside.cursor l.self-inside.waiting.items l.log;
      cursor : l.self-inside.cursor ≡ l.fn.self.cursor;
      count : l.count ≡ others l.solver (state_of l.fn.state) (state_of l.state);
      few : l.count + length l.self-inside.waiting.items ≤ length l.fn.self.waiting;
      at : l.at ≤ length l.self-inside.waiting.items;
    }

abbrev pub decreases-retry : goal.decreases-retry
decreases-retry l = length l.self-inside.waiting.items - l.at
