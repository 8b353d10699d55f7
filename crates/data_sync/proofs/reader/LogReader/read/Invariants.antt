use Rattle.std.proofs.Common.{◌≡◌, ◌≤◌}
use Rattle.state_laws.specs.Kernel.{state_of}
use Rattle.data_sync.specs.Taking.{HasRead, IsRead, others}
use Rattle.data_sync.proofs.reader.LogReader.read.Given as goal

abbrev pub invariant-read : goal.invariant-read
invariant-read l =
    record {
      at : l.self-inside.cursor ≡ l.place;
      walked : HasRead (state_of l.fn.state) (state_of l.state) l.log l.self-inside.cursor l.self-inside.waiting.items;
      read : IsRead (state_of l.fn.state) l.fn.self.cursor l.fn.self.waiting l.log → IsRead (state_of l.state) l.self-inside.cursor l.self-inside.waiting.items l.log;
      count : l.count ≡ others l.solver (state_of l.fn.state) (state_of l.state);
      few : l.count ≤ l.place;
    }
