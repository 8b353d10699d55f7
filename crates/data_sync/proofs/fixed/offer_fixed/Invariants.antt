use Rattle.std.proofs.Common.{◌≤◌, length, take, drop}
use Rattle.std.specs.List.{All}
use Rattle.state_laws.specs.Kernel.{state_of}
use Rattle.sync_laws.specs.Told.{IsToldEntry}
use Rattle.data_sync.specs.Giving.{KeepsTurns}
use Rattle.data_sync.proofs.fixed.offer_fixed.Given as goal

abbrev pub invariant-offer : goal.invariant-offer
invariant-offer l =
    record {
      turns : KeepsTurns (state_of l.state) l.solver l.after l.fn.store l.store;
      told : All (IsToldEntry (state_of l.state) l.store) (take l.entry-index (drop l.state.stack_mark l.state.stack));
      earlier : l.after ≤ length l.store;
    }
