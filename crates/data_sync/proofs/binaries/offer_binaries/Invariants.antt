use Rattle.std.proofs.Common.{◌≤◌, length, take}
use Rattle.std.specs.List.{All}
use Rattle.state_laws.specs.Kernel.{state_of}
use Rattle.indexed_store.specs.declared.short_id.ShortId.{ShortId}
use Rattle.data_sync.specs.Giving.{KeepsTurns, IsToldAt}
use Rattle.data_sync.proofs.binaries.offer_binaries.Given as goal

abbrev pub invariant-offer : goal.invariant-offer
invariant-offer l =
    record {
      turns : KeepsTurns (state_of l.state) l.solver l.after l.fn.store l.store;
      told : All (λ (id : ShortId). IsToldAt l.state l.store id.0) (take l.id-index l.id-items);
      earlier : l.after ≤ length l.store;
    }
