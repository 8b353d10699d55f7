use Rattle.std.proofs.Common.{◌-◌, length, IfSome, IsTrue}
use Rattle.clause_store.specs.Store.{is_live, before}
use Rattle.indexed_store.proofs.Pairing.{Noting}
use Rattle.indexed_store.proofs.pairs.refill_pairs.Given as goal

abbrev pub invariant-walk : goal.invariant-walk
invariant-walk l =
    record {
      live : IfSome l.at (λ id. IsTrue (is_live l.store.held id.0));
      noting : Noting l.store.held l.at l.initial.pairs l.pairs;
    }

abbrev pub decreases-walk : goal.decreases-walk
decreases-walk l = length l.store.held - length (before l.store.held l.at)
