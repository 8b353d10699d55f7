use Rattle.std.proofs.Common.{◌-◌, length, IfSome, IsTrue}
use Rattle.clause_store.specs.Store.{is_live, before}
use Rattle.indexed_store.proofs.Filling.{Filling}
use Rattle.indexed_store.proofs.lists.fill.Given as goal

abbrev pub invariant-walk : goal.invariant-walk
invariant-walk l =
    record {
      live : IfSome l.at (λ id. IsTrue (is_live l.store.held id.0));
      filling : Filling l.store.held l.at l.initial.lists.items l.lists.items;
    }

abbrev pub decreases-walk : goal.decreases-walk
decreases-walk l = length l.store.held - length (before l.store.held l.at)
