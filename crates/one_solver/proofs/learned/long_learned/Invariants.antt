use Rattle.std.proofs.Common.{◌≡◌, ◌-◌, length, map, filter, IfSome, IsTrue}
use Rattle.clause_store.specs.Store.{IsKept, is_live, before}
use Rattle.one_solver.specs.Learned.{is_long}
use Rattle.one_solver.proofs.learned.long_learned.Given as goal

abbrev pub invariant-walk : goal.invariant-walk
invariant-walk l =
    record {
      live : IfSome l.at (λ id. IsTrue (is_live l.store.held id.0));
      ids : map (λ id. id.0) l.ids.items ≡ map (λ h. h.id) (filter is_long (before l.store.held l.at));
      kept : IsKept l.store;
    }

abbrev pub decreases-walk : goal.decreases-walk
decreases-walk l = length l.store.held - length (before l.store.held l.at)
