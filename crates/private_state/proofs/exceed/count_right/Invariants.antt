use Rattle.std.proofs.Common.{◌≡◌, ◌≤◌, filter, length, take}
use Rattle.clause_store.specs.Store.{hard_of}
use Rattle.indexed_store.specs.Occurrences.{clauses_at}
use Rattle.private_state.specs.Pairs.{joins_right}
use Rattle.private_state.proofs.exceed.count_right.Given as goal

abbrev pub invariant-each : goal.invariant-each
invariant-each l =
    record {
      counted : l.count ≡ length (filter (joins_right l.var.0 l.left) (hard_of (clauses_at l.store.held (take l.id-index l.ids))));
      below : l.count ≤ l.id-index;
    }
