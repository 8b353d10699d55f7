use Rattle.std.proofs.Common.{◌≡◌, ◌≤◌, length, take}
use Rattle.clause_store.specs.Store.{hard_of}
use Rattle.indexed_store.specs.Occurrences.{clauses_at}
use Rattle.private_state.proofs.exceed.count_hard.Given as goal

abbrev pub invariant-each : goal.invariant-each
invariant-each l =
    record {
      counted : l.count ≡ length (hard_of (clauses_at l.store.held (take l.id-index l.ids)));
      below : l.count ≤ l.id-index;
    }
