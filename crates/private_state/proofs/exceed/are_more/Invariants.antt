use Rattle.std.proofs.Common.{◌≡◌, ◌≤◌, sum_by, take}
use Rattle.clause_store.specs.Store.{hard_of}
use Rattle.indexed_store.specs.Occurrences.{clauses_at}
use Rattle.private_state.specs.Pairs.{count_right}
use Rattle.private_state.proofs.exceed.are_more.Given as goal

abbrev pub invariant-each : goal.invariant-each
invariant-each l =
    record {
      counted : l.count ≡ sum_by (count_right l.var.0 (hard_of (clauses_at l.store.held l.ids))) (hard_of (clauses_at l.store.held (take l.id-index l.ids)));
      few : l.count ≤ l.most;
    }
