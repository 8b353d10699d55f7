use Rattle.std.proofs.Common.{◌≡◌, ◌-◌, length, IfSome, IsTrue}
use Rattle.clause_store.specs.Store.{is_live, before}
use Rattle.equiv_replace.specs.Nodes.{edges_of}
use Rattle.equiv_replace.proofs.edges.binary_edges.Given as goal

abbrev pub invariant-walk : goal.invariant-walk
invariant-walk l = record {
  live : IfSome l.at (λ id. IsTrue (is_live l.store.held id.0));
  built : l.edges.items ≡ edges_of (before l.store.held l.at);
}

abbrev pub decreases-walk : goal.decreases-walk
decreases-walk l = length l.store.held - length (before l.store.held l.at)
