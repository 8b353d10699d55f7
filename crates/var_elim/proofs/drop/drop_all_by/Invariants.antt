use Rattle.std.proofs.Common.{◌≡◌, ◌≤◌, [], Some, filter, take}
use Rattle.clause_store.specs.Store.{Held, clause_at}
use Rattle.indexed_store.specs.Occurrences.{clauses_at}
use Rattle.var_elim.specs.Subsumption.{subsumes}
use Rattle.var_elim.specs.Dropping.{Drops}
use Rattle.var_elim.specs.Marked.{IsMarked}
use Rattle.var_elim.proofs.drop.drop_all_by.Given as goal

abbrev pub invariant-each : goal.invariant-each
invariant-each l =
    record {
      drops : Drops l.dropped l.initial.state.store.held l.state.store.held;
      same : l.state ≡ record l.initial.state { store = record l.initial.state.store { held = l.state.store.held } };
      by : IsMarked l.state.store.held l.by;
      none : l.dropped ≡ 0 → (h : Held) → clause_at l.initial.state.store.held l.by.id.0 ≡ Some h → filter (subsumes h) (clauses_at l.initial.state.store.held (take l.other-index l.other-items)) ≡ [];
      count : l.dropped ≤ l.other-index;
    }
