use Rattle.std.proofs.Common.{◌≡◌, [], Some, filter, take}
use Rattle.clause_store.specs.Store.{Held, clause_at}
use Rattle.indexed_store.specs.Occurrences.{clauses_at}
use Rattle.var_elim.specs.Subsumption.{subsumes}
use Rattle.var_elim.proofs.subsume.stands_alone.Given as goal

abbrev pub invariant-each : goal.invariant-each
invariant-each l = (h : Held) → clause_at l.state.store.held l.by.0 ≡ Some h → filter (subsumes h) (clauses_at l.state.store.held (take l.id-index l.ids)) ≡ []
