use Rattle.std.proofs.Common.{IfSome, IsTrue}
use Rattle.clause_store.specs.Store.{is_live}
use Rattle.private_state.proofs.tests.holds.Given as goal

abbrev pub invariant-each : goal.invariant-each
invariant-each l = IfSome l.at (λ id. IsTrue (is_live l.store.held id.0))
