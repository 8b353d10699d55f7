use Rattle.std.proofs.Common.{◌≡◌, ◌-◌, length, true, IfSome, IsTrue}
use Rattle.sat_lits.specs.Truth.{clauses_value}
use Rattle.clause_store.specs.Store.{is_live, before, hard_of}
use Rattle.state_laws.specs.Held.{in_value}
use Rattle.equiv_replace.proofs.tests.satisfies.Given as goal

abbrev pub invariant-walk : goal.invariant-walk
invariant-walk l =
    record {
      live : IfSome l.at (λ id. IsTrue (is_live l.store.held id.0));
      satisfied : clauses_value (in_value l.inner) (hard_of (before l.store.held l.at)) ≡ true;
    }

abbrev pub decreases-walk : goal.decreases-walk
decreases-walk l = length l.store.held - length (before l.store.held l.at)
