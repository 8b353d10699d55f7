use Rattle.std.proofs.Common.{◌≡◌, ◌-◌, length, true, IfSome, IsTrue}
use Rattle.clause_store.specs.Store.{is_live, before}
use Rattle.one_solver.specs.Units.{are_long}
use Rattle.one_solver.specs.Learned.{NotesLong}
use Rattle.one_solver.proofs.units.find_short.Given as goal

abbrev pub invariant-walk : goal.invariant-walk
invariant-walk l =
    record {
      live : IfSome l.at (λ id. IsTrue (is_live l.store.held id.0));
      passed : are_long (before l.store.held l.fn.start) ≡ true → are_long (before l.store.held l.at) ≡ true;
      noted : NotesLong l.store l.fn.start l.initial.ids → NotesLong l.store l.at l.ids;
    }

abbrev pub decreases-walk : goal.decreases-walk
decreases-walk l = length l.store.held - length (before l.store.held l.at)
