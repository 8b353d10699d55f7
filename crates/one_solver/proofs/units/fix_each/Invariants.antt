use Rattle.std.proofs.Common.{◌≡◌, true, count_by, IfSome, IsTrue}
use Rattle.clause_store.specs.Store.{is_live, before}
use Rattle.state_laws.specs.Kernel.{state_of}
use Rattle.one_solver.specs.Fixing.{IsFixing}
use Rattle.one_solver.specs.Learned.{NotesLong}
use Rattle.one_solver.specs.Units.{are_long}
use Rattle.one_solver.proofs.units.fix_each.Given as goal

abbrev pub invariant-units : goal.invariant-units
invariant-units l =
    record {
      fixing : IsFixing l.initial.state l.state;
      live : IfSome l.at (λ id. IsTrue (is_live l.state.store.held id.0));
      passed : are_long (before l.state.store.held l.at) ≡ true;
      noted : NotesLong l.state.store l.at l.ids;
    }

abbrev pub decreases-units : goal.decreases-units
decreases-units l = count_by (λ b. b) (state_of l.state).active
