-- What the fields of a solver mean, and what they keep.
use Rattle.std.specs.Prelude.{◌≡◌, ◌⊎◌, ◌<◌, false, [], length}
use Rattle.sat_lits.specs.Meaning.{Follows}
use Rattle.race.specs.Homes.{EachPlace, IsEntrant}
use Rattle.sat_api.specs.State.{SolverState, IsBacked}
use Rattle.sat_api.specs.declared.solver.SatSolver.TheInside.{Inside}

abbrev pub state_of : Inside → SolverState
state_of s = record {
  problem = s.formula.problem;
  limits = s.formula.limits;
  threads = s.threads;
  max_conflicts = s.max_conflicts;
  begun = s.begun;
  counted = s.tally;
  solvers = s.solvers.items;
  shared = s.store;
  given_up = s.given_up;
  model = s.model;
  conflict = s.conflict;
  okay = s.okay;
}

-- What is left to be read is right, and the shared clauses are legal. There is a thread. There are as many solvers as threads once
-- a question was asked, or none, and they may enter a race over the shared clauses. Before the first question there are no shared clauses.
-- Where the solver is not okay the items contradict each other.
pub record IsKept (s : Inside) : Type 0 where
  pub backed : IsBacked (state_of s)
  pub limits : s.limits ≡ s.formula.limits
  pub some : 0 < s.threads
  pub many : (s.solvers.items ≡ []) ⊎ (length s.solvers.items ≡ s.threads)
  pub entrants : EachPlace (IsEntrant s.formula.problem s.store) s.solvers.items
  pub fresh : s.begun ≡ false → (s.solvers.items ≡ []) × (s.store ≡ [])
  pub refuted : s.okay ≡ false → Follows s.formula.problem []
