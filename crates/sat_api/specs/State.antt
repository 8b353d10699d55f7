-- What contracts see of a solver.
use Rattle.std.specs.Prelude.{◌≡◌, ◌⊎◌, ℕ, ◌+◌, ◌*◌, ◌<◌, ◌≤◌, Bool, true, false, List, [], None, All, length}
use Rattle.std.specs.declared.option.Option.{Option}
use Rattle.std.specs.Option.{ForSome}
use Rattle.sat_lits.specs.Limits.{LimitNumbers}
use Rattle.sat_lits.specs.Logs.{IsLegalLog}
use Rattle.sat_lits.specs.Meaning.{Problem, IsModel, Follows}
use Rattle.sat_lits.specs.Formulas.{no_problem}
use Rattle.sat_lits.specs.declared.literal.Lit.{Lit}
use Rattle.sat_lits.specs.declared.shared.Shared.{Shared}
use Rattle.share_store.specs.Log.{StartsWith}
use Rattle.one_solver.specs.Parts.{Parts}

-- the formula of the items that were taken, the limits, the number of threads, the conflict limit of later questions, whether a question was asked,
-- the conflicts counted so far, the solvers, the clauses that they share, how many of them ran out of memory in the latest question, what the latest call
-- left to be read, and whether no question was answered by items that contradict each other
pub record SolverState : Type 0 where
  pub problem : Problem
  pub limits : LimitNumbers
  pub threads : ℕ
  pub max_conflicts : Option ℕ
  pub begun : Bool
  pub counted : ℕ
  pub solvers : List Parts
  pub shared : List Shared
  pub given_up : ℕ
  pub model : Option (List Bool)
  pub conflict : Option (List Lit)
  pub okay : Bool

-- a solver that took nothing
abbrev pub new_solver : LimitNumbers → SolverState
new_solver limits = record {
  problem = no_problem;
  limits = limits;
  threads = 1;
  max_conflicts = None;
  begun = false;
  counted = 0;
  solvers = [];
  shared = [];
  given_up = 0;
  model = None;
  conflict = None;
  okay = true;
}

-- nothing is left to be read
abbrev pub unanswered : SolverState → SolverState
unanswered s = record s { model = None; conflict = None }

-- the formula is this one, and nothing is left to be read
abbrev pub with_problem : Problem → SolverState → SolverState
with_problem f s = record s { problem = f; model = None; conflict = None }

-- a number of threads that these limits allow
abbrev pub IsCount : LimitNumbers → ℕ → Type 0
IsCount limits threads = (0 < threads) × (threads ≤ limits.threads)

-- there is a variable or an item, or a question was asked
abbrev pub HasBegun : SolverState → Type 0
HasBegun s = (0 < s.problem.vars) ⊎ (0 < length s.problem.items) ⊎ (s.begun ≡ true)

-- The formula and all settings are as before. No conflict that was counted is forgotten, and no more are counted than the conflict
-- limit allows each solver. The shared clauses go on from what they were, and are legal for the formula, each given by one of the solvers.
pub record Keeps (old new : SolverState) : Type 0 where
  pub problem : new.problem ≡ old.problem
  pub limits : new.limits ≡ old.limits
  pub threads : new.threads ≡ old.threads
  pub max_conflicts : new.max_conflicts ≡ old.max_conflicts
  pub counted : old.counted ≤ new.counted
  pub limited : ForSome old.max_conflicts (λ most. new.counted ≤ old.counted + old.threads * most)
  pub grows : StartsWith new.shared old.shared
  pub legal : IsLegalLog old.problem new.shared
  pub given : All (λ e. e.solver < old.threads) new.shared

-- the model satisfies the formula, the conflict is a clause that follows from it, and the shared clauses are legal for it, each given by one of the solvers
pub record IsBacked (state : SolverState) : Type 0 where
  pub model : ForSome state.model (IsModel state.problem)
  pub conflict : ForSome state.conflict (Follows state.problem)
  pub legal : IsLegalLog state.problem state.shared
  pub given : All (λ e. e.solver < state.threads) state.shared
