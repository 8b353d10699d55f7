-- What an exchange of a solver with the log comes to.
use Rattle.std.specs.Prelude.{◌≡◌, ℕ, List}
use Rattle.sat_lits.specs.Logs.{IsLegalLog}
use Rattle.sat_lits.specs.declared.shared.Shared.{Shared}
use Rattle.state_laws.specs.State.{State, problem_of}
use Rattle.sync_laws.specs.Told.{IsTold}
use Rattle.sync_laws.specs.Steps.{IsInStep, IsTurn}
use Rattle.data_sync.specs.Books.{Book}

-- a state is in step with a log, and the log has what the marked part of the state has for it
pub record InStepWith (s : State) (book : Book) (log : List Shared) : Type 0 where
  pub step : IsInStep s book.cursor book.waiting log
  pub told : IsTold s log

-- all that is there is marked
pub record IsMarked (s : State) : Type 0 where
  pub learned : s.marked_learned ≡ s.learned
  pub stack : s.marked_stack ≡ s.stack

-- a turn was made, the log is legal still, and the state is in step with it
pub record Synced (s t : State) (solver : ℕ) (old new : List Shared) (book : Book) : Type 0 where
  pub turn : IsTurn (problem_of s) solver s.entries old t.entries new
  pub legal : IsLegalLog (problem_of t) new
  pub step : InStepWith t book new
  pub items : t.items ≡ s.items
  pub definitions : t.definitions ≡ s.definitions
