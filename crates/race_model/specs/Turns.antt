-- What a solver does in one turn with the log, and the events that it is of the machine.
use Rattle.std.specs.Prelude.{◌≡◌, ◌≢◌, ℕ, ◌<◌, List, ◌++◌, All, AllPairs, Contains, length, map}
use Rattle.sat_lits.specs.Meaning.{Problem, Follows}
use Rattle.sat_lits.specs.Logs.{IsShareable, IsLegalLog, with_clauses}
use Rattle.sat_lits.specs.declared.literal.Lit.{Lit}
use Rattle.sat_lits.specs.declared.shared.Shared.{Shared}
use Rattle.race_model.specs.declared.event.Event.{Event}
use Rattle.race_model.specs.declared.event.Event.TheVariants.{Give, Take}
use Rattle.race_model.specs.States.{State, taken_by, entries_at, entries_of, HasAllItems}
use Rattle.race_model.specs.Events.{given_entry, IsRun, after_events}

-- a turn of a solver that took all items: to the entries that it had it takes more of the log, and
-- it adds entries at the log's end that name those of the log found, whose clauses may be shared,
-- follow from the formula with the clauses of the entries that it then has, and stand at no earlier
-- place
pub record IsTurn (f : Problem) (solver : ℕ) (had log has next : List Shared) : Type 0 where
  pub more : List Shared
  pub taken : has ≡ had ++ more
  pub there : All (λ e. Contains log e) more
  pub given : List (List Lit)
  pub added : next ≡ log ++ map (given_entry log solver) given
  pub shareable : All (IsShareable f.vars) given
  pub follow : All (Follows (with_clauses f has)) given
  pub once : AllPairs (λ d e. d.clause ≡ e.clause → ⊥) next

-- its events: it takes the entries at these places, and then gives these clauses
abbrev pub turn_events : ℕ → List ℕ → List (List Lit) → List Event
turn_events solver places clauses =
    map (λ place. Take solver place) places ++ map (λ clause. Give solver clause) clauses

-- who gave which clause
abbrev pub solver_and_clause : Shared → ℕ × List Lit
solver_and_clause e = (e.solver, e.clause)

-- two logs have the same clauses of the same solvers in the same order
abbrev pub SameButAfter : List Shared → List Shared → Type 0
SameButAfter log other = map solver_and_clause log ≡ map solver_and_clause other

-- the state has this log, and the solver took all items and these entries
pub record StandsFor (s : State) (solver : ℕ) (had log : List Shared) : Type 0 where
  pub solver_there : solver < length s.taken
  pub all_items : HasAllItems s solver
  pub places_there : All (λ place. place < length s.log) (taken_by s solver).places
  pub same_log : SameButAfter log s.log
  pub same_entries : SameButAfter had (entries_of s solver)

-- the events are a run, after which the state has the next log and the solver these entries; the
-- formula stays, and so do the entries of each other solver
pub record IsTurnRun (s : State) (solver : ℕ) (log has next : List Shared) (events : List Event)
    : Type 0 where
  pub run : IsRun s events
  pub stands : StandsFor (after_events s events) solver has next
  pub formula : (after_events s events).formula ≡ s.formula
  pub others : (other : ℕ) (had : List Shared) → other ≢ solver → StandsFor s other had log
      → StandsFor (after_events s events) other had next

-- a turn is a run, which takes the entries of the turn and then gives its clauses
abbrev pub TurnsAreRuns : Type 0
TurnsAreRuns =
    (s : State) (solver : ℕ) (had log has next : List Shared)
    (turn : IsTurn s.formula solver had log has next) → StandsFor s solver had log
    → (places : List ℕ) × (entries_at log places ≡ turn.more)
    × IsTurnRun s solver log has next (turn_events solver places turn.given)

-- a legal log is legal after a turn of a solver that had entries of it alone
abbrev pub TurnsKeepLogsLegal : Type 0
TurnsKeepLogsLegal =
    (f : Problem) (solver : ℕ) (had log has next : List Shared)
    → IsTurn f solver had log has next → All (λ e. Contains log e) had → IsLegalLog f log
    → IsLegalLog f next
