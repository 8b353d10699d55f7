-- What taking entries of a log does to a state.
use Rattle.std.specs.Prelude.{◌≡◌, ℕ, ◌<◌, ◌≤◌, slice_index_or, ◌==◌, true, false, not, cond, List, [], ◌∷◌, ◌++◌, Some, None, All, length, drop, slice_get, count_by}
use Rattle.std.specs.declared.option.Option.{Option}
use Rattle.std.specs.List.{list_any}
use Rattle.sat_lits.specs.Formulas.{names_known}
use Rattle.sat_lits.specs.declared.literal.Lit.{Lit}
use Rattle.sat_lits.specs.declared.formula.Item.TheVariants.{Clause}
use Rattle.sat_lits.specs.declared.shared.Shared.{Shared}
use Rattle.state_laws.specs.State.{State, outer_count}
use Rattle.sync_laws.specs.Told.{IsTold}
use Rattle.sync_laws.specs.Met.{IsMet}
use Rattle.state_laws.specs.Away.{is_away}
use Rattle.sync_laws.specs.Steps.{StandsIn, waits, IsInStep}

-- the variables of each clause of the log are there
abbrev pub AreKnown : State → List Shared → Type 0
AreKnown s log = All (λ e. names_known (outer_count s.definitions) (Clause e.clause) ≡ true) log

-- an entry was taken, which is met; what was met, away or told stays so
pub record Takes (s t : State) (e : Shared) : Type 0 where
  pub entries : t.entries ≡ s.entries ++ e ∷ []
  pub items : t.items ≡ s.items
  pub definitions : t.definitions ≡ s.definitions
  pub okay : t.okay ≡ true → s.okay ≡ true
  pub keeps : (c : List Lit) → IsMet s c → IsMet t c
  pub own : IsMet t e.clause
  pub away : (l : Lit) → is_away s l ≡ true → is_away t l ≡ true
  pub told : (log : List Shared) → IsTold s log → IsTold t log

-- an attempt to take an entry: it waits and nothing changes, or it is taken, and counts where another solver gave it
abbrev pub Attempt : State → State → Shared → ℕ → Option ℕ → Type 0
Attempt s t e solver None = (t ≡ s) × (list_any (is_away s) e.clause ≡ true)
Attempt s t e solver (Some n) = Takes s t e × (n ≡ cond {A = ℕ} (e.solver == solver) 0 1)

-- entries of the log were taken, and nothing else changed of what the state took; what was told stays so
pub record Reads (s t : State) (log : List Shared) : Type 0 where
  pub taken : List Shared
  pub took : t.entries ≡ s.entries ++ taken
  pub stand : All (StandsIn log) taken
  pub items : t.items ≡ s.items
  pub definitions : t.definitions ≡ s.definitions
  pub told : (l : List Shared) → IsTold s l → IsTold t l

-- how many of the entries that were taken other solvers gave
abbrev pub others : ℕ → State → State → ℕ
others solver s t = count_by (λ (e : Shared). not (e.solver == solver)) (drop (length s.entries) t.entries)

-- each entry that waits names a variable that is eliminated, or replaced by an eliminated one
abbrev pub AreAway : State → List Shared → List ℕ → Type 0
AreAway s log waiting = All (λ p. (e : Shared) → slice_get log p ≡ Some e → list_any (is_away s) e.clause ≡ true) waiting

-- the entry at a place names a variable that is eliminated, or replaced by an eliminated one
abbrev pub IsAwayAt : State → List Shared → ℕ → Type 0
IsAwayAt s log p = (e : Shared) → slice_get log p ≡ Some e → list_any (is_away s) e.clause ≡ true

-- a walk over the entries that wait came from a state s to t, which is in step with the log, and each of the first ones is away
pub record HasTried (s t : State) (log : List Shared) (cursor : ℕ) (waiting : List ℕ) (at : ℕ) : Type 0 where
  pub known : AreKnown t log
  pub reads : Reads s t log
  pub step : IsInStep t cursor waiting log
  pub away : (k d : ℕ) → k < at → IsAwayAt t log (slice_index_or waiting k d)

-- a walk over the log from a state s came to t, which is in step with the log, and each entry that waits is away
pub record HasRead (s t : State) (log : List Shared) (cursor : ℕ) (waiting : List ℕ) : Type 0 where
  pub known : AreKnown t log
  pub reads : Reads s t log
  pub step : IsInStep t cursor waiting log
  pub away : AreAway t log waiting

-- each entry before the cursor was taken, unless it waits, and none from the cursor on was
pub record IsRead (s : State) (cursor : ℕ) (waiting : List ℕ) (log : List Shared) : Type 0 where
  pub taken : (place : ℕ) (e : Shared) → place < cursor → slice_get log place ≡ Some e → waits waiting place ≡ false → StandsIn s.entries e
  pub ahead : (place : ℕ) (e : Shared) → cursor ≤ place → slice_get log place ≡ Some e → StandsIn s.entries e → ⊥
