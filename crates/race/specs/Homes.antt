-- The solvers in their places, before, between and after the race.
use Rattle.std.specs.Prelude.{◌≡◌, ◌⊎◌, ℕ, ◌<◌, ◌≤◌, Bool, true, List, All, length, slice_index_or}
use Rattle.std.specs.declared.option.Option.{Option}
use Rattle.sat_lits.specs.Meaning.{Problem}
use Rattle.sat_lits.specs.Formulas.{Extends, no_problem}
use Rattle.sat_lits.specs.Logs.{IsLegalLog}
use Rattle.sat_lits.specs.declared.shared.Shared.{Shared}
use Rattle.share_store.specs.Log.{StartsWith}
use Rattle.one_solver.specs.Parts.{Parts, problem_in}
use Rattle.one_solver.specs.InStep.{IsInStep, IsSettled}
use Rattle.race.specs.Running.{IsWithin}

-- a fact on each solver, with its place
abbrev pub EachPlace : (ℕ → Parts → Type 0) → List Parts → Type 0
EachPlace P solvers = (k : ℕ) (d : Parts) → k < length solvers → P k (slice_index_or solvers k d)

-- a solver as a race takes it in: it took a front of the formula, made no conflict, and is in step with the log
pub record IsEntrant (f : Problem) (log : List Shared) (k : ℕ) (s : Parts) : Type 0 where
  pub number : s.number ≡ k
  pub front : Extends (problem_in s) f
  pub conflicts : s.conflicts ≡ 0
  pub in_step : IsInStep s log

-- a solver that took nothing
pub record IsNew (s : Parts) : Type 0 where
  pub problem : problem_in s ≡ no_problem
  pub okay : s.kernel.okay ≡ true
  pub conflicts : s.conflicts ≡ 0
  pub in_step : (log : List Shared) → IsInStep s log

-- a solver that took the whole formula, or a new one in place of one that ran out of memory; its conflicts are at most the limit
pub record IsHome (limit : Option ℕ) (f : Problem) (log : List Shared) (k : ℕ) (s : Parts) : Type 0 where
  pub number : s.number ≡ k
  pub within : IsWithin limit s.conflicts
  pub in_step : IsInStep s log
  pub took : (problem_in s ≡ f) ⊎ IsNew s

-- and the first of these is settled with the log
pub record IsSettledHome (limit : Option ℕ) (f : Problem) (log : List Shared) (k : ℕ) (s : Parts) : Type 0 where
  pub number : s.number ≡ k
  pub within : IsWithin limit s.conflicts
  pub in_step : IsInStep s log
  pub took : ((problem_in s ≡ f) × IsSettled s log) ⊎ IsNew s

-- within a round: each solver before this place is settled, unless the log has grown
pub record InRound (limit : Option ℕ) (f : Problem) (first : List Shared) (before : List Parts) (place : ℕ) (stay : Bool) (log : List Shared) (solvers : List Parts) : Type 0 where
  pub homes : EachPlace (IsHome limit f log) solvers
  pub done : length log ≡ length first → (k : ℕ) (d : Parts) → k < place → k < length solvers → IsSettledHome limit f log k (slice_index_or solvers k d)
  pub legal : IsLegalLog f log
  pub known : All (λ e. e.solver < length solvers) log
  pub starts : StartsWith log first
  pub kept : stay ≡ true → (k : ℕ) (d : Parts) → k < length solvers → (slice_index_or solvers k d).conflicts ≡ (slice_index_or before k d).conflicts

-- a solver with the number of its place that took a front of the formula
pub record IsFront (f : Problem) (k : ℕ) (s : Parts) : Type 0 where
  pub number : s.number ≡ k
  pub front : Extends (problem_in s) f

-- it took the whole formula, or a new one stands in its place
pub record Absorbs (f : Problem) (k : ℕ) (s t : Parts) : Type 0 where
  pub number : t.number ≡ k
  pub took : (problem_in t ≡ f) ⊎ IsNew t
  pub fewer : t.conflicts ≤ s.conflicts
  pub in_step : (log : List Shared) → IsInStep s log → IsInStep t log
