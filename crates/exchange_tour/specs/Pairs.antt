-- How two solvers stand with a log of shared clauses.
use Rattle.std.specs.Prelude.{◌≡◌, List, []}
use Rattle.sat_lits.specs.Formulas.{no_problem}
use Rattle.sat_lits.specs.Logs.{IsLegalLog}
use Rattle.sat_lits.specs.declared.shared.Shared.{Shared}
use Rattle.one_solver.specs.Parts.{Parts, problem_in}
use Rattle.one_solver.specs.InStep.{IsInStep, GoesOn}

-- they took nothing and are in step with the log, which is empty
pub record AreNew (first second : Parts) (log : List Shared) : Type 0 where
  pub empty : log ≡ []
  pub first_took : problem_in first ≡ no_problem
  pub second_took : problem_in second ≡ no_problem
  pub first_step : IsInStep first log
  pub second_step : IsInStep second log

-- they took the same items, for which the log is legal, and are in step with it
pub record AreInStep (first second : Parts) (log : List Shared) : Type 0 where
  pub same : problem_in second ≡ problem_in first
  pub legal : IsLegalLog (problem_in first) log
  pub first_step : IsInStep first log
  pub second_step : IsInStep second log

-- one of them exchanged: the log goes on by entries that it gave, is legal, and the solver is in step with it and took the same items
pub record Exchanged (old new : Parts) (before after : List Shared) : Type 0 where
  pub same : problem_in new ≡ problem_in old
  pub legal : IsLegalLog (problem_in new) after
  pub grows : GoesOn old.number before after
  pub step : IsInStep new after
