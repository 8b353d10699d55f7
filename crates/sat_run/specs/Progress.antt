-- How far a text was read and its commands were carried out.
use Rattle.std.specs.Prelude.{◌≡◌, ℕ, ◌+◌, ◌≤◌, List, length, map, sum_by}
use Rattle.std.specs.declared.option.Option.{Option}
use Rattle.std.specs.Io.KnownBytes.{Consumes}
use Rattle.sat_lits.specs.Limits.{LimitNumbers, standard_limits}
use Rattle.sat_lits.specs.Formulas.{no_problem, lit_count}
use Rattle.sat_api.specs.State.{SolverState, with_problem}
use Rattle.dimacs_text.specs.Commands.{greatest, named_by, literals_in}
use Rattle.dimacs_text.specs.Reads.{HasRead}
use Rattle.dimacs_text.specs.declared.command.Command.{Command}
use Rattle.dimacs_text.specs.declared.reader.Reader.{Reader}
use Rattle.sat_run.specs.World.{World, Carries}

-- the limits on a text where its bytes may be so many
abbrev pub limits_of : ℕ → LimitNumbers
limits_of input = record standard_limits { input = input }

-- a solver without its formula and its answer: its limits, and the conflicts that it counted
abbrev pub settings_of : SolverState → SolverState
settings_of s = with_problem no_problem s

-- the commands fit into the solver's limits, so that it can refuse them for want of memory alone
pub record HasRoomFor (commands : List Command) (solver : SolverState) : Type 0 where
  pub limits : solver.limits ≡ standard_limits
  pub vars : solver.problem.vars ≤ standard_limits.vars
  pub named : greatest (map named_by commands) ≤ standard_limits.vars
  pub few : lit_count solver.problem.items + sum_by literals_in commands ≤ standard_limits.lits

-- the text so far was read, and its commands were carried out since the run began
pub record HasCarried (input : ℕ) (text : List ℕ) (reader : Reader) (start now : World) : Type 0 where
  pub given : List Command
  pub read : HasRead (limits_of input) text given reader
  pub carries : Carries given start now
  pub began : start.solver.problem ≡ no_problem
  pub limits : start.solver.limits ≡ standard_limits

-- at most so many bytes were read of the source
pub record ReadsNoMore (most : ℕ) (left_before left_now : Option (List ℕ)) : Type 0 where
  pub text : List ℕ
  pub consumed : Consumes left_before left_now text
  pub few : length text ≤ most

-- so many bytes were read of the source, which did not fail, and their commands were carried out
pub record Reads (input taken : ℕ) (reader : Reader) (left_before left_now : Option (List ℕ)) (faults_before faults_now : ℕ) (start now : World) : Type 0 where
  pub text : List ℕ
  pub consumed : Consumes left_before left_now text
  pub carried : HasCarried input text reader start now
  pub counted : taken ≡ length text
  pub fits : length text ≤ input
  pub kept : faults_now ≡ faults_before

-- for each text that was read so far, with its limit on input and the run's start
abbrev pub ForText : Reader → World → (ℕ → List ℕ → World → Type 0) → Type 0
ForText reader now P = (input : ℕ) (text : List ℕ) (start : World) → HasCarried input text reader start now → P input text start
