-- How many own variables one solver has.
use Rattle.std.specs.Prelude.{◌≤◌, length}
use Rattle.sat_lits.specs.Conflicts.{own_count}
use Rattle.state_laws.specs.State.{problem_of}
use Rattle.state_laws.specs.Kernel.{Kernel, state_of}

-- a private state that has no more own variables than its items may come to have
pub record IsBasic (k : Kernel) : Type 0 where
  pub few : length k.definitions ≤ own_count (problem_of (state_of k))
