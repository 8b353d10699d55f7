-- When a variable of a private state may be eliminated.
use Rattle.std.specs.Prelude.{ℕ, Bool, filter}
use Rattle.indexed_store.specs.Bounds.{are_bounded}
use Rattle.state_laws.specs.State.{State}
use Rattle.state_laws.specs.Resolution.{mentions}

-- whether the hard clauses of a variable meet the bound
abbrev pub meets_bound : State → ℕ → Bool
meets_bound s v = are_bounded v (filter (mentions v) s.hard)
