-- What the fields of a trail mean, and what they keep.
use Rattle.std.specs.Prelude.{◌≡◌, ℕ, ◌≤◌, List, map, reverse, length, filter_map, slice_index_or, Option, None, vec_capacity}
use Rattle.sat_lits.specs.declared.literal.InLit.{InLit}
use Rattle.trail.specs.declared.trail.Step.{Step}
use Rattle.trail.specs.declared.trail.Trail.TheInside.{Inside}
use Rattle.trail.specs.Trail.{Assignment, IsKept, step_in}

-- what a table says of a variable
abbrev pub told : List (Option Step) → ℕ → Option Step
told table v = slice_index_or table v None

-- the steps that a table has for literals, in their order
abbrev pub steps_for : List (Option Step) → List InLit → List Step
steps_for table lits = filter_map (λ l. told table l.var.0) lits

abbrev pub assignment_of : Inside → Assignment
assignment_of trail = record { steps = steps_for trail.by_variable.items (reverse trail.lits.items); reserved = length trail.by_variable.items }

-- a table and a list of literals, newest first, say the same as a list of steps
pub record Says (table : List (Option Step)) (lits : List InLit) (steps : List Step) : Type 0 where
  pub same_lits : lits ≡ map (λ s. s.lit) steps
  pub same_steps : (v : ℕ) → told table v ≡ step_in steps v
  pub kept : IsKept (record { steps = steps; reserved = length table })

-- the literals and the table say one thing, and there is room for every reserved variable
pub record IsTied (trail : Inside) : Type 0 where
  pub says : Says trail.by_variable.items (reverse trail.lits.items) (steps_for trail.by_variable.items (reverse trail.lits.items))
  pub room : length trail.by_variable.items ≤ vec_capacity trail.lits
