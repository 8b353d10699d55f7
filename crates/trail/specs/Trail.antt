-- What contracts see of a trail. A list of steps stands newest first.
use Rattle.std.specs.Prelude.{◌≡◌, ℕ, ◌+◌, ◌^◌, ◌<◌, ◌==◌, nat_lt, nat_le, Bool, true, false, not, ◌&&◌, ◌||◌, if◌then◌else◌, List, [], ◌∷◌, map, reverse, filter, find, Option, Some, None, option_map, option_and_then}
use Rattle.std.specs.List.{list_any, list_all}
use Rattle.sat_lits.specs.InLits.{same_lit, opposite}
use Rattle.sat_lits.specs.declared.literal.InLit.{InLit}
use Rattle.sat_lits.specs.declared.literal.ClauseId.{ClauseId}
use Rattle.trail.specs.declared.trail.Step.{Step}

-- the steps of a trail, newest first, and the number below which variables are reserved
pub record Assignment : Type 0 where
  pub steps : List Step
  pub reserved : ℕ

-- the assigned literals, oldest first
abbrev pub lits_of : List Step → List InLit
lits_of steps = reverse (map (λ s. s.lit) steps)

-- whether a literal is assigned
abbrev pub true_in : List Step → InLit → Bool
true_in steps l = list_any (λ s. same_lit s.lit l) steps

-- whether its negation is
abbrev pub false_in : List Step → InLit → Bool
false_in steps l = list_any (λ s. opposite s.lit l) steps

-- whether a variable is assigned
abbrev pub set_in : List Step → ℕ → Bool
set_in steps v = list_any (λ s. s.lit.var.0 == v) steps

-- whether the variable of a literal is not
abbrev pub unset_in : List Step → InLit → Bool
unset_in steps l = not (set_in steps l.var.0)

-- the value of a literal, if it is assigned or its negation is
abbrev pub value_in : List Step → InLit → Option Bool
value_in steps l = if true_in steps l then Some true else (if false_in steps l then Some false else None)

-- the step of a variable
abbrev pub step_in : List Step → ℕ → Option Step
step_in steps v = find (λ s. s.lit.var.0 == v) steps

-- the level of a variable
abbrev pub level_in : List Step → ℕ → Option ℕ
level_in steps v = option_map (λ s. s.level) (step_in steps v)

-- the reason of a variable, if it has one
abbrev pub reason_in : List Step → ℕ → Option ClauseId
reason_in steps v = option_and_then (λ s. s.reason) (step_in steps v)

-- the present level, which is that of the newest step
abbrev pub level_of : List Step → ℕ
level_of [] = 0
level_of (s ∷ older) = s.level

-- a decision has no reason
abbrev pub decided : Option ClauseId → Bool
decided None = true
decided (Some k) = false

-- whether a step may follow older ones: its variable is unset, and it stands at the present level, or it is a decision of the next
abbrev pub shaped_step : List Step → Step → Bool
shaped_step older s = not (set_in older s.lit.var.0) && ((s.level == level_of older) || ((s.level == level_of older + 1) && decided s.reason))

-- whether each step may follow the older ones
abbrev pub shaped : List Step → Bool
shaped [] = true
shaped (s ∷ older) = shaped_step older s && shaped older

-- the steps of a level and those below it
abbrev pub back_to : ℕ → List Step → List Step
back_to level steps = filter (λ s. nat_le s.level level) steps

-- what every trail keeps: its steps follow one another, their variables are reserved, and a variable has 32 bits
pub record IsKept (trail : Assignment) : Type 0 where
  pub sound : shaped trail.steps ≡ true
  pub known : list_all (λ s. nat_lt s.lit.var.0 trail.reserved) trail.steps ≡ true
  pub few : trail.reserved < 2 ^ 32
