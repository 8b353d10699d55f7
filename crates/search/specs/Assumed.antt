-- How a search stands with its assumptions. A list of steps stands newest first.
use Rattle.std.specs.Prelude.{◌≡◌, ℕ, ◌-◌, ◌<◌, ◌≤◌, nat_le, Bool, true, false, not, ◌&&◌, ◌||◌, List, length, slice_index, slice_index_or}
use Rattle.std.specs.List.{list_any, list_all}
use Rattle.sat_lits.specs.InLits.{same_lit}
use Rattle.sat_lits.specs.declared.literal.InLit.{InLit}
use Rattle.trail.specs.declared.trail.Step.{Step}
use Rattle.trail.specs.Trail.{level_of, decided}

-- the positive literal of a variable
abbrev pub positive : ℕ → InLit
positive v = record { var = record { 0 = v }; negative = false }

-- the assumption at a position
abbrev pub assumption_at : List InLit → ℕ → InLit
assumption_at assumptions position = slice_index_or assumptions position (positive 0)

-- whether a literal is true by a step of a level or one below it
abbrev pub true_by : List Step → ℕ → InLit → Bool
true_by steps level l = list_any (λ s. same_lit s.lit l && nat_le s.level level) steps

-- whether a step, where it is the decision of one of the levels that have a position, is the assumption at that position
abbrev pub is_assumed : List InLit → List ℕ → Step → Bool
is_assumed assumptions positions s =
    not (decided s.reason && (nat_le 1 s.level && nat_le s.level (length positions)))
    || same_lit s.lit (assumption_at assumptions (slice_index positions (s.level - 1)))

-- the first levels are decisions of the assumptions at these positions, and all assumptions before the next position are true by those levels
pub record HasAssumed (assumptions : List InLit) (positions : List ℕ) (next : ℕ) (steps : List Step) : Type 0 where
  pub within : next ≤ length assumptions
  pub levels : length positions ≤ level_of steps
  pub no_other : next < length assumptions → level_of steps ≤ length positions
  pub rising : (i j : ℕ) → i < j → j < length positions → slice_index positions i < slice_index positions j
  pub below : (i : ℕ) → i < length positions → slice_index positions i < next
  pub assumed : list_all (is_assumed assumptions positions) steps ≡ true
  pub earlier : (i : ℕ) → i < length positions → (p : ℕ) → p < slice_index positions i → true_by steps i (assumption_at assumptions p) ≡ true
  pub so_far : (p : ℕ) → p < next → true_by steps (length positions) (assumption_at assumptions p) ≡ true
