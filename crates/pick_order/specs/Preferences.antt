-- What is known of each variable that is active, by its number.
use Rattle.std.specs.Prelude.{◌≡◌, ◌==◌, ℕ, ◌+◌, ◌/◌, ◌^◌, ◌≤◌, nat_le, max, Bool, true, false, not, if◌then◌else◌, List, map, slice_set, slice_index_or, Option, Some, None, option_map, unwrap_or}
use Rattle.std.specs.List.{list_any}
use Rattle.sat_lits.specs.declared.literal.Inner.{Inner}
use Rattle.sat_lits.specs.declared.literal.InLit.{InLit}
use Rattle.trail.specs.declared.trail.Step.{Step}
use Rattle.trail.specs.Trail.{set_in}
use Rattle.pick_order.specs.declared.preference.Preference.{Preference}
use Rattle.pick_order.specs.declared.preference.Candidate.{Candidate}
use Rattle.pick_order.specs.Candidates.{comes_first}

-- what is known of a variable, if it is active
abbrev pub preference_in : List (Option Preference) → ℕ → Option Preference
preference_in order v = slice_index_or order v None

-- a variable with its activity
abbrev pub candidate_of : ℕ → Preference → Candidate
candidate_of v p = record { activity = p.activity; var = record { 0 = v } }

-- an active variable as a candidate
abbrev pub candidate_in : List (Option Preference) → ℕ → Option Candidate
candidate_in order v = option_map (candidate_of v) (preference_in order v)

-- what is known of a variable that was active or is new, if it is to be active
abbrev pub prepared : List Inner → Bool → List (Option Preference) → ℕ → Option Preference
prepared active phase order v =
    if list_any (λ a. a.0 == v) active then Some (unwrap_or (preference_in order v) (record { activity = 0; phase = phase })) else None

-- an active variable that a trail leaves unset, with its phase, and before all such
pub record IsPick (order : List (Option Preference)) (steps : List Step) (l : InLit) (p : Preference) : Type 0 where
  pub active : preference_in order l.var.0 ≡ Some p
  pub phase : l.negative ≡ not p.phase
  pub unset : set_in steps l.var.0 ≡ false
  pub first : (v : ℕ) (q : Preference) → preference_in order v ≡ Some q → set_in steps v ≡ false → comes_first (candidate_of l.var.0 p) (candidate_of v q) ≡ true

-- every active variable is set
abbrev pub AllSet : List (Option Preference) → List Step → Type 0
AllSet order steps = (v : ℕ) (p : Preference) → preference_in order v ≡ Some p → set_in steps v ≡ true

-- a variable has a new phase
abbrev pub with_phase : ℕ → Bool → List (Option Preference) → List (Option Preference)
with_phase v phase order = slice_set order v (option_map (λ (p : Preference). record p { phase = phase }) (preference_in order v))

-- the activity of a variable, or 0 where it is not active
abbrev pub activity_in : List (Option Preference) → ℕ → ℕ
activity_in order v = unwrap_or (option_map (λ p. p.activity) (preference_in order v)) 0

-- no activity is above 2 ^ 62
abbrev pub IsLimited : List (Option Preference) → Type 0
IsLimited order = (v : ℕ) (p : Preference) → preference_in order v ≡ Some p → p.activity ≤ 2 ^ 62

-- an activity that is halved 32 times, each time rounded down
abbrev pub rescaled : ℕ → ℕ
rescaled activity = activity / 2 ^ 32

-- a preference with its activity rescaled
abbrev pub rescaled_preference : Preference → Preference
rescaled_preference p = record p { activity = rescaled p.activity }

-- the same of a candidate
abbrev pub rescaled_candidate : Candidate → Candidate
rescaled_candidate a = record a { activity = rescaled a.activity }

-- an increment that is rescaled, and no less than 1024
abbrev pub rescaled_increment : ℕ → ℕ
rescaled_increment by = max 1024 (rescaled by)

-- the activity of a variable is greater by a number
abbrev pub raised : ℕ → ℕ → List (Option Preference) → List (Option Preference)
raised v by order = slice_set order v (option_map (λ (p : Preference). record p { activity = p.activity + by }) (preference_in order v))

-- whether the activity of a variable may be raised by a number
abbrev pub fits_in : List (Option Preference) → ℕ → ℕ → Bool
fits_in order v by = nat_le (activity_in order v + by) (2 ^ 62)

-- a variable is raised; where it would pass 2 ^ 62, all activities are rescaled first, and the increment with them
abbrev pub bumped : ℕ → ℕ → List (Option Preference) → List (Option Preference)
bumped v by order = if fits_in order v by then raised v by order else raised v (rescaled_increment by) (map (option_map rescaled_preference) order)
