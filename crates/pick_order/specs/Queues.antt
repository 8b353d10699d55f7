-- The candidates for the next decision.
use Rattle.std.specs.Prelude.{◌≡◌, ◌⊎◌, ℕ, true, List, Option, Some, None, length}
use Rattle.trail.specs.declared.trail.Step.{Step}
use Rattle.trail.specs.Trail.{set_in}
use Rattle.pick_order.specs.declared.preference.Preference.{Preference}
use Rattle.pick_order.specs.declared.preference.Candidate.{Candidate}
use Rattle.pick_order.specs.Preferences.{candidate_in}
use Rattle.pick_order.specs.Tournaments.{entrant}

-- a variable has a place, and there it is a candidate with what is known of it now, or none
pub record IsQueued (known : List (Option Preference)) (entrants : List (Option Candidate)) : Type 0 where
  pub sized : length entrants ≡ length known
  pub each : (v : ℕ) → (entrant entrants v ≡ None) ⊎ (entrant entrants v ≡ candidate_in known v)

-- candidates stay candidates, with what is known of them now, and no others join them
pub record IsCarried (known : List (Option Preference)) (entrants : List (Option Candidate)) (known' : List (Option Preference)) (entrants' : List (Option Candidate)) : Type 0 where
  pub sized : length known' ≡ length known
  pub places : length entrants' ≡ length entrants
  pub same : (v : ℕ) → entrant entrants v ≡ candidate_in known v → entrant entrants' v ≡ candidate_in known' v
  pub none : (v : ℕ) → entrant entrants v ≡ None → entrant entrants' v ≡ None

-- each candidate stands at the number of its variable
abbrev pub IsPlaced : List (Option Candidate) → Type 0
IsPlaced entrants = (v : ℕ) (a : Candidate) → entrant entrants v ≡ Some a → a.var.0 ≡ v

-- no candidates but such as a trail sets are gone, and no others came
pub record HasLostSet (steps : List Step) (old new : List (Option Candidate)) : Type 0 where
  pub places : length new ≡ length old
  pub each : (v : ℕ) → (entrant new v ≡ entrant old v) ⊎ ((entrant new v ≡ None) × (set_in steps v ≡ true))
