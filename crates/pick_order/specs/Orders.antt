-- What contracts see of the order of decisions.
use Rattle.std.specs.Prelude.{◌≡◌, ℕ, ◌+◌, ◌/◌, ◌^◌, min, Bool, true, not, ◌&&◌, if◌then◌else◌, List, Option}
use Rattle.std.specs.Option.{is_some}
use Rattle.trail.specs.declared.trail.Step.{Step}
use Rattle.trail.specs.Trail.{set_in}
use Rattle.pick_order.specs.declared.preference.Preference.{Preference}
use Rattle.pick_order.specs.declared.preference.Candidate.{Candidate}
use Rattle.pick_order.specs.Tournaments.{entrant}
use Rattle.pick_order.specs.Preferences.{preference_in, fits_in, rescaled_increment}

-- what is known of each variable that is active, those of them that are candidates for the next decision, both by number, and what the next bump adds to an activity
pub record Order : Type 0 where
  pub known : List (Option Preference)
  pub candidates : List (Option Candidate)
  pub increment : ℕ

-- whether a variable was passed over: it is active and no candidate
abbrev pub is_passed : Order → ℕ → Bool
is_passed order v = is_some (preference_in order.known v) && not (is_some (entrant order.candidates v))

-- a trail sets every variable that was passed over
abbrev pub HasPassedSet : Order → List Step → Type 0
HasPassedSet order steps = (v : ℕ) → is_passed order v ≡ true → set_in steps v ≡ true

-- the same variables were passed over
abbrev pub HasSamePassed : Order → Order → Type 0
HasSamePassed old new = (v : ℕ) → is_passed new v ≡ is_passed old v

-- an increment, rescaled where the activity of a variable would pass 2 ^ 62 by it
abbrev pub fitting : List (Option Preference) → ℕ → ℕ → ℕ
fitting known v by = if fits_in known v by then by else rescaled_increment by

-- the increment after a conflict: a part in 64 more, up to 2 ^ 62
abbrev pub grown_increment : ℕ → ℕ
grown_increment by = min (by + by / 64) (2 ^ 62)
