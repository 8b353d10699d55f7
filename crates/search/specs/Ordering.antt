-- Which variables an order of decisions has.
use Rattle.std.specs.Prelude.{◌≡◌, ℕ, Bool, List, is_some}
use Rattle.std.specs.declared.option.Option.{Option}
use Rattle.std.specs.List.{list_all}
use Rattle.sat_lits.specs.declared.literal.Inner.{Inner}
use Rattle.trail.specs.declared.trail.Step.{Step}
use Rattle.pick_order.specs.declared.preference.Preference.{Preference}
use Rattle.pick_order.specs.Preferences.{preference_in}
use Rattle.search.specs.InUse.{is_among}

-- whether an order has a variable
abbrev pub is_ordered : List (Option Preference) → ℕ → Bool
is_ordered order v = is_some (preference_in order v)

-- whether it has each of some variables
abbrev pub vars_ordered : List (Option Preference) → List Inner → Bool
vars_ordered order vars = list_all (λ v. is_ordered order v.0) vars

-- whether it has those of a trail
abbrev pub steps_ordered : List (Option Preference) → List Step → Bool
steps_ordered order steps = list_all (λ s. is_ordered order s.lit.var.0) steps

-- an order has the variables of another and no more
abbrev pub HasSame : List (Option Preference) → List (Option Preference) → Type 0
HasSame old new = (v : ℕ) → is_ordered new v ≡ is_ordered old v

-- an order has just the variables of these numbers
abbrev pub HasJust : List (Option Preference) → List ℕ → Type 0
HasJust order numbers = (v : ℕ) → is_ordered order v ≡ is_among numbers v
