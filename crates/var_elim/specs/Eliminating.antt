-- Variables that are eliminated one after another, and those that are left.
use Rattle.std.specs.Prelude.{◌≡◌, ℕ, ◌+◌, ◌%◌, ◌==◌, Bool, true, false, ◌&&◌, ◌||◌, List, [], ◌∷◌, Some, None, length}
use Rattle.std.specs.declared.option.Option.{Option}
use Rattle.std.specs.List.{list_any}
use Rattle.sat_lits.specs.declared.literal.Own.{Own}
use Rattle.sat_lits.specs.declared.literal.Var.{Var}
use Rattle.var_maps.specs.Maps.{Maps, outer_at}
use Rattle.state_laws.specs.State.{State, is_active}
use Rattle.state_laws.specs.Moves.{eliminated}
use Rattle.state_laws.specs.Kernel.{Kernel, state_of}
use Rattle.private_state.specs.Bounds.{meets_bound}

-- whether a variable is active and meets the bound
abbrev pub can_go : State → ℕ → Bool
can_go s v = is_active s v && meets_bound s v

-- the variables are eliminated in order
abbrev pub eliminate_each : State → List Own → State
eliminate_each s [] = s
eliminate_each s (v ∷ vars) = eliminate_each (eliminated v s) vars

-- none of them is to be left, and each is active and meets the bound when it goes
abbrev pub AllCanGo : (ℕ → Bool) → State → List Own → Type 0
AllCanGo left s [] = Unit {0}
AllCanGo left s (v ∷ vars) = ((left v.0 ≡ false) × (can_go s v.0 ≡ true)) × AllCanGo left (eliminated v s) vars

-- this many variables were eliminated, each of which could go, and none that is to be left
pub record Eliminates (n : ℕ) (left : ℕ → Bool) (olds news : State) : Type 0 where
  pub vars : List Own
  pub count : length vars ≡ n
  pub state : news ≡ eliminate_each olds vars
  pub could : AllCanGo left olds vars

-- whether a solver keeps the caller's variable, if it is one
abbrev pub keeps : ℕ → Option Var → Bool
keeps solver None = false
keeps solver (Some v) = (v.0 + solver) % 4 == 3

-- whether a variable is frozen, or the solver keeps it
abbrev pub is_left : Maps → List Own → ℕ → ℕ → Bool
is_left m frozen solver v = list_any (λ f. f.0 == v) frozen || keeps solver (outer_at m v)

-- no variable can go but those that are to be left
abbrev pub NoneCanGo : Kernel → List Own → ℕ → Type 0
NoneCanGo k frozen solver = (v : ℕ) → is_left k.maps frozen solver v ≡ false → can_go (state_of k) v ≡ false
