-- Facts on the order of decisions that every crate above may cite.
use Rattle.std.proofs.Common.{◌≡◌, ℕ, zero, suc, ◌+◌, ◌^◌, Bool, true, false, cond, leb, List, [], ◌∷◌, map, get_or, set, Option, Some, None, option_map, refl, ◌∙◌}
use Rattle.std.specs.Option.{is_some}
use Rattle.pick_order.specs.declared.preference.Preference.{Preference}
use Rattle.pick_order.specs.Preferences.{preference_in, raised, bumped, with_phase, rescaled_preference, activity_in, rescaled_increment}

pub mapped_some : {X Y : Type 0} (f : X → Y) (o : Option X) → is_some (option_map f o) ≡ is_some o
mapped_some f None = refl
mapped_some f (Some x) = refl

-- where what is known of one variable changes, the same are active
changed : (f : Preference → Preference) (known : List (Option Preference)) (v w : ℕ) → is_some (preference_in (set known v (option_map f (get_or known v None))) w) ≡ is_some (preference_in known w)
changed f [] zero w = refl
changed f [] (suc v) w = refl
changed f (o ∷ rest) zero zero = mapped_some f o
changed f (o ∷ rest) zero (suc w) = refl
changed f (o ∷ rest) (suc v) zero = refl
changed f (o ∷ rest) (suc v) (suc w) = changed f rest v w

-- and where what is known of each does
all_changed : (f : Preference → Preference) (known : List (Option Preference)) (w : ℕ) → is_some (preference_in (map (option_map f) known) w) ≡ is_some (preference_in known w)
all_changed f [] w = refl
all_changed f (o ∷ rest) zero = mapped_some f o
all_changed f (o ∷ rest) (suc w) = all_changed f rest w

-- the same variables are active under a new phase
pub phase_active : (v : ℕ) (phase : Bool) (known : List (Option Preference)) (w : ℕ) → is_some (preference_in (with_phase v phase known) w) ≡ is_some (preference_in known w)
phase_active v phase known w = changed (λ (p : Preference). record p { phase = phase }) known v w

raised_active : (v by : ℕ) (known : List (Option Preference)) (w : ℕ) → is_some (preference_in (raised v by known) w) ≡ is_some (preference_in known w)
raised_active v by known w = changed (λ (p : Preference). record p { activity = p.activity + by }) known v w

-- and after a bump
pub bumped_active : (v by : ℕ) (known : List (Option Preference)) (w : ℕ) → is_some (preference_in (bumped v by known) w) ≡ is_some (preference_in known w)
bumped_active v by known w = go (leb (activity_in known v + by) (2 ^ 62))
  where
    go : (b : Bool) → is_some (preference_in (cond b (raised v by known) (raised v (rescaled_increment by) (map (option_map rescaled_preference) known))) w) ≡ is_some (preference_in known w)
    go true = raised_active v by known w
    go false = raised_active v (rescaled_increment by) (map (option_map rescaled_preference) known) w ∙ all_changed rescaled_preference known w
