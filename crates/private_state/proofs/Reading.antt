-- Values that are read in order.
use Rattle.std.proofs.Common.{◌≡◌, ℕ, ◌+◌, ◌<◌, Bool, List, [], ◌∷◌, ◌++◌, Some, sym, ap, ap₂, ◌∙◌, length, take, map, get_or}
use Rattle.std.proofs.lemmas.List.{map-append}
use Rattle.std.specs.List.{slice_get}
use Rattle.sat_lits.specs.declared.literal.Own.{Own}
use Rattle.removed_vars.specs.CollectLaws.{taken_at, got}

-- one more outer variable is read
pub outer_value_step : (values : ℕ → Bool) (vs : List Own) (k : ℕ) (v : Own) (olds news : List Bool) → k < length vs → slice_get vs k ≡ Some v → news ≡ olds ++ values v.0 ∷ [] → olds ≡ map (λ w. values w.0) (take k vs) → news ≡ map (λ w. values w.0) (take (k + 1) vs)
outer_value_step values vs k v olds news l s n o =
    n ∙ (ap₂ {C = List Bool} (λ (x : List Bool) (y : Own). x ++ values y.0 ∷ []) o (sym (got vs k v v s))
    ∙ (sym (map-append (λ (w : Own). values w.0) (take k vs) (get_or vs k v ∷ [])) ∙ ap (map (λ (w : Own). values w.0)) (sym (taken_at vs k v l))))
