-- Bumps and phases leave the variables of an order as they are.
use Rattle.std.proofs.Common.{◌≡◌, ℕ, Bool, true, List, Option, eqb, subst, ◌∙◌}
use Rattle.std.proofs.lemmas.Bool.{eqb-true}
use Rattle.pick_order.specs.declared.preference.Preference.{Preference}
use Rattle.pick_order.specs.Preferences.{bumped, with_phase}
use Rattle.pick_order.specs.Laws.{phase_active, bumped_active}
use Rattle.sat_lits.specs.ListLaws.{all_mono, all_or_any}
use Rattle.sat_lits.specs.declared.literal.Inner.{Inner}
use Rattle.trail.specs.declared.trail.Step.{Step}
use Rattle.trail.specs.Trail.{set_in}
use Rattle.analyze.specs.Met.{are_set}
use Rattle.search.specs.InUse.{is_among, steps_among}
use Rattle.search.specs.Ordering.{is_ordered, vars_ordered, steps_ordered, HasSame, HasJust}

pub phase_same : (v : ℕ) (phase : Bool) (known : List (Option Preference)) → HasSame known (with_phase v phase known)
phase_same v phase known w = phase_active v phase known w

pub bumped_same : (v by : ℕ) (known : List (Option Preference)) → HasSame known (bumped v by known)
bumped_same v by known w = bumped_active v by known w

-- an order that has the variables of a trail has those that it sets
pub set_in_order : (order : List (Option Preference)) (t : List Step) (vars : List Inner) → steps_ordered order t ≡ true → are_set t vars ≡ true → vars_ordered order vars ≡ true
set_in_order order t vars o e = all_mono (λ (v : Inner). set_in t v.0) (λ (v : Inner). is_ordered order v.0) (λ v x. one v.0 x) vars e
  where
    one : (v : ℕ) → set_in t v ≡ true → is_ordered order v ≡ true
    one v x =
        all_or_any (λ (s : Step). is_ordered order s.lit.var.0) (λ (s : Step). eqb s.lit.var.0 v) (is_ordered order v ≡ true) t o x
        (λ s y z. subst (λ (w : ℕ). is_ordered order w ≡ true) (eqb-true _ _ z) y)

-- an order that has just these numbers has the variables of a trail over them
pub steps_in_order : (order : List (Option Preference)) (numbers : List ℕ) (t : List Step) → HasJust order numbers → steps_among numbers t ≡ true → steps_ordered order t ≡ true
steps_in_order order numbers t j e = all_mono (λ (s : Step). is_among numbers s.lit.var.0) (λ (s : Step). is_ordered order s.lit.var.0) (λ s x. j s.lit.var.0 ∙ x) t e

-- an order with the same variables does too
pub same_just : (a b : List (Option Preference)) (numbers : List ℕ) → HasSame a b → HasJust a numbers → HasJust b numbers
same_just a b numbers h j v = h v ∙ j v
