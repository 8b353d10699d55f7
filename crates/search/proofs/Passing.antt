-- Variables that were passed over, as a trail grows and is taken back.
use Rattle.std.proofs.Common.{◌≡◌, ◌<◌, ◌≤◌, ◌-◌, ℕ, Bool, true, false, not, cond, eqb, ◌&&◌, List, [], ◌∷◌, ◌++◌, length, map, get_or, Option, Some, refl, sym, ap, subst, ◌∙◌, ⊎_elim, arith, eq-eqb}
use Rattle.std.specs.Option.{is_some, option_map, unwrap_or}
use Rattle.std.proofs.lemmas.Bool.{and_parts, or_cases, or_left, or_right, eqb-true, not-true, false≢true}
use Rattle.std.proofs.lemmas.List.{append-nil, append_assoc, length-map, length-reverse}
use Rattle.std.proofs.Math.Seq.{get_or-append_seam}
use Rattle.sat_lits.specs.declared.literal.InLit.{InLit}
use Rattle.trail.specs.declared.trail.Step.{Step}
use Rattle.trail.specs.Trail.{shaped, shaped_step, set_in, step_in, level_in, lits_of, back_to}
use Rattle.trail.specs.Laws.{step_new, back_past, back_nowhere, lits_of-newest}
use Rattle.pick_order.specs.Preferences.{with_phase}
use Rattle.pick_order.specs.Orders.{Order, is_passed, HasPassedSet, HasSamePassed}
use Rattle.pick_order.specs.Tournaments.{entrant}
use Rattle.pick_order.specs.Laws.{phase_active}

-- what was passed over stays set where the trail grows
pub passed_more : (order : Order) (s : Step) (t : List Step) → HasPassedSet order t → HasPassedSet order (s ∷ t)
passed_more order s t h v e = or_right (eqb s.lit.var.0 v) (set_in t v) (h v e)

pub passed_longer : (order : Order) (newer t : List Step) → HasPassedSet order t → HasPassedSet order (newer ++ t)
passed_longer order [] t h = h
passed_longer order (s ∷ newer) t h = passed_more order s (newer ++ t) (passed_longer order newer t h)

-- and where the same variables were
pub passed_as : (a b : Order) (t : List Step) → HasSamePassed a b → HasPassedSet a t → HasPassedSet b t
passed_as a b t s h v e = h v (sym (s v) ∙ e)

-- or none was
pub passed_none : (order : Order) (t : List Step) → ((v : ℕ) → is_passed order v ≡ false) → HasPassedSet order t
passed_none order t h v e = absurd (false≢true (sym (h v) ∙ e))

-- a phase makes no difference
pub phase_passed : (v : ℕ) (phase : Bool) (order : Order) → HasSamePassed order (record order { known = with_phase v phase order.known })
phase_passed v phase order w = ap (λ (b : Bool). b && not (is_some (entrant order.candidates w))) (phase_active v phase order.known w)

-- the oldest steps of a trail, so many, after the newer ones were let go
pub record IsLeft (order : Order) (steps : List Step) (level place : ℕ) : Type 0 where
  pub left : List Step
  pub gone : List InLit
  pub lits : lits_of steps ≡ lits_of left ++ gone
  pub count : length left ≡ place
  pub sound : shaped left ≡ true
  pub back : back_to level steps ≡ back_to level left
  pub found : (v : ℕ) → set_in left v ≡ true → step_in steps v ≡ step_in left v
  pub passed : HasPassedSet order left

-- at first all are left
pub left_all : (order : Order) (steps : List Step) (level place : ℕ) → shaped steps ≡ true → length steps ≡ place → HasPassedSet order steps → IsLeft order steps level place
left_all order steps level place e c h = record { left = steps; gone = []; lits = sym (append-nil (lits_of steps)); count = c; sound = e; back = refl; found = λ v s. refl; passed = h }

module _ (order : Order) (steps : List Step) (level place : ℕ) (lits : List InLit) (d : InLit) (i : IsLeft order steps level place) (above : 0 < place) (w : lits ≡ lits_of steps) where
  -- the newest step that is left
  newest : (s : Step) × (older : List Step) × (i.left ≡ s ∷ older)
  newest = go i.left refl i.count
    where
      go : (t : List Step) → i.left ≡ t → length t ≡ place → (s : Step) × (older : List Step) × (i.left ≡ s ∷ older)
      go [] e c = absurd (omega arith)
      go (s ∷ older) e c = (s, older, e)

  module _ (s : Step) (older : List Step) (e : i.left ≡ s ∷ older) where
    -- its literal stands at the last place
    lit_at : get_or lits (place - 1) d ≡ s.lit
    lit_at =
        let n : length (lits_of older) ≡ place - 1 = omega (arith, length-reverse (map (λ (r : Step). r.lit) older), length-map older (λ (r : Step). r.lit), ap length e, i.count) in
        ap (λ (ls : List InLit). get_or ls (place - 1) d)
        (w ∙ (i.lits ∙ (ap (λ (t : List Step). lits_of t ++ i.gone) e ∙ (ap (λ (ls : List InLit). ls ++ i.gone) (lits_of-newest older s) ∙ append_assoc (lits_of older) (s.lit ∷ []) i.gone))))
        ∙ (ap (λ (k : ℕ). get_or (lits_of older ++ s.lit ∷ i.gone) k d) (sym n) ∙ get_or-append_seam (lits_of older) s.lit i.gone d)

    -- and has its level in the whole trail
    level_at : unwrap_or (level_in steps (get_or lits (place - 1) d).var.0) 0 ≡ s.level
    level_at =
        let q : eqb s.lit.var.0 s.lit.var.0 ≡ true = eq-eqb s.lit.var.0 s.lit.var.0 refl in
        let f : step_in steps s.lit.var.0 ≡ Some s =
        i.found s.lit.var.0 (ap (λ (t : List Step). set_in t s.lit.var.0) e ∙ or_left _ _ q)
        ∙ (ap (λ (t : List Step). step_in t s.lit.var.0) e ∙ ap (λ (b : Bool). cond b (Some s) (step_in older s.lit.var.0)) q) in
        ap (λ (l : InLit). unwrap_or (level_in steps l.var.0) 0) lit_at ∙ ap (λ (o : Option Step). unwrap_or (option_map (λ (r : Step). r.level) o) 0) f

    shape : (shaped_step older s ≡ true) × (shaped older ≡ true)
    shape = and_parts _ _ (subst (λ (t : List Step). shaped t ≡ true) e i.sound)

    -- it is let go where its variable is put back
    one_less : (order' : Order) → ((v : ℕ) → is_passed order' v ≡ (is_passed order v && not (eqb v (get_or lits (place - 1) d).var.0))) → level < s.level → IsLeft order' steps level (place - 1)
    one_less order' h l =
        record {
          left = older;
          gone = s.lit ∷ i.gone;
          lits = i.lits ∙ (ap (λ (t : List Step). lits_of t ++ i.gone) e ∙ (ap (λ (ls : List InLit). ls ++ i.gone) (lits_of-newest older s) ∙ append_assoc (lits_of older) (s.lit ∷ []) i.gone));
          count = omega (arith, ap length e, i.count);
          sound = shape.1;
          back = i.back ∙ (ap (back_to level) e ∙ back_past older s level l);
          found = λ v f. i.found v (ap (λ (t : List Step). set_in t v) e ∙ or_right _ _ f) ∙ (ap (λ (t : List Step). step_in t v) e ∙ other v f (eqb s.lit.var.0 v) refl);
          passed = λ v f.
              let p : (is_passed order v ≡ true) × (not (eqb v (get_or lits (place - 1) d).var.0) ≡ true) = and_parts _ _ (sym (h v) ∙ f) in
              ⊎_elim
              (λ (g : eqb s.lit.var.0 v ≡ true).
              absurd (false≢true (sym (not-true _ p.1) ∙ eq-eqb v (get_or lits (place - 1) d).var.0 (sym (eqb-true _ _ g) ∙ ap (λ (l : InLit). l.var.0) (sym lit_at)))))
              (λ (g : set_in older v ≡ true). g)
              (or_cases _ _ (sym (ap (λ (t : List Step). set_in t v) e) ∙ i.passed v p.0));
        }
      where
        other : (v : ℕ) → set_in older v ≡ true → (b : Bool) → eqb s.lit.var.0 v ≡ b → cond b (Some s) (step_in older v) ≡ step_in older v
        other v f true g = absurd (false≢true (sym (step_new older s shape.0) ∙ (ap (set_in older) (eqb-true _ _ g) ∙ f)))
        other v f false g = refl

    -- nothing more is let go from its level on
    all_back : s.level ≤ level → HasPassedSet order (back_to level steps)
    all_back l = subst (HasPassedSet order) (sym (i.back ∙ (ap (back_to level) e ∙ back_nowhere (s ∷ older) level (subst (λ (t : List Step). shaped t ≡ true) e i.sound) l))) (subst (HasPassedSet order) e i.passed)

  pub left_on : (order' : Order) → ((v : ℕ) → is_passed order' v ≡ (is_passed order v && not (eqb v (get_or lits (place - 1) d).var.0))) → level < unwrap_or (level_in steps (get_or lits (place - 1) d).var.0) 0 → IsLeft order' steps level (place - 1)
  left_on order' h l = let (s, older, e) = newest in one_less s older e order' h (subst (λ (n : ℕ). level < n) (level_at s older e) l)

  pub left_done : unwrap_or (level_in steps (get_or lits (place - 1) d).var.0) 0 ≤ level → HasPassedSet order (back_to level steps)
  left_done l = let (s, older, e) = newest in all_back s older e (subst (λ (n : ℕ). n ≤ level) (level_at s older e) l)
