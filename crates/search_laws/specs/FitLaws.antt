-- A trail over some variables is no longer than their list.
use Rattle.std.proofs.Common.{◌≡◌, ◌<◌, ◌≤◌, ℕ, suc, Bool, true, false, cond, not, eqb, ◌&&◌, ◌||◌, List, [], ◌∷◌, length, filter, refl, sym, ◌∙◌, ⊎_elim, arith}
use Rattle.std.proofs.lemmas.Bool.{and_parts, and_from, or_cases, or_left, or_right, eqb-true, eq-eqb, true≢false, false≢true, not-true, not_from_false, both_ways, false_from_ne_true}
use Rattle.std.specs.List.{list_any, list_all}
use Rattle.sat_lits.specs.ListLaws.{both_all, any_filter}
use Rattle.trail.specs.declared.trail.Step.{Step}
use Rattle.trail.specs.Trail.{set_in, shaped, shaped_step}
use Rattle.trail.specs.Laws.{step_new}
use Rattle.search_laws.specs.TrailNumber.{names_only, FitsActive}

abbrev holds : List ℕ → ℕ → Bool
holds active v = list_any (λ n. eqb n v) active

abbrev without : ℕ → List ℕ → List ℕ
without v active = filter (λ n. not (eqb n v)) active

shorter_or : (v : ℕ) (active : List ℕ) → length (without v active) ≤ length active
shorter_or v [] = omega arith
shorter_or v (n ∷ active) = go (not (eqb n v)) (shorter_or v active)
  where
    go : (b : Bool) → length (without v active) ≤ length active → length (cond b (n ∷ without v active) (without v active)) ≤ suc (length active)
    go true h = omega arith
    go false h = omega arith

shorter : (v : ℕ) (active : List ℕ) → holds active v ≡ true → length (without v active) < length active
shorter v [] e = absurd (false≢true e)
shorter v (n ∷ active) e = go (eqb n v) e (shorter_or v active) (λ (f : holds active v ≡ true). shorter v active f)
  where
    go : (b : Bool) → (b || holds active v) ≡ true → length (without v active) ≤ length active → (holds active v ≡ true → length (without v active) < length active) → length (cond (not b) (n ∷ without v active) (without v active)) < suc (length active)
    go true e h r = omega arith
    go false e h r = let i : length (without v active) < length active = r e in omega arith

kept : (u v : ℕ) (active : List ℕ) → eqb u v ≡ false → holds active u ≡ true → holds (without v active) u ≡ true
kept u v active n e = any_filter (λ k. eqb k u) (λ k. not (eqb k v)) active (more active e)
  where
    other : (k : ℕ) → eqb k u ≡ true → not (eqb k v) ≡ true
    other k f = not_from_false _ (false_from_ne_true _ (λ (g : eqb k v ≡ true). both_ways _ n (eq-eqb u v (sym (eqb-true k u f) ∙ eqb-true k v g))))

    more : (xs : List ℕ) → holds xs u ≡ true → list_any (λ k. eqb k u && not (eqb k v)) xs ≡ true
    more [] e = e
    more (k ∷ xs) e = ⊎_elim (λ (f : eqb k u ≡ true). or_left _ _ (and_from _ _ f (other k f))) (λ (f : holds xs u ≡ true). or_right _ _ (more xs f)) (or_cases _ _ e)

pub trail_fits : FitsActive
trail_fits active [] e a = omega arith
trail_fits active (s ∷ older) e a =
    let p : (shaped_step older s ≡ true) × (shaped older ≡ true) = and_parts _ _ e in
    let q : (holds active s.lit.var.0 ≡ true) × (names_only active older ≡ true) = and_parts _ _ a in
    let b : names_only (without s.lit.var.0 active) older ≡ true =
    both_all (λ (r : Step). not (eqb r.lit.var.0 s.lit.var.0)) (λ (r : Step). holds active r.lit.var.0) (λ (r : Step). holds (without s.lit.var.0 active) r.lit.var.0)
    (λ r x y. kept r.lit.var.0 s.lit.var.0 active (not-true _ x) y) older (others older (step_new older s p.0)) q.1 in
    let i : length older ≤ length (without s.lit.var.0 active) = trail_fits (without s.lit.var.0 active) older p.1 b in
    let j : length (without s.lit.var.0 active) < length active = shorter s.lit.var.0 active q.0 in
    omega arith
  where
    others : (xs : List Step) → set_in xs s.lit.var.0 ≡ false → list_all (λ r. not (eqb r.lit.var.0 s.lit.var.0)) xs ≡ true
    others [] g = refl
    others (x ∷ xs) g = here (eqb x.lit.var.0 s.lit.var.0) g (λ (f : set_in xs s.lit.var.0 ≡ false). others xs f)
      where
        here : (b : Bool) → (b || set_in xs s.lit.var.0) ≡ false → (set_in xs s.lit.var.0 ≡ false → list_all (λ r. not (eqb r.lit.var.0 s.lit.var.0)) xs ≡ true) → (not b && list_all (λ r. not (eqb r.lit.var.0 s.lit.var.0)) xs) ≡ true
        here true g r = absurd (true≢false g)
        here false g r = r g
