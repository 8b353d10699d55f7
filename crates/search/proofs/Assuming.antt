-- How each move keeps what a search has of its assumptions.
use Rattle.std.proofs.Common.{◌≡◌, ◌<◌, ◌≤◌, ◌+◌, ◌-◌, ℕ, Bool, true, false, not, leb, ◌&&◌, ◌||◌, List, [], ◌∷◌, ◌++◌, length, take, get_or, refl, sym, ap, subst, ◌∙◌, ⊎_elim, arith, length-append}
use Rattle.std.proofs.lemmas.Bool.{and_parts, and_from, or_cases, or_left, or_right, leb-true, le-leb, not-true, not_from_false, false_from_ne_true, both_ways, cases_lt}
use Rattle.std.proofs.lemmas.List.{get_or-take, get_or_append_left, length-take-le, take_all, get_or_past}
use Rattle.std.proofs.Math.Seq.{get_or-append_seam}
use Rattle.std.proofs.lemmas.Grind.{get_or_default_zero}
use Rattle.sat_lits.specs.InLits.{same_lit}
use Rattle.sat_lits.specs.ListLaws.{any_mono, any_filter, all_filter, both_all, all_any_mono}
use Rattle.sat_lits.specs.declared.literal.InLit.{InLit}
use Rattle.trail.specs.declared.trail.Step.{Step}
use Rattle.trail.specs.Trail.{true_in, level_of, decided, shaped, back_to}
use Rattle.trail.specs.Laws.{levels_low, same_lit_self}
use Rattle.search.specs.Assumed.{assumption_at, true_by, is_assumed, HasAssumed}

-- a literal that is true by a level is true by a higher one
true_by_higher : (t : List Step) (a b : ℕ) (l : InLit) → a ≤ b → true_by t a l ≡ true → true_by t b l ≡ true
true_by_higher t a b l h e =
    any_mono (λ (s : Step). same_lit s.lit l && leb s.level a) (λ (s : Step). same_lit s.lit l && leb s.level b)
    (λ s x. let p : (same_lit s.lit l ≡ true) × (leb s.level a ≡ true) = and_parts _ _ x in let y : s.level ≤ a = leb-true _ _ p.1 in and_from _ _ p.0 (le-leb s.level b (omega arith))) t e

-- and stays true by it with a step more
true_by_more : (t : List Step) (s : Step) (a : ℕ) (l : InLit) → true_by t a l ≡ true → true_by (s ∷ t) a l ≡ true
true_by_more t s a l e = or_right _ _ e

-- and on the way back to that level or a higher one
true_by_back : (t : List Step) (a b : ℕ) (l : InLit) → a ≤ b → true_by t a l ≡ true → true_by (back_to b t) a l ≡ true
true_by_back t a b l h e =
    any_filter (λ (s : Step). same_lit s.lit l && leb s.level a) (λ (s : Step). leb s.level b) t
    (any_mono (λ (s : Step). same_lit s.lit l && leb s.level a) (λ (s : Step). (same_lit s.lit l && leb s.level a) && leb s.level b)
    (λ s x. let p : (same_lit s.lit l ≡ true) × (leb s.level a ≡ true) = and_parts _ _ x in let y : s.level ≤ a = leb-true _ _ p.1 in and_from _ _ x (le-leb s.level b (omega arith))) t e)

-- a true literal is true by the present level
true_by_present : (t : List Step) (a : ℕ) (l : InLit) → shaped t ≡ true → level_of t ≤ a → true_in t l ≡ true → true_by t a l ≡ true
true_by_present t a l e h x =
    all_any_mono (λ (s : Step). leb s.level a) (λ (s : Step). same_lit s.lit l) (λ (s : Step). same_lit s.lit l && leb s.level a) (λ s p q. and_from _ _ q p) t (levels_low t a e h) x

-- a step with a reason is no decision
reasoned_assumed : (assumptions : List InLit) (positions : List ℕ) (s : Step) → decided s.reason ≡ false → is_assumed assumptions positions s ≡ true
reasoned_assumed assumptions positions s e = or_left _ _ (ap (λ (b : Bool). not (b && (leb 1 s.level && leb s.level (length positions)))) e)

-- a decision above the levels that have a position is free
higher_assumed : (assumptions : List InLit) (positions : List ℕ) (s : Step) → length positions < s.level → is_assumed assumptions positions s ≡ true
higher_assumed assumptions positions s h =
    or_left _ _ (not_from_false _ (false_from_ne_true _ (λ (x : (decided s.reason && (leb 1 s.level && leb s.level (length positions))) ≡ true).
    let p : (decided s.reason ≡ true) × ((leb 1 s.level && leb s.level (length positions)) ≡ true) = and_parts _ _ x in
    let q : (leb 1 s.level ≡ true) × (leb s.level (length positions) ≡ true) = and_parts _ _ p.1 in
    let r : s.level ≤ length positions = leb-true _ _ q.1 in absurd (omega arith))))

-- a step is assumed by positions that say the same of its level
agreed_assumed : (assumptions : List InLit) (ps qs : List ℕ) (s : Step) → (1 ≤ s.level → s.level ≤ length qs → (s.level ≤ length ps) × (get_or ps (s.level - 1) 0 ≡ get_or qs (s.level - 1) 0)) → is_assumed assumptions ps s ≡ true → is_assumed assumptions qs s ≡ true
agreed_assumed assumptions ps qs s h e = go (decided s.reason && (leb 1 s.level && leb s.level (length qs))) refl
  where
    go : (b : Bool) → (decided s.reason && (leb 1 s.level && leb s.level (length qs))) ≡ b → (not b || same_lit s.lit (assumption_at assumptions (get_or qs (s.level - 1) 0))) ≡ true
    go false f = refl
    go true f =
        let p : (decided s.reason ≡ true) × ((leb 1 s.level && leb s.level (length qs)) ≡ true) = and_parts _ _ f in
        let q : (leb 1 s.level ≡ true) × (leb s.level (length qs) ≡ true) = and_parts _ _ p.1 in
        let a : (s.level ≤ length ps) × (get_or ps (s.level - 1) 0 ≡ get_or qs (s.level - 1) 0) = h (leb-true _ _ q.0) (leb-true _ _ q.1) in
        ⊎_elim
        (λ (x : not (decided s.reason && (leb 1 s.level && leb s.level (length ps))) ≡ true). absurd (both_ways _ (not-true _ x) (and_from _ _ p.0 (and_from _ _ q.0 (le-leb s.level (length ps) a.0)))))
        (λ (x : same_lit s.lit (assumption_at assumptions (get_or ps (s.level - 1) 0)) ≡ true). subst (λ (n : ℕ). same_lit s.lit (assumption_at assumptions n) ≡ true) a.1 x)
        (or_cases _ _ e)

-- before the first move
pub assumed_start : (assumptions : List InLit) → HasAssumed assumptions [] 0 []
assumed_start assumptions = record {
  within = omega arith;
  levels = omega arith;
  no_other = λ h. omega arith;
  rising = λ i j h k. absurd (omega arith);
  below = λ i h. absurd (omega arith);
  assumed = refl;
  earlier = λ i h p k. absurd (omega arith);
  so_far = λ p h. absurd (omega arith);
}

-- an assumption that is true is passed
pub assumed_skip : (assumptions : List InLit) (positions : List ℕ) (next : ℕ) (t : List Step) → shaped t ≡ true → next < length assumptions → true_in t (assumption_at assumptions next) ≡ true → HasAssumed assumptions positions next t → HasAssumed assumptions positions (next + 1) t
assumed_skip assumptions positions next t e h x a = record {
  within = omega arith;
  levels = a.levels;
  no_other = λ k. a.no_other h;
  rising = a.rising;
  below = λ i k. let b : get_or positions i 0 < next = a.below i k in omega arith;
  assumed = a.assumed;
  earlier = a.earlier;
  so_far = λ p k. ⊎_elim (λ (l : p < next). a.so_far p l)
      (λ (l : next ≤ p). let q : p ≡ next = omega arith in subst (λ (n : ℕ). true_by t (length positions) (assumption_at assumptions n) ≡ true) (sym q) (true_by_present t (length positions) (assumption_at assumptions next) e (a.no_other h) x)) (cases_lt p next);
}

-- a step of the present level with a reason changes nothing
pub assumed_assign : (assumptions : List InLit) (positions : List ℕ) (next : ℕ) (t : List Step) (s : Step) → s.level ≡ level_of t → decided s.reason ≡ false → HasAssumed assumptions positions next t → HasAssumed assumptions positions next (s ∷ t)
assumed_assign assumptions positions next t s l d a = record {
  within = a.within;
  levels = let b : length positions ≤ level_of t = a.levels in omega arith;
  no_other = λ h. let b : level_of t ≤ length positions = a.no_other h in omega arith;
  rising = a.rising;
  below = a.below;
  assumed = and_from _ _ (reasoned_assumed assumptions positions s d) a.assumed;
  earlier = λ i h p k. true_by_more t s i (assumption_at assumptions p) (a.earlier i h p k);
  so_far = λ p h. true_by_more t s (length positions) (assumption_at assumptions p) (a.so_far p h);
}

-- nor does a decision after all assumptions
pub assumed_pick : (assumptions : List InLit) (positions : List ℕ) (next : ℕ) (t : List Step) (s : Step) → s.level ≡ level_of t + 1 → length assumptions ≤ next → HasAssumed assumptions positions next t → HasAssumed assumptions positions next (s ∷ t)
assumed_pick assumptions positions next t s l h a = record {
  within = a.within;
  levels = let b : length positions ≤ level_of t = a.levels in omega arith;
  no_other = λ k. omega arith;
  rising = a.rising;
  below = a.below;
  assumed = and_from _ _ (higher_assumed assumptions positions s (let b : length positions ≤ level_of t = a.levels in omega arith)) a.assumed;
  earlier = λ i k p j. true_by_more t s i (assumption_at assumptions p) (a.earlier i k p j);
  so_far = λ p k. true_by_more t s (length positions) (assumption_at assumptions p) (a.so_far p k);
}

-- the next assumption is decided
pub assumed_decide : (assumptions : List InLit) (positions : List ℕ) (next : ℕ) (t : List Step) (s : Step) → shaped t ≡ true → s.level ≡ level_of t + 1 → s.lit ≡ assumption_at assumptions next → next < length assumptions → HasAssumed assumptions positions next t → HasAssumed assumptions (positions ++ next ∷ []) (next + 1) (s ∷ t)
assumed_decide assumptions positions next t s e l m h a = record {
  within = omega (arith, up, down, more);
  levels = omega (arith, up, down, more);
  no_other = λ k. omega (arith, up, down, more);
  rising = λ i j k n. ⊎_elim
      (λ (x : j < length positions). let r : get_or positions i 0 < get_or positions j 0 = a.rising i j k x in
      subst (λ (z : ℕ). z < get_or (positions ++ next ∷ []) j 0) (sym (old i (omega (arith, up, down, more)))) (subst (λ (z : ℕ). get_or positions i 0 < z) (sym (old j x)) r))
      (λ (x : length positions ≤ j). let y : j ≡ length positions = omega (arith, up, down, more) in
      let r : get_or positions i 0 < next = a.below i (omega (arith, up, down, more)) in
      subst (λ (z : ℕ). z < get_or (positions ++ next ∷ []) j 0) (sym (old i (omega (arith, up, down, more)))) (subst (λ (z : ℕ). get_or positions i 0 < z) (sym (ap (λ (n : ℕ). get_or (positions ++ next ∷ []) n 0) y ∙ new)) r))
      (cases_lt j (length positions));
  below = λ i k. ⊎_elim
      (λ (x : i < length positions). let r : get_or positions i 0 < next = a.below i x in subst (λ (z : ℕ). z < next + 1) (sym (old i x)) (omega (arith, up, down, more)))
      (λ (x : length positions ≤ i). let y : i ≡ length positions = omega (arith, up, down, more) in subst (λ (z : ℕ). z < next + 1) (sym (ap (λ (n : ℕ). get_or (positions ++ next ∷ []) n 0) y ∙ new)) (omega (arith, up, down, more)))
      (cases_lt i (length positions));
  assumed = and_from _ _ here
      (both_all (λ (r : Step). leb r.level (level_of t)) (is_assumed assumptions positions) (is_assumed assumptions (positions ++ next ∷ []))
      (λ r x y. let z : r.level ≤ level_of t = leb-true _ _ x in agreed_assumed assumptions positions (positions ++ next ∷ []) r (λ j k. (omega (arith, up, down, more), sym (old (r.level - 1) (omega (arith, up, down, more))))) y)
      t (levels_low t (level_of t) e (omega (arith, up, down, more))) a.assumed);
  earlier = λ i k p j. ⊎_elim
      (λ (x : i < length positions). true_by_more t s i (assumption_at assumptions p) (a.earlier i x p (subst (λ (z : ℕ). p < z) (old i x) j)))
      (λ (x : length positions ≤ i). let y : i ≡ length positions = omega (arith, up, down, more) in
      true_by_more t s i (assumption_at assumptions p)
      (subst (λ (z : ℕ). true_by t z (assumption_at assumptions p) ≡ true) (sym y) (a.so_far p (subst (λ (z : ℕ). p < z) (ap (λ (n : ℕ). get_or (positions ++ next ∷ []) n 0) y ∙ new) j))))
      (cases_lt i (length positions));
  so_far = λ p k. ⊎_elim
      (λ (x : p < next). true_by_more t s (length (positions ++ next ∷ [])) (assumption_at assumptions p) (true_by_higher t (length positions) (length (positions ++ next ∷ [])) (assumption_at assumptions p) (omega (arith, up, down, more)) (a.so_far p x)))
      (λ (x : next ≤ p). let y : p ≡ next = omega (arith, up, down, more) in
      or_left _ _ (and_from _ _ (subst (λ (z : InLit). same_lit s.lit z ≡ true) (m ∙ ap (assumption_at assumptions) (sym y)) (same_lit_self s.lit)) (le-leb s.level (length (positions ++ next ∷ [])) (omega (arith, up, down, more)))))
      (cases_lt p next);
}
  where
    up : level_of t ≤ length positions
    up = a.no_other h

    down : length positions ≤ level_of t
    down = a.levels

    more : length (positions ++ next ∷ []) ≡ length positions + 1
    more = length-append positions (next ∷ [])

    old : (i : ℕ) → i < length positions → get_or (positions ++ next ∷ []) i 0 ≡ get_or positions i 0
    old i k = get_or_append_left positions (next ∷ []) 0 i k

    new : get_or (positions ++ next ∷ []) (length positions) 0 ≡ next
    new = get_or-append_seam positions next [] 0

    here : is_assumed assumptions (positions ++ next ∷ []) s ≡ true
    here = let y : s.level - 1 ≡ length positions = omega (arith, up, down, l) in
        or_right _ _ (subst (λ (z : InLit). same_lit s.lit z ≡ true) (m ∙ ap (assumption_at assumptions) (sym (ap (λ (n : ℕ). get_or (positions ++ next ∷ []) n 0) y ∙ new))) (same_lit_self s.lit))

-- the way back to a level that has no position, and a step there
pub assumed_back : (assumptions : List InLit) (positions : List ℕ) (next back : ℕ) (t : List Step) (s : Step) → back < level_of t → s.level ≡ back → decided s.reason ≡ false → length positions ≤ back → HasAssumed assumptions positions next t
    → HasAssumed assumptions positions next (s ∷ back_to back t)
assumed_back assumptions positions next back t s b l d h a = record {
  within = a.within;
  levels = omega arith;
  no_other = λ k. absurd (let u : level_of t ≤ length positions = a.no_other k in omega arith);
  rising = a.rising;
  below = a.below;
  assumed = and_from _ _ (reasoned_assumed assumptions positions s d) (all_filter (is_assumed assumptions positions) (λ (r : Step). leb r.level back) (is_assumed assumptions positions) (λ r x y. x) t a.assumed);
  earlier = λ i k p j. true_by_more (back_to back t) s i (assumption_at assumptions p) (true_by_back t i back (assumption_at assumptions p) (omega arith) (a.earlier i k p j));
  so_far = λ p k. true_by_more (back_to back t) s (length positions) (assumption_at assumptions p) (true_by_back t (length positions) back (assumption_at assumptions p) h (a.so_far p k));
}

-- the way back to a level below one that has a position, and a step there: that assumption is the next one
pub assumed_undo : (assumptions : List InLit) (positions : List ℕ) (next back : ℕ) (t : List Step) (s : Step) → s.level ≡ back → decided s.reason ≡ false → back < length positions → HasAssumed assumptions positions next t
    → HasAssumed assumptions (take back positions) (get_or positions back 0) (s ∷ back_to back t)
assumed_undo assumptions positions next back t s l d h a = record {
  within = let r : get_or positions back 0 < next = a.below back h in let w : next ≤ length assumptions = a.within in omega (arith, few);
  levels = omega (arith, few);
  no_other = λ k. omega (arith, few);
  rising = λ i j k n. let r : get_or positions i 0 < get_or positions j 0 = a.rising i j k (omega (arith, few)) in
      subst (λ (z : ℕ). z < get_or (take back positions) j 0) (sym (old i (omega (arith, few)))) (subst (λ (z : ℕ). get_or positions i 0 < z) (sym (old j (omega (arith, few)))) r);
  below = λ i k. subst (λ (z : ℕ). z < get_or positions back 0) (sym (old i (omega (arith, few)))) (a.rising i back (omega (arith, few)) h);
  assumed = and_from _ _ (reasoned_assumed assumptions (take back positions) s d)
      (all_filter (is_assumed assumptions positions) (λ (r : Step). leb r.level back) (is_assumed assumptions (take back positions))
      (λ r x y. let z : r.level ≤ back = leb-true _ _ y in agreed_assumed assumptions positions (take back positions) r (λ j k. (omega (arith, few), sym (old (r.level - 1) (omega (arith, few))))) x) t a.assumed);
  earlier = λ i k p j. true_by_more (back_to back t) s i (assumption_at assumptions p)
      (true_by_back t i back (assumption_at assumptions p) (omega (arith, few)) (a.earlier i (omega (arith, few)) p (subst (λ (z : ℕ). p < z) (old i (omega (arith, few))) j)));
  so_far = λ p k. subst (λ (z : ℕ). true_by (s ∷ back_to back t) z (assumption_at assumptions p) ≡ true) (sym few)
      (true_by_more (back_to back t) s back (assumption_at assumptions p) (true_by_back t back back (assumption_at assumptions p) (omega (arith, few)) (a.earlier back h p k)));
}
  where
    few : length (take back positions) ≡ back
    few = length-take-le back positions (omega arith)

    old : (i : ℕ) → i < back → get_or (take back positions) i 0 ≡ get_or positions i 0
    old i k = get_or-take back positions i 0 k

-- the way back to any level below the present one, and a step there
pub assumed_jump : (assumptions : List InLit) (positions : List ℕ) (next back : ℕ) (t : List Step) (s : Step) → back < level_of t → s.level ≡ back → decided s.reason ≡ false → HasAssumed assumptions positions next t
    → HasAssumed assumptions (take back positions) (get_or positions back next) (s ∷ back_to back t)
assumed_jump assumptions positions next back t s b l d a =
    ⊎_elim
    (λ (h : back < length positions). subst (λ (n : ℕ). HasAssumed assumptions (take back positions) n (s ∷ back_to back t)) (sym (get_or_default_zero positions back next h)) (assumed_undo assumptions positions next back t s l d h a))
    (λ (h : length positions ≤ back).
    subst (λ (n : ℕ). HasAssumed assumptions (take back positions) n (s ∷ back_to back t)) (sym (get_or_past positions back next h))
    (subst (λ (ps : List ℕ). HasAssumed assumptions ps next (s ∷ back_to back t)) (sym (take_all back positions h)) (assumed_back assumptions positions next back t s b l d h a)))
    (cases_lt back (length positions))
