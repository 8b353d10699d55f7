-- Facts on trails that every crate above may cite.
use Rattle.std.proofs.Common.{◌≡◌, ◌<◌, ◌≤◌, ◌+◌, ◌^◌, ℕ, suc, min, Bool, true, false, cond, not, eqb, leb, ltb, ◌&&◌, ◌||◌, ◌⊎◌, List, [], ◌∷◌, ◌++◌, length, take, drop, map, filter, Option, Some, None, refl, sym, ap, ap₂, subst, ◌∙◌, ⊎_elim, inl, inr, arith, ltb-true, eq-eqb, ne_eqb, lt-ltb}
use Rattle.std.proofs.lemmas.Bool.{and_parts, and_from, or_cases, or_left, or_right, eqb-true, leb-true, le-leb, false≢true, not-true, cases_lt, true≢false, eqb-false, both_ways, not_from_false}
use Rattle.std.proofs.lemmas.Map.Steps.{length-le_from_distinct_below}
use Rattle.std.proofs.lemmas.List.{length-map, length-reverse, reverse-append, take-append-le, take_all}
use Rattle.std.specs.Bool.{beq}
use Rattle.std.specs.Option.{is_some}
use Rattle.std.specs.List.{list_any, list_all, IsDistinct, AllByRecursion}
use Rattle.sat_lits.specs.InLits.{same_lit, opposite}
use Rattle.sat_lits.specs.ListLaws.{all_or_any, any_mono, filter_all}
use Rattle.sat_lits.specs.ClauseLaws.{beq_true}
use Rattle.sat_lits.specs.declared.literal.InLit.{InLit}
use Rattle.trail.specs.declared.trail.Step.{Step}
use Rattle.trail.specs.Trail.{Assignment, IsKept, lits_of, true_in, false_in, set_in, step_in, value_in, level_of, decided, shaped, shaped_step, back_to}

-- the variable of a step is new
pub step_new : (older : List Step) (s : Step) → shaped_step older s ≡ true → set_in older s.lit.var.0 ≡ false
step_new older s e =
    let p : (not (set_in older s.lit.var.0) ≡ true) × ((eqb s.level (level_of older) || (eqb s.level (level_of older + 1) && decided s.reason)) ≡ true) = and_parts _ _ e in
    not-true _ p.0

-- a step stands at the present level, or it is a decision of the next
pub step_level : (older : List Step) (s : Step) → shaped_step older s ≡ true → (s.level ≡ level_of older) ⊎ ((s.level ≡ level_of older + 1) × (decided s.reason ≡ true))
step_level older s e =
    let p : (not (set_in older s.lit.var.0) ≡ true) × ((eqb s.level (level_of older) || (eqb s.level (level_of older + 1) && decided s.reason)) ≡ true) = and_parts _ _ e in
    ⊎_elim (λ (f : eqb s.level (level_of older) ≡ true). inl (eqb-true _ _ f))
    (λ (f : (eqb s.level (level_of older + 1) && decided s.reason) ≡ true).
    let q : (eqb s.level (level_of older + 1) ≡ true) × (decided s.reason ≡ true) = and_parts _ _ f in
    inr (eqb-true _ _ q.0, q.1))
    (or_cases _ _ p.1)

-- levels never fall
pub level_up : (older : List Step) (s : Step) → shaped_step older s ≡ true → level_of older ≤ s.level
level_up older s e = ⊎_elim (λ (f : s.level ≡ level_of older). omega arith) (λ (f : (s.level ≡ level_of older + 1) × (decided s.reason ≡ true)). omega arith) (step_level older s e)

-- no level is above the present one
pub levels_low : (t : List Step) (k : ℕ) → shaped t ≡ true → level_of t ≤ k → list_all (λ s. leb s.level k) t ≡ true
levels_low [] k e h = refl
levels_low (s ∷ older) k e h =
    let p : (shaped_step older s ≡ true) × (shaped older ≡ true) = and_parts _ _ e in
    let u : level_of older ≤ s.level = level_up older s p.0 in
    and_from _ _ (le-leb s.level k h) (levels_low older k p.1 (omega arith))

-- there are at least as many steps as levels
pub level_within : (t : List Step) → shaped t ≡ true → level_of t ≤ length t
level_within [] e = omega arith
level_within (s ∷ older) e =
    let p : (shaped_step older s ≡ true) × (shaped older ≡ true) = and_parts _ _ e in
    let i : level_of older ≤ length older = level_within older p.1 in
    ⊎_elim (λ (f : s.level ≡ level_of older). omega arith) (λ (f : (s.level ≡ level_of older + 1) × (decided s.reason ≡ true)). omega arith) (step_level older s p.0)

-- the way back to the present level or one above it takes nothing
pub back_nowhere : (t : List Step) (k : ℕ) → shaped t ≡ true → level_of t ≤ k → back_to k t ≡ t
back_nowhere t k e h = filter_all (λ s. leb s.level k) t (levels_low t k e h)

-- the way back to a lower level takes the newest step
pub back_past : (older : List Step) (s : Step) (k : ℕ) → k < s.level → back_to k (s ∷ older) ≡ back_to k older
back_past older s k h = go (leb s.level k) refl
  where
    go : (b : Bool) → leb s.level k ≡ b → cond b (s ∷ back_to k older) (back_to k older) ≡ back_to k older
    go true f = absurd (let l : s.level ≤ k = leb-true _ _ f in omega arith)
    go false f = refl

-- taking the newest step back makes no difference to the way to a lower level
pub back_to-drop : (t : List Step) (k : ℕ) → k < level_of t → back_to k (drop 1 t) ≡ back_to k t
back_to-drop [] k h = absurd (omega arith)
back_to-drop (s ∷ older) k h = sym (back_past older s k h)

-- the way back leaves a trail
pub back_shaped : (t : List Step) (k : ℕ) → shaped t ≡ true → shaped (back_to k t) ≡ true
back_shaped [] k e = refl
back_shaped (s ∷ older) k e =
    let p : (shaped_step older s ≡ true) × (shaped older ≡ true) = and_parts _ _ e in
    ⊎_elim (λ (a : k < s.level). subst (λ (z : List Step). shaped z ≡ true) (sym (back_past older s k a)) (back_shaped older k p.1))
    (λ (a : s.level ≤ k). subst (λ (z : List Step). shaped z ≡ true) (sym (back_nowhere (s ∷ older) k e a)) e) (cases_lt k s.level)

-- the present level after the way back
pub level_of-back_to : (t : List Step) (k : ℕ) → shaped t ≡ true → level_of (back_to k t) ≡ min k (level_of t)
level_of-back_to [] k e = omega arith
level_of-back_to (s ∷ older) k e =
    let p : (shaped_step older s ≡ true) × (shaped older ≡ true) = and_parts _ _ e in
    let i : level_of (back_to k older) ≡ min k (level_of older) = level_of-back_to older k p.1 in
    ⊎_elim (λ (a : k < s.level). ap level_of (back_past older s k a) ∙ (i ∙ lower a (step_level older s p.0)))
    (λ (a : s.level ≤ k). ap level_of (back_nowhere (s ∷ older) k e a) ∙ omega arith) (cases_lt k s.level)
  where
    lower : k < s.level → (s.level ≡ level_of older) ⊎ ((s.level ≡ level_of older + 1) × (decided s.reason ≡ true)) → min k (level_of older) ≡ min k s.level
    lower a q = ⊎_elim (λ (f : s.level ≡ level_of older). omega arith) (λ (f : (s.level ≡ level_of older + 1) × (decided s.reason ≡ true)). omega arith) q

-- the newest literal stands last
pub lits_of-newest : (older : List Step) (s : Step) → lits_of (s ∷ older) ≡ lits_of older ++ s.lit ∷ []
lits_of-newest older s = reverse-append (s.lit ∷ []) (map (λ r. r.lit) older)

-- there are as many literals as steps
pub length-lits_of : (t : List Step) → length (lits_of t) ≡ length t
length-lits_of t = length-reverse (map (λ s. s.lit) t) ∙ length-map t (λ s. s.lit)

length-back_to : (t : List Step) (k : ℕ) → length (back_to k t) ≤ length t
length-back_to [] k = omega arith
length-back_to (s ∷ older) k = go (leb s.level k) (length-back_to older k)
  where
    go : (b : Bool) → length (back_to k older) ≤ length older → length (cond b (s ∷ back_to k older) (back_to k older)) ≤ suc (length older)
    go true h = omega arith
    go false h = omega arith

-- the way back leaves a front of the literals
pub lits_of-back_to : (t : List Step) (k : ℕ) → shaped t ≡ true → lits_of (back_to k t) ≡ take (length (back_to k t)) (lits_of t)
lits_of-back_to [] k e = refl
lits_of-back_to (s ∷ older) k e =
    let p : (shaped_step older s ≡ true) × (shaped older ≡ true) = and_parts _ _ e in
    ⊎_elim (λ (a : k < s.level). lower a (lits_of-back_to older k p.1)) (λ (a : s.level ≤ k). whole (back_nowhere (s ∷ older) k e a)) (cases_lt k s.level)
  where
    lower : k < s.level → lits_of (back_to k older) ≡ take (length (back_to k older)) (lits_of older) → lits_of (back_to k (s ∷ older)) ≡ take (length (back_to k (s ∷ older))) (lits_of (s ∷ older))
    lower a i =
        let n : length (back_to k older) ≤ length (lits_of older) = omega (arith, length-back_to older k, length-lits_of older) in
        subst (λ (z : List Step). lits_of z ≡ take (length z) (lits_of (s ∷ older))) (sym (back_past older s k a))
        (i ∙ (sym (take-append-le (length (back_to k older)) (lits_of older) (s.lit ∷ []) n) ∙ ap (take (length (back_to k older))) (sym (lits_of-newest older s))))

    whole : back_to k (s ∷ older) ≡ s ∷ older → lits_of (back_to k (s ∷ older)) ≡ take (length (back_to k (s ∷ older))) (lits_of (s ∷ older))
    whole w =
        subst (λ (z : List Step). lits_of z ≡ take (length z) (lits_of (s ∷ older))) (sym w)
        (sym (take_all (length (s ∷ older)) (lits_of (s ∷ older)) (omega (arith, length-lits_of (s ∷ older)))))

-- a step of the present level may follow
pub shaped_step-assign : (older : List Step) (s : Step) → set_in older s.lit.var.0 ≡ false → s.level ≡ level_of older → shaped_step older s ≡ true
shaped_step-assign older s e h = and_from _ _ (ap not e) (or_left _ _ (eq-eqb _ _ h))

-- and so may a decision of the next
pub shaped_step-decide : (older : List Step) (s : Step) → set_in older s.lit.var.0 ≡ false → s.level ≡ level_of older + 1 → decided s.reason ≡ true → shaped_step older s ≡ true
shaped_step-decide older s e h d = and_from _ _ (ap not e) (or_right _ _ (and_from _ _ (eq-eqb _ _ h) d))

-- no variable stands twice among the steps
distinct_variables : (t : List Step) → shaped t ≡ true → IsDistinct eqb (map (λ s. s.lit.var.0) t)
unfolding IsDistinct
distinct_variables [] e = tt
distinct_variables (s ∷ older) e =
    let p : (shaped_step older s ≡ true) × (shaped older ≡ true) = and_parts _ _ e in
    (others older (step_new older s p.0), distinct_variables older p.1)
  where
    others : (xs : List Step) → set_in xs s.lit.var.0 ≡ false → AllByRecursion (λ y. eqb s.lit.var.0 y ≡ false) (map (λ r. r.lit.var.0) xs)
    others [] f = tt
    others (x ∷ xs) f = here (eqb x.lit.var.0 s.lit.var.0) refl f (λ (g : set_in xs s.lit.var.0 ≡ false). others xs g)
      where
        here : (b : Bool) → eqb x.lit.var.0 s.lit.var.0 ≡ b → (b || set_in xs s.lit.var.0) ≡ false
            → (set_in xs s.lit.var.0 ≡ false → AllByRecursion (λ y. eqb s.lit.var.0 y ≡ false) (map (λ r. r.lit.var.0) xs)) → AllByRecursion (λ y. eqb s.lit.var.0 y ≡ false) (x.lit.var.0 ∷ map (λ r. r.lit.var.0) xs)
        here true g f k = absurd (true≢false f)
        here false g f k = (ne_eqb _ _ (λ h. eqb-false _ _ g (sym h)), k f)

known_below : (n : ℕ) (t : List Step) → list_all (λ s. ltb s.lit.var.0 n) t ≡ true → (v : ℕ) → list_any (eqb v) (map (λ s. s.lit.var.0) t) ≡ true → v < n
known_below n [] e v m = absurd (false≢true m)
known_below n (s ∷ older) e v m =
    let p : (ltb s.lit.var.0 n ≡ true) × (list_all (λ r. ltb r.lit.var.0 n) older ≡ true) = and_parts _ _ e in
    let l : s.lit.var.0 < n = ltb-true _ _ p.0 in
    ⊎_elim (λ (f : eqb v s.lit.var.0 ≡ true). let q : v ≡ s.lit.var.0 = eqb-true _ _ f in omega arith)
    (λ (f : list_any (eqb v) (map (λ r. r.lit.var.0) older) ≡ true). known_below n older p.1 v f) (or_cases _ _ m)

-- there are no more steps than reserved variables
pub steps_within : (t : List Step) (n : ℕ) → shaped t ≡ true → list_all (λ s. ltb s.lit.var.0 n) t ≡ true → length t ≤ n
steps_within t n e k =
    let l : length (map (λ (s : Step). s.lit.var.0) t) ≤ n = length-le_from_distinct_below (map (λ (s : Step). s.lit.var.0) t) n (distinct_variables t e) (known_below n t k) in
    omega (arith, l, length-map t (λ (s : Step). s.lit.var.0))

-- while a variable is reserved and unset, one more level has a number of 32 bits
pub room_for_level : (trail : Assignment) (l : InLit) → IsKept trail → l.var.0 < trail.reserved → set_in trail.steps l.var.0 ≡ false → level_of trail.steps + 1 < 2 ^ 32
room_for_level trail l h r u =
    let s : Step = record { lit = l; level = level_of trail.steps; reason = None } in
    let e : shaped (s ∷ trail.steps) ≡ true = and_from _ _ (shaped_step-assign trail.steps s u refl) h.sound in
    let w : length (s ∷ trail.steps) ≤ trail.reserved = steps_within (s ∷ trail.steps) trail.reserved e (and_from _ _ (lt-ltb _ _ r) h.known) in
    let v : level_of trail.steps ≤ length trail.steps = level_within trail.steps h.sound in
    omega (arith, h.few)

-- a variable that is set has a step
pub set_in-step_in : (t : List Step) (v : ℕ) → set_in t v ≡ is_some (step_in t v)
set_in-step_in [] v = refl
set_in-step_in (s ∷ older) v = go (eqb s.lit.var.0 v) (set_in-step_in older v)
  where
    go : (b : Bool) → set_in older v ≡ is_some (step_in older v) → (b || set_in older v) ≡ is_some (cond b (Some s) (step_in older v))
    go true h = refl
    go false h = h

-- no step of an unset variable passes a test
pub none_of-unset : (q : Step → Bool) (t : List Step) (v : ℕ) → set_in t v ≡ false → list_any (λ s. eqb s.lit.var.0 v && q s) t ≡ false
none_of-unset q [] v e = refl
none_of-unset q (s ∷ older) v e = go (eqb s.lit.var.0 v) e (λ (f : set_in older v ≡ false). none_of-unset q older v f)
  where
    go : (b : Bool) → (b || set_in older v) ≡ false → (set_in older v ≡ false → list_any (λ r. eqb r.lit.var.0 v && q r) older ≡ false) → ((b && q s) || list_any (λ r. eqb r.lit.var.0 v && q r) older) ≡ false
    go true f h = absurd (true≢false f)
    go false f h = h f

or_none : (b : Bool) → (b || false) ≡ b
or_none true = refl
or_none false = refl

-- one of a set variable does where its one step does
pub any_of-step : (q : Step → Bool) (t : List Step) (v : ℕ) (s : Step) → shaped t ≡ true → step_in t v ≡ Some s → list_any (λ r. eqb r.lit.var.0 v && q r) t ≡ q s
any_of-step q [] v s e h = cc
any_of-step q (r ∷ older) v s e h =
    let p : (shaped_step older r ≡ true) × (shaped older ≡ true) = and_parts _ _ e in
    go (eqb r.lit.var.0 v) refl h (step_new older r p.0) (λ (f : step_in older v ≡ Some s). any_of-step q older v s p.1 f)
  where
    go : (b : Bool) → eqb r.lit.var.0 v ≡ b → cond b (Some r) (step_in older v) ≡ Some s → set_in older r.lit.var.0 ≡ false
        → (step_in older v ≡ Some s → list_any (λ k. eqb k.lit.var.0 v && q k) older ≡ q s) → ((b && q r) || list_any (λ k. eqb k.lit.var.0 v && q k) older) ≡ q s
    go true g h n i =
        let a : r.lit.var.0 ≡ v = eqb-true _ _ g in
        let m : list_any (λ k. eqb k.lit.var.0 v && q k) older ≡ false = none_of-unset q older v (sym (ap (set_in older) a) ∙ n) in
        let w : r ≡ s = cc in
        rw m (or_none (q r) ∙ ap q w)
    go false g h n i = i h

-- the value of a literal of a set variable
pub value_in-step : (t : List Step) (l : InLit) (s : Step) → shaped t ≡ true → step_in t l.var.0 ≡ Some s → value_in t l ≡ Some (beq s.lit.negative l.negative)
value_in-step t l s e h =
    rw (any_of-step (λ (r : Step). beq r.lit.negative l.negative) t l.var.0 s e h, any_of-step (λ (r : Step). not (beq r.lit.negative l.negative)) t l.var.0 s e h)
    (go (beq s.lit.negative l.negative))
  where
    go : (b : Bool) → cond b (Some true) (cond (not b) (Some false) None) ≡ Some b
    go true = refl
    go false = refl

-- and of an unset one
pub value_in-unset : (t : List Step) (l : InLit) → set_in t l.var.0 ≡ false → value_in t l ≡ None
value_in-unset t l e =
    rw (none_of-unset (λ (r : Step). beq r.lit.negative l.negative) t l.var.0 e, none_of-unset (λ (r : Step). not (beq r.lit.negative l.negative)) t l.var.0 e) refl

-- a literal with the value true is assigned
pub value_in-true : (t : List Step) (l : InLit) → value_in t l ≡ Some true → true_in t l ≡ true
value_in-true t l h = go (true_in t l) (false_in t l) h
  where
    go : (a b : Bool) → cond a (Some true) (cond b (Some false) None) ≡ Some true → a ≡ true
    go true b h = refl
    go false true h = cc
    go false false h = cc

-- one with the value false has its negation assigned
pub value_in-false : (t : List Step) (l : InLit) → value_in t l ≡ Some false → false_in t l ≡ true
value_in-false t l h = go (true_in t l) (false_in t l) h
  where
    go : (a b : Bool) → cond a (Some true) (cond b (Some false) None) ≡ Some false → b ≡ true
    go true b h = cc
    go false true h = refl
    go false false h = cc

-- and one with no value is unset
pub value_in-none : (t : List Step) (l : InLit) → shaped t ≡ true → value_in t l ≡ None → set_in t l.var.0 ≡ false
value_in-none t l e h = set_in-step_in t l.var.0 ∙ go (step_in t l.var.0) refl
  where
    go : (o : Option Step) → step_in t l.var.0 ≡ o → is_some o ≡ false
    go None f = refl
    go (Some s) f = let k : value_in t l ≡ Some (beq s.lit.negative l.negative) = value_in-step t l s e f in cc

-- opposite literals have one variable
pub opposite_var : (k l : InLit) → opposite k l ≡ true → k.var.0 ≡ l.var.0
opposite_var k l e = let p : (eqb k.var.0 l.var.0 ≡ true) × (not (beq k.negative l.negative) ≡ true) = and_parts _ _ e in eqb-true _ _ p.0

-- and so have literals that are the same
pub same_var : (k l : InLit) → same_lit k l ≡ true → k.var.0 ≡ l.var.0
same_var k l e = let p : (eqb k.var.0 l.var.0 ≡ true) × (beq k.negative l.negative ≡ true) = and_parts _ _ e in eqb-true _ _ p.0

beq_self : (b : Bool) → beq b b ≡ true
beq_self true = refl
beq_self false = refl

-- a literal is the same as itself
pub same_lit_self : (l : InLit) → same_lit l l ≡ true
same_lit_self l = and_from _ _ (eq-eqb l.var.0 l.var.0 refl) (beq_self l.negative)

-- literals that the test calls the same are
pub same_lit_eq : (k l : InLit) → same_lit k l ≡ true → k ≡ l
same_lit_eq k l e =
    let p : (eqb k.var.0 l.var.0 ≡ true) × (beq k.negative l.negative ≡ true) = and_parts _ _ e in
    ap₂ (λ (v : ℕ) (n : Bool). record { var = record { 0 = v }; negative = n }) (eqb-true _ _ p.0) (beq_true _ _ p.1)

-- the variable of a false literal is set
pub false_set : (t : List Step) (l : InLit) → false_in t l ≡ true → set_in t l.var.0 ≡ true
false_set t l e = any_mono (λ (s : Step). opposite s.lit l) (λ (s : Step). eqb s.lit.var.0 l.var.0) (λ s o. eq-eqb _ _ (opposite_var s.lit l o)) t e

-- an element that is left by a filter passes both tests
pub filter_any : {X : Type 0} (p q : X → Bool) (xs : List X) → list_any p (filter q xs) ≡ true → list_any (λ x. p x && q x) xs ≡ true
filter_any p q [] e = e
filter_any {X = X} p q (x ∷ xs) e = go (q x) refl e (λ (f : list_any p (filter q xs) ≡ true). filter_any p q xs f)
  where
    go : (b : Bool) → q x ≡ b → list_any p (cond b (x ∷ filter q xs) (filter q xs)) ≡ true → (list_any p (filter q xs) ≡ true → list_any (λ y. p y && q y) xs ≡ true) → ((p x && q x) || list_any (λ y. p y && q y) xs) ≡ true
    go true f o r = ⊎_elim (λ (a : p x ≡ true). or_left _ _ (and_from _ _ a f)) (λ (a : list_any p (filter q xs) ≡ true). or_right _ _ (r a)) (or_cases _ _ o)
    go false f o r = or_right _ _ (r o)

-- what is true after the way back was true before
pub true_back : (t : List Step) (b : ℕ) (l : InLit) → true_in (back_to b t) l ≡ true → true_in t l ≡ true
true_back t b l e =
    any_mono (λ (s : Step). same_lit s.lit l && leb s.level b) (λ (s : Step). same_lit s.lit l) (λ s o. (and_parts (same_lit s.lit l) (leb s.level b) o).0) t
    (filter_any (λ (s : Step). same_lit s.lit l) (λ (s : Step). leb s.level b) t e)

-- no step of an unset variable fails a test
pub none_elsewhere : (q : Step → Bool) (xs : List Step) (v : ℕ) → set_in xs v ≡ false → list_all (λ s. not (eqb s.lit.var.0 v) || q s) xs ≡ true
none_elsewhere q [] v g = refl
none_elsewhere q (x ∷ xs) v g = here (eqb x.lit.var.0 v) refl g (λ (f : set_in xs v ≡ false). none_elsewhere q xs v f)
  where
    here : (b : Bool) → eqb x.lit.var.0 v ≡ b → (b || set_in xs v) ≡ false → (set_in xs v ≡ false → list_all (λ s. not (eqb s.lit.var.0 v) || q s) xs ≡ true) → ((not (eqb x.lit.var.0 v) || q x) && list_all (λ s. not (eqb s.lit.var.0 v) || q s) xs) ≡ true
    here true e g r = absurd (true≢false g)
    here false e g r = and_from _ _ (or_left _ _ (not_from_false _ e)) (r g)

-- a variable stands once: what one of its steps passes, all do
pub only_one : (p q : Step → Bool) (t : List Step) (v : ℕ) → shaped t ≡ true → ((s : Step) → p s ≡ true → eqb s.lit.var.0 v ≡ true) → ((s : Step) → p s ≡ true → q s ≡ true) → list_any p t ≡ true
    → list_all (λ s. not (eqb s.lit.var.0 v) || q s) t ≡ true
only_one p q [] v e of h f = refl
only_one p q (s ∷ older) v e of h f =
    let w : (shaped_step older s ≡ true) × (shaped older ≡ true) = and_parts _ _ e in
    go (eqb s.lit.var.0 v) refl (step_new older s w.0) (or_cases _ _ f) (λ (g : list_any p older ≡ true). only_one p q older v w.1 of h g)
  where
    go : (b : Bool) → eqb s.lit.var.0 v ≡ b → set_in older s.lit.var.0 ≡ false → (p s ≡ true) ⊎ (list_any p older ≡ true) → (list_any p older ≡ true → list_all (λ r. not (eqb r.lit.var.0 v) || q r) older ≡ true)
        → ((not (eqb s.lit.var.0 v) || q s) && list_all (λ r. not (eqb r.lit.var.0 v) || q r) older) ≡ true
    go true g n o r =
        let x : s.lit.var.0 ≡ v = eqb-true _ _ g in
        let y : set_in older v ≡ false = ap (set_in older) (sym x) ∙ n in
        ⊎_elim (λ (a : p s ≡ true). and_from _ _ (or_right _ _ (h s a)) (none_elsewhere q older v y))
        (λ (a : list_any p older ≡ true). absurd (both_ways _ y (any_mono p (λ (r : Step). eqb r.lit.var.0 v) of older a))) o
    go false g n o r =
        ⊎_elim (λ (a : p s ≡ true). absurd (both_ways _ g (of s a))) (λ (a : list_any p older ≡ true). and_from _ _ (or_left _ _ (not_from_false _ g)) (r a)) o

-- so the steps of the variable of a false literal are its negation
pub only_opposite : (t : List Step) (m : InLit) → shaped t ≡ true → false_in t m ≡ true → list_all (λ s. not (eqb s.lit.var.0 m.var.0) || opposite s.lit m) t ≡ true
only_opposite t m e f = only_one (λ (s : Step). opposite s.lit m) (λ (s : Step). opposite s.lit m) t m.var.0 e (λ s a. eq-eqb _ _ (opposite_var s.lit m a)) (λ s a. a) f

-- no literal is true and false
pub consistent : (t : List Step) (l : InLit) → shaped t ≡ true → true_in t l ≡ true → false_in t l ≡ true → ⊥
consistent t l e f g =
    all_or_any (λ (s : Step). not (eqb s.lit.var.0 l.var.0) || opposite s.lit l) (λ (s : Step). same_lit s.lit l) ⊥ t (only_opposite t l e g) f
    (λ s x y. let p : (eqb s.lit.var.0 l.var.0 ≡ true) × (beq s.lit.negative l.negative ≡ true) = and_parts _ _ y in
    ⊎_elim (λ (z : not (eqb s.lit.var.0 l.var.0) ≡ true). both_ways _ (not-true _ z) p.0)
    (λ (z : opposite s.lit l ≡ true). both_ways _ (not-true _ (and_parts (eqb s.lit.var.0 l.var.0) (not (beq s.lit.negative l.negative)) z).1) p.1) (or_cases _ _ x))

filter_twice : {X : Type 0} (p q : X → Bool) → ((x : X) → p x ≡ true → q x ≡ true) → (xs : List X) → filter p (filter q xs) ≡ filter p xs
filter_twice p q h [] = refl
filter_twice {X = X} p q h (x ∷ xs) = go (p x) (q x) refl refl (filter_twice p q h xs)
  where
    go : (a b : Bool) → p x ≡ a → q x ≡ b → filter p (filter q xs) ≡ filter p xs → filter p (cond b (x ∷ filter q xs) (filter q xs)) ≡ cond a (x ∷ filter p xs) (filter p xs)
    go a true e f r = rw (e, r) refl
    go true false e f r = absurd (both_ways _ f (h x e))
    go false false e f r = r

-- going back twice is going back to the lower level
pub back_twice : (t : List Step) (b k : ℕ) → b ≤ k → back_to b (back_to k t) ≡ back_to b t
back_twice t b k h = filter_twice (λ (s : Step). leb s.level b) (λ (s : Step). leb s.level k) (λ s e. let x : s.level ≤ b = leb-true _ _ e in le-leb s.level k (omega arith)) t
