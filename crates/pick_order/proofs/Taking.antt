-- Active variables, taken over one by one.
use Rattle.std.proofs.Common.{◌≡◌, ◌<◌, ◌≤◌, ◌+◌, ◌^◌, ℕ, Bool, true, false, cond, eqb, ltb, ◌||◌, List, [], length, take, set, get_or, Option, Some, None, unwrap_or, refl, sym, ap, subst, ◌∙◌, ⊎_elim, arith, replicate, ltb-true, lt-ltb, lit≤}
use Rattle.std.proofs.lemmas.Bool.{or_right, eqb-true, eqb-false, cases_lt}
use Rattle.std.proofs.lemmas.List.{get_or-set_same, get_or-set_other, get_or-replicate, get_or_past, length-replicate, take_more}
use Rattle.std.proofs.lemmas.List.Folds.{list_any_more}
use Rattle.std.specs.List.{list_any, list_all}
use Rattle.sat_lits.specs.declared.literal.Inner.{Inner}
use Rattle.sat_lits.specs.ListLaws.{all_mono, all_push}
use Rattle.pick_order.specs.declared.preference.Preference.{Preference}
use Rattle.pick_order.specs.Preferences.{preference_in, prepared, IsLimited}

or_none : (b : Bool) → (b || false) ≡ b
or_none true = refl
or_none false = refl

-- a greater number is above all these and one variable more
pub above_more : (vars : List Inner) (i above more : ℕ) (d : Inner) → i < length vars → above ≤ more → (get_or vars i d).0 < more → list_all (λ a. ltb a.0 above) (take i vars) ≡ true
    → list_all (λ a. ltb a.0 more) (take (i + 1) vars) ≡ true
above_more vars i above more d l from here h =
    rw (take_more vars i d l)
    (all_push (λ (a : Inner). ltb a.0 more) (take i vars) (get_or vars i d)
    (all_mono (λ (a : Inner). ltb a.0 above) (λ (a : Inner). ltb a.0 more) (λ a f. let k : a.0 < above = ltb-true _ _ f in lt-ltb _ _ (omega arith)) (take i vars) h)
    (lt-ltb _ _ here))

-- a table by variable of those that were taken over so far
abbrev pub TakenSoFar : List Inner → Bool → List (Option Preference) → List (Option Preference) → Type 0
TakenSoFar active phase known taken = (v : ℕ) → preference_in taken v ≡ prepared active phase known v

-- one more is taken over
pub taken_more : (active : List Inner) (phase : Bool) (known taken : List (Option Preference)) (i : ℕ) (d : Inner) → i < length active → (get_or active i d).0 < length taken
    → TakenSoFar (take i active) phase known taken
    → TakenSoFar (take (i + 1) active) phase known (set taken (get_or active i d).0 (Some (unwrap_or (preference_in known (get_or active i d).0) (record { activity = 0; phase = phase }))))
taken_more active phase known taken i d l here h v =
    rw (list_any_more (λ (a : Inner). eqb a.0 v) active i d l)
    (go (eqb (get_or active i d).0 v) refl)
  where
    go : (b : Bool) → eqb (get_or active i d).0 v ≡ b
        → preference_in (set taken (get_or active i d).0 (Some (unwrap_or (preference_in known (get_or active i d).0) (record { activity = 0; phase = phase })))) v
        ≡ cond (list_any (λ a. eqb a.0 v) (take i active) || b) (Some (unwrap_or (preference_in known v) (record { activity = 0; phase = phase }))) None
    go true e =
        let s : (get_or active i d).0 ≡ v = eqb-true _ _ e in
        rw (or_right (list_any (λ (a : Inner). eqb a.0 v) (take i active)) true refl, ← s) (get_or-set_same taken (get_or active i d).0 _ None here)
    go false e =
        get_or-set_other taken (get_or active i d).0 v _ None (λ q. eqb-false _ _ e (sym q))
        ∙ (h v ∙ ap (λ (b : Bool). cond b (Some (unwrap_or (preference_in known v) (record { activity = 0; phase = phase }))) None) (sym (or_none (list_any (λ (a : Inner). eqb a.0 v) (take i active)))))

-- at first none is
pub taken_none : (n : ℕ) (phase : Bool) (known : List (Option Preference)) → TakenSoFar [] phase known (replicate n None)
taken_none n phase known v = ⊎_elim (λ (l : v < n). get_or-replicate n v None None l) (λ (l : n ≤ v). get_or_past (replicate n None) v None (omega (arith, length-replicate n none))) (cases_lt v n)
  where
    none : Option Preference
    none = None

-- the activities stay below the limit
pub taken_limited : (active : List Inner) (phase : Bool) (known taken : List (Option Preference)) → IsLimited known → TakenSoFar active phase known taken → IsLimited taken
taken_limited active phase known taken h t v p e =
    go (list_any (λ (a : Inner). eqb a.0 v) active) (preference_in known v) refl (sym (t v) ∙ e)
  where
    go : (b : Bool) (o : Option Preference) → preference_in known v ≡ o → cond b (Some (unwrap_or o (record { activity = 0; phase = phase }))) None ≡ Some p → p.activity ≤ 2 ^ 62
    go true None f g = let k : record { activity = 0; phase = phase } ≡ p = cc in subst (λ (z : Preference). z.activity ≤ 2 ^ 62) k (lit≤ tt)
    go true (Some q) f g = let k : q ≡ p = cc in subst (λ (z : Preference). z.activity ≤ 2 ^ 62) k (h v q f)
    go false o f g = absurd (let w : ◌≡◌ {A = Option Preference} None (Some p) = g in cc)
