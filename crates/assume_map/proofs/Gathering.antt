-- Failed assumptions that are gathered, one by one.
use Rattle.std.proofs.Common.{◌≡◌, ℕ, ◌+◌, ◌<◌, ◌==◌, ◌||◌, ◌⊎◌, ⊎_elim, inl, inr, Bool, true, false, nat_lt, List, [], ◌∷◌, ◌++◌, Some, length, get_or, take, refl, sym, ap, subst, ◌∙◌, arith, add-one, eqb-true, eq-eqb}
use Rattle.std.specs.Bool.{beq}
use Rattle.std.specs.List.{list_all, list_any, slice_get, Contains}
use Rattle.std.specs.List.Sorted.{IsStrictlyIncreasing}
use Rattle.std.proofs.lemmas.Bool.{and_parts, and_from, or_parts, ltb-true, true≢false}
use Rattle.std.proofs.lemmas.List.{get_or-take, get_or_default, length-take-le}
use Rattle.std.proofs.lemmas.List.Elements.{Contains-append_left, Contains-append_right, Contains-append_cases}
use Rattle.std.proofs.lemmas.List.Folds.{list_any-append}
use Rattle.std.proofs.lemmas.List.Kept.{AllPairs-from_increasing}
use Rattle.std.proofs.lemmas.List.Quantifiers.{all_pairs_push}
use Rattle.std.proofs.lemmas.Map.Views.{Contains-from_any}
use Rattle.std.proofs.lemmas.Option.{slice_get-get_or}
use Rattle.std.proofs.Math.Seq.{take-suc}
use Rattle.sat_lits.specs.ClauseLaws.{beq_true}
use Rattle.sat_lits.specs.ListLaws.{all_at}
use Rattle.sat_lits.specs.Verdicts.{StandAt}
use Rattle.sat_lits.specs.declared.literal.Lit.{Lit}
use Rattle.assume_map.specs.Failed.{AreFailedLits}
use Rattle.assume_map.specs.Met.{same_outer}

-- literals that pass the test are one
pub same_is : (k l : Lit) → same_outer k l ≡ true → k ≡ l
same_is k l e =
    let p : ((k.var.0 == l.var.0) ≡ true) × (beq k.negative l.negative ≡ true) = and_parts _ _ e in
    ap (λ (n : ℕ). let z : Lit = record { var = record { 0 = n }; negative = k.negative } in z) (eqb-true _ _ p.0)
    ∙ ap (λ (b : Bool). let z : Lit = record { var = l.var; negative = b } in z) (beq_true _ _ p.1)

pub same_itself : (l : Lit) → same_outer l l ≡ true
same_itself l = and_from _ _ (eq-eqb l.var.0 l.var.0 refl) (itself l.negative)
  where
    itself : (b : Bool) → beq b b ≡ true
    itself true = refl
    itself false = refl

none_in : {X : Type 0} (x : X) → Contains [] x → ⊥
none_in x h = absurd (let l : h.0 < 0 = h.1 in omega arith)

one_in : {X : Type 0} (x y : X) → Contains (y ∷ []) x → y ≡ x
one_in x y (k, l, e) = let z : k ≡ 0 = omega arith in sym (ap (λ (i : ℕ). get_or (y ∷ []) i x) z) ∙ e

at_end : {X : Type 0} (xs : List X) (x : X) → Contains (xs ++ x ∷ []) x
at_end xs x = Contains-append_right xs (x ∷ []) x (0, omega arith, refl)

-- one of them, or the last one
in_longer : {X : Type 0} (xs : List X) (x y : X) → Contains (xs ++ y ∷ []) x → (Contains xs x) ⊎ (y ≡ x)
in_longer xs x y h = ⊎_elim (λ (a : Contains xs x). inl a) (λ (b : Contains (y ∷ []) x). inr (one_in x y b)) (Contains-append_cases xs (y ∷ []) x h)

-- nothing was gathered
pub none_failed : (a : List Lit) → AreFailedLits a [] []
none_failed a = record {
  places = [];
  rising = λ i j d l b. absurd (let z : j < 0 = b in omega arith);
  stand = tt;
  among = λ p h. h;
  distinct = λ i j d l b. absurd (let z : j < 0 = b in omega arith);
  all = λ p l h e. absurd (none_in p h);
  first = λ q p l h g e f. absurd (none_in p h);
}

some_same : (k l : Lit) → Some k ≡ Some l → k ≡ l
some_same k l e = cc

stand_more : (a : List Lit) (places : List ℕ) (failed : List Lit) (p : ℕ) (l : Lit) → StandAt a places failed → slice_get a p ≡ Some l → StandAt a (places ++ p ∷ []) (failed ++ l ∷ [])
stand_more a [] [] p l s e = (e, tt)
stand_more a [] (k ∷ failed) p l s e = absurd s
stand_more a (q ∷ places) [] p l s e = absurd s
stand_more a (q ∷ places) (k ∷ failed) p l s e = (s.0, stand_more a places failed p l s.1 e)

module _ (a : List Lit) (qs : List ℕ) (failed : List Lit) (p : ℕ) (l : Lit) (h : AreFailedLits a qs failed) (later : (q : ℕ) → Contains qs q → q < p) (here : slice_get a p ≡ Some l) where
  -- a literal that stands there already is not added
  pub failed_again : Contains failed l → AreFailedLits a (qs ++ p ∷ []) failed
  failed_again met = record {
    places = h.places;
    rising = h.rising;
    stand = h.stand;
    among = λ x c. Contains-append_left qs (p ∷ []) x (h.among x c);
    distinct = h.distinct;
    all = λ x k c e. ⊎_elim (λ (b : Contains qs x). h.all x k b e) (λ (z : p ≡ x). subst (λ (y : Lit). Contains failed y) (some_same l k (sym here ∙ (ap (slice_get a) z ∙ e))) met) (in_longer qs x p c);
    first = λ q x k c g e f. ⊎_elim (λ (b : Contains qs q). h.first q x k c b e f) (λ (z : p ≡ q). let y : x < p = later x (h.among x c) in omega arith) (in_longer qs q p g);
  }

  -- a new one is
  pub failed_new : (Contains failed l → ⊥) → AreFailedLits a (qs ++ p ∷ []) (failed ++ l ∷ [])
  failed_new new = record {
    places = h.places ++ p ∷ [];
    rising = all_pairs_push (λ x y. x < y) h.places p h.rising (λ k d b. later (get_or h.places k d) (h.among (get_or h.places k d) (within h.places k d b)));
    stand = stand_more a h.places failed p l h.stand here;
    among = λ x c. ⊎_elim (λ (b : Contains h.places x). Contains-append_left qs (p ∷ []) x (h.among x b)) (λ (z : p ≡ x). subst (λ (y : ℕ). Contains (qs ++ p ∷ []) y) z (at_end qs p)) (in_longer h.places x p c);
    distinct = all_pairs_push (λ x y. x ≡ y → ⊥) failed l h.distinct (λ k d b e. new (subst (λ (x : Lit). Contains failed x) e (within failed k d b)));
    all = λ x k c e. ⊎_elim (λ (b : Contains qs x). Contains-append_left failed (l ∷ []) k (h.all x k b e)) (λ (z : p ≡ x). subst (λ (y : Lit). Contains (failed ++ l ∷ []) y) (some_same l k (sym here ∙ (ap (slice_get a) z ∙ e))) (at_end failed l)) (in_longer qs x p c);
    first = λ q x k c g e f.
        ⊎_elim
        (λ (b : Contains h.places x). ⊎_elim (λ (d : Contains qs q). h.first q x k b d e f) (λ (z : p ≡ q). let y : x < p = later x (h.among x b) in omega arith) (in_longer qs q p g))
        (λ (w : p ≡ x). ⊎_elim (λ (d : Contains qs q). absurd (new (subst (λ (y : Lit). Contains failed y) (some_same k l (sym e ∙ (sym (ap (slice_get a) w) ∙ here))) (h.all q k d f)))) (λ (z : p ≡ q). omega arith) (in_longer qs q p g))
        (in_longer h.places x p c);
  }
    where
      within : {X : Type 0} (xs : List X) (k : ℕ) (d : X) → k < length xs → Contains xs (get_or xs k d)
      within xs k d b = (k, b, same xs k d b)
        where
          same : {X : Type 0} (xs : List X) (k : ℕ) (d : X) → k < length xs → get_or xs k (get_or xs k d) ≡ get_or xs k d
          same xs k d b = get_or_default xs k (get_or xs k d) d b

module _ (a : List Lit) (ps : List ℕ) (i : ℕ) (b : i < length ps) where
  -- positions that rise
  pub earlier : IsStrictlyIncreasing ps → (q : ℕ) → Contains (take i ps) q → q < get_or ps i 0
  earlier r q (k, l, e) =
      let short : k < i = length_below k l in
      subst (λ (x : ℕ). x < get_or ps i 0) (sym (get_or-take i ps k q short) ∙ e)
      (subst (λ (x : ℕ). x < get_or ps i 0) (get_or_default ps k 0 q (omega arith)) (AllPairs-from_increasing ps r k i 0 short b))
    where
      length_below : (k : ℕ) → k < length (take i ps) → k < i
      length_below k l = let z : length (take i ps) ≡ i = length-take-le i ps (omega arith) in omega arith

  -- one more position
  pub one_more : take (i + 1) ps ≡ take i ps ++ get_or ps i 0 ∷ []
  one_more = ap (λ (j : ℕ). take j ps) (add-one i) ∙ take-suc ps i 0 b

  -- what stands at it
  pub within_at : list_all (λ p. nat_lt p (length a)) ps ≡ true → get_or ps i 0 < length a
  within_at w = ltb-true _ _ (all_at (λ (p : ℕ). nat_lt p (length a)) ps i 0 b w)

  pub stands : (d : Lit) → list_all (λ p. nat_lt p (length a)) ps ≡ true → slice_get a (get_or ps i 0) ≡ Some (get_or a (get_or ps i 0) d)
  stands d w = slice_get-get_or a (get_or ps i 0) d (within_at w)

-- a literal that was added is met
pub met_more : (failed : List Lit) (l k : Lit) (x y : Bool) → y ≡ (same_outer k l || x) → x ≡ list_any (same_outer k) failed → y ≡ list_any (same_outer k) (failed ++ l ∷ [])
met_more failed l k x y e f =
    e ∙ (swap (same_outer k l) x ∙ (ap (λ (b : Bool). b || (same_outer k l || false)) f ∙ sym (list_any-append (same_outer k) failed (l ∷ []))))
  where
    swap : (a b : Bool) → (a || b) ≡ (b || (a || false))
    swap true true = refl
    swap true false = refl
    swap false true = refl
    swap false false = refl

-- and so is one that stands there already
pub met_again : (failed : List Lit) (l k : Lit) (x y : Bool) → list_any (same_outer l) failed ≡ true → y ≡ (same_outer k l || x) → x ≡ list_any (same_outer k) failed → y ≡ list_any (same_outer k) failed
met_again failed l k x y t e f = e ∙ go (same_outer k l) refl
  where
    go : (b : Bool) → same_outer k l ≡ b → (b || x) ≡ list_any (same_outer k) failed
    go true q = sym (ap (λ (z : Lit). list_any (same_outer z) failed) (same_is k l q) ∙ t)
    go false q = f

pub met_stands : (failed : List Lit) (l : Lit) → list_any (same_outer l) failed ≡ true → Contains failed l
met_stands failed l t = Contains-from_any same_is l failed t

pub unmet : (failed : List Lit) (l : Lit) → list_any (same_outer l) failed ≡ false → Contains failed l → ⊥
unmet [] l t h = none_in l h
unmet (k ∷ failed) l t h =
    let p : (same_outer l k ≡ false) × (list_any (same_outer l) failed ≡ false) = or_parts _ _ t in
    ⊎_elim (λ (b : Contains (k ∷ []) l). true≢false (sym (same_itself l) ∙ (ap (same_outer l) (sym (one_in l k b)) ∙ p.0))) (λ (b : Contains failed l). unmet failed l p.1 b) (Contains-append_cases (k ∷ []) failed l h)
