-- The inner numbers that are in use.
use Rattle.std.proofs.Common.{◌≡◌, ◌<◌, ◌≤◌, ◌+◌, ◌-◌, ℕ, zero, suc, true, false, eqb, ltb, List, [], ◌∷◌, ◌++◌, length, map, take, get_or, Option, Some, None, refl, sym, ap, subst, ◌∙◌, ⊎_elim, arith, eq-eqb, lt-ltb, add-one}
use Rattle.std.specs.Option.{is_some}
use Rattle.std.proofs.lemmas.Bool.{or_cases, or_left, or_right, eqb-true, false≢true, true≢false, cases_lt}
use Rattle.std.proofs.lemmas.List.{append-nil, get_or_past, length-take-le, map-append}
use Rattle.std.proofs.Math.Seq.{take-suc}
use Rattle.sat_lits.specs.ListLaws.{all_mono}
use Rattle.sat_lits.specs.declared.literal.Own.{Own}
use Rattle.sat_lits.specs.declared.literal.Inner.{Inner}
use Rattle.sat_lits.specs.declared.literal.InLit.{InLit}
use Rattle.clause_store.specs.Store.{Held}
use Rattle.propagate.specs.Watching.{lits_below, clauses_below, steps_below}
use Rattle.trail.specs.declared.trail.Step.{Step}
use Rattle.search.specs.InUse.{owned_from, is_among, lits_among, clauses_among, steps_among}

-- one place more
owned_push : (n : ℕ) (xs : List (Option Own)) (o : Option Own) → owned_from n (xs ++ o ∷ []) ≡ owned_from n xs ++ owned_from (n + length xs) (o ∷ [])
owned_push n [] o = ap (λ (k : ℕ). owned_from k (o ∷ [])) (omega arith)
owned_push n (None ∷ xs) o = owned_push (suc n) xs o ∙ ap (λ (k : ℕ). owned_from (suc n) xs ++ owned_from k (o ∷ [])) (omega arith)
owned_push n (Some v ∷ xs) o = ap (λ (z : List ℕ). n ∷ z) (owned_push (suc n) xs o ∙ ap (λ (k : ℕ). owned_from (suc n) xs ++ owned_from k (o ∷ [])) (omega arith))

-- a walk that meets one place more
pub owned_more : (owners : List (Option Own)) (k : ℕ) (o : Option Own) → k < length owners → get_or owners k None ≡ o → owned_from 0 (take (k + 1) owners) ≡ owned_from 0 (take k owners) ++ owned_from k (o ∷ [])
owned_more owners k o h e =
    let t : take (suc k) owners ≡ take k owners ++ get_or owners k None ∷ [] = take-suc owners k None h in
    let l : length (take k owners) ≡ k = length-take-le k owners (omega arith) in
    ap (λ (j : ℕ). owned_from 0 (take j owners)) (add-one k)
    ∙ (ap (owned_from 0) (t ∙ ap (λ (z : Option Own). take k owners ++ z ∷ []) e)
    ∙ (owned_push 0 (take k owners) o ∙ ap (λ (j : ℕ). owned_from 0 (take k owners) ++ owned_from j (o ∷ [])) (omega (arith, l))))

-- a number that is met has an owner
from_owned : (n : ℕ) (xs : List (Option Own)) (v : ℕ) → is_among (owned_from n xs) v ≡ true → (n ≤ v) × (is_some (get_or xs (v - n) None) ≡ true)
from_owned n [] v e = absurd (false≢true e)
from_owned n (None ∷ xs) v e =
    let p : (suc n ≤ v) × (is_some (get_or xs (v - suc n) None) ≡ true) = from_owned (suc n) xs v e in
    let q : suc n ≤ v = p.0 in
    let m : suc (v - suc n) ≡ v - n = omega arith in (omega arith, subst (λ (k : ℕ). is_some (get_or (None ∷ xs) k None) ≡ true) m p.1)
from_owned n (Some o ∷ xs) v e =
    ⊎_elim
    (λ (f : eqb n v ≡ true). let g : n ≡ v = eqb-true _ _ f in let m : 0 ≡ v - n = omega arith in let l : n ≤ v = omega arith in (l, subst (λ (k : ℕ). is_some (get_or (Some o ∷ xs) k None) ≡ true) m refl))
    (λ (f : is_among (owned_from (suc n) xs) v ≡ true).
    let p : (suc n ≤ v) × (is_some (get_or xs (v - suc n) None) ≡ true) = from_owned (suc n) xs v f in
    let q : suc n ≤ v = p.0 in
    let m : suc (v - suc n) ≡ v - n = omega arith in let l : n ≤ v = omega arith in (l, subst (λ (k : ℕ). is_some (get_or (Some o ∷ xs) k None) ≡ true) m p.1))
    (or_cases _ _ e)

-- a number in use has an owner
pub among_owned : (xs : List (Option Own)) (v : ℕ) → is_among (owned_from 0 xs) v ≡ true → is_some (get_or xs v None) ≡ true
among_owned xs v e =
    let p : (0 ≤ v) × (is_some (get_or xs (v - 0) None) ≡ true) = from_owned 0 xs v e in
    let z : v - 0 ≡ v = omega arith in
    subst (λ (k : ℕ). is_some (get_or xs k None) ≡ true) z p.1

owned_from_among : (n : ℕ) (xs : List (Option Own)) (v : ℕ) → is_some (get_or xs v None) ≡ true → is_among (owned_from n xs) (n + v) ≡ true
owned_from_among n [] v e = absurd (false≢true e)
owned_from_among n (None ∷ xs) zero e = absurd (false≢true e)
owned_from_among n (None ∷ xs) (suc v) e = let m : suc n + v ≡ n + suc v = omega arith in subst (λ (k : ℕ). is_among (owned_from (suc n) xs) k ≡ true) m (owned_from_among (suc n) xs v e)
owned_from_among n (Some o ∷ xs) zero e = or_left _ _ (eq-eqb n (n + 0) (omega arith))
owned_from_among n (Some o ∷ xs) (suc v) e = let m : suc n + v ≡ n + suc v = omega arith in or_right _ _ (subst (λ (k : ℕ). is_among (owned_from (suc n) xs) k ≡ true) m (owned_from_among (suc n) xs v e))

-- and a number that has one is in use
pub owned_among : (xs : List (Option Own)) (v : ℕ) → is_some (get_or xs v None) ≡ true → is_among (owned_from 0 xs) v ≡ true
owned_among xs v e = let m : 0 + v ≡ v = omega arith in subst (λ (k : ℕ). is_among (owned_from 0 xs) k ≡ true) m (owned_from_among 0 xs v e)

-- a number in use is below the number of places
pub among_below : (xs : List (Option Own)) (v : ℕ) → is_among (owned_from 0 xs) v ≡ true → ltb v (length xs) ≡ true
among_below xs v e =
    ⊎_elim (λ (l : v < length xs). lt-ltb _ _ l)
    (λ (l : length xs ≤ v). absurd (false≢true (sym (ap is_some (get_or_past xs v None l)) ∙ among_owned xs v e))) (cases_lt v (length xs))

-- so are those of literals, clauses and steps
pub lits_among_below : (xs : List (Option Own)) (lits : List InLit) → lits_among (owned_from 0 xs) lits ≡ true → lits_below (length xs) lits ≡ true
lits_among_below xs lits e = all_mono (λ (l : InLit). is_among (owned_from 0 xs) l.var.0) (λ (l : InLit). ltb l.var.0 (length xs)) (λ l x. among_below xs l.var.0 x) lits e

pub clauses_among_below : (xs : List (Option Own)) (held : List Held) → clauses_among (owned_from 0 xs) held ≡ true → clauses_below (length xs) held ≡ true
clauses_among_below xs held e = all_mono (λ (h : Held). lits_among (owned_from 0 xs) h.lits) (λ (h : Held). lits_below (length xs) h.lits) (λ h x. lits_among_below xs h.lits x) held e

pub steps_among_below : (xs : List (Option Own)) (t : List Step) → steps_among (owned_from 0 xs) t ≡ true → steps_below (length xs) t ≡ true
steps_among_below xs t e = all_mono (λ (s : Step). is_among (owned_from 0 xs) s.lit.var.0) (λ (s : Step). ltb s.lit.var.0 (length xs)) (λ s x. among_below xs s.lit.var.0 x) t e

-- a walk that takes an owned place
pub number_taken : (owners : List (Option Own)) (numbers : List Inner) (k : ℕ) → k < length owners → is_some (get_or owners k None) ≡ true → map (λ (i : Inner). i.0) numbers ≡ owned_from 0 (take k owners)
    → map (λ (i : Inner). i.0) (numbers ++ record { 0 = k } ∷ []) ≡ owned_from 0 (take (k + 1) owners)
number_taken owners numbers k h e m = go (get_or owners k None) refl e
  where
    go : (o : Option Own) → get_or owners k None ≡ o → is_some o ≡ true → map (λ (i : Inner). i.0) (numbers ++ record { 0 = k } ∷ []) ≡ owned_from 0 (take (k + 1) owners)
    go None f g = absurd (false≢true g)
    go (Some v) f g = map-append (λ (i : Inner). i.0) numbers (record { 0 = k } ∷ []) ∙ (ap (λ (z : List ℕ). z ++ k ∷ []) m ∙ sym (owned_more owners k (Some v) h f))

-- and one that passes a place that is free
pub number_passed : (owners : List (Option Own)) (numbers : List Inner) (k : ℕ) → k < length owners → is_some (get_or owners k None) ≡ false → map (λ (i : Inner). i.0) numbers ≡ owned_from 0 (take k owners)
    → map (λ (i : Inner). i.0) numbers ≡ owned_from 0 (take (k + 1) owners)
number_passed owners numbers k h e m = go (get_or owners k None) refl e
  where
    go : (o : Option Own) → get_or owners k None ≡ o → is_some o ≡ false → map (λ (i : Inner). i.0) numbers ≡ owned_from 0 (take (k + 1) owners)
    go None f g = m ∙ (sym (append-nil (owned_from 0 (take k owners))) ∙ sym (owned_more owners k None h f))
    go (Some v) f g = absurd (true≢false g)
