-- What is marked, when the store, the maps or the stack change.
use Rattle.std.proofs.Common.{◌≡◌, ◌≤◌, ◌-◌, ◌<◌, ltb-true, ltb-false, ◌+◌, ℕ, zero, suc, Bool, true, false, cond, not, nat_lt, List, [], ◌∷◌, refl, sym, ap, ◌∙◌, length, take, filter, remove, arith, map}
use Rattle.std.proofs.lemmas.List.Edits.{length-remove}
use Rattle.std.specs.List.{list_all}
use Rattle.sat_lits.specs.declared.literal.OwnLit.{OwnLit}
use Rattle.clause_store.specs.Store.{Store, Held, IsKept, learned_of, marked}
use Rattle.var_maps.specs.Maps.{Maps}
use Rattle.state_laws.specs.Resolution.{mentions}
use Rattle.state_laws.specs.Held.{own_clauses, touches, without_ids, has_id_among, InClause, ExtendsBy}
use Rattle.state_laws.specs.HeldLaws.{drop_those}
use Rattle.state_laws.specs.ViewLaws.{clauses_of-filter, fewer_pass}

-- two filters may change places
pub filter_swap : {X : Type 0} (p q : X → Bool) (xs : List X) → filter p (filter q xs) ≡ filter q (filter p xs)
filter_swap p q [] = refl
filter_swap {X = X} p q (x ∷ xs) = go (p x) (q x) refl refl (filter_swap p q xs)
  where
    go : (a b : Bool) → p x ≡ a → q x ≡ b → filter p (filter q xs) ≡ filter q (filter p xs) → filter p (cond b (x ∷ filter q xs) (filter q xs)) ≡ filter q (cond a (x ∷ filter p xs) (filter p xs))
    go true true e f r = rw (e, f) (ap (λ z. x ∷ z) r)
    go true false e f r = rw f r
    go false true e f r = rw e r
    go false false e f r = r

-- what passes for all learned clauses passes for the marked ones
pub marked_pass : (p : List OwnLit → Bool) (m : Maps) (s : Store) → list_all p (own_clauses m (learned_of s.held)) ≡ true → list_all p (own_clauses m (learned_of (marked s))) ≡ true
marked_pass p m s e = fewer_pass p (λ h. nat_lt h.id s.mark) m (λ b. b) s.held e

-- clauses with a variable were collected, new ones added, and they were dropped: what is marked still
pub collected_marked : (m : Maps) (v : ℕ) (s t : Store) (ids : List ℕ) (clauses : List InClause) → ids ≡ map (λ h. h.id) (filter (touches m v) s.held) → IsKept s → ExtendsBy s t clauses
    → marked (without_ids ids t) ≡ filter (λ h. not (touches m v h)) (marked s)
collected_marked m v s t ids clauses d n x =
    filter_swap (λ (h : Held). nat_lt h.id t.mark) (λ h. not (has_id_among ids h)) t.held
    ∙ (ap (filter (λ (h : Held). not (has_id_among ids h))) x.marked
    ∙ (filter_swap (λ (h : Held). not (has_id_among ids h)) (λ h. nat_lt h.id s.mark) s.held
    ∙ (ap (filter (λ (h : Held). nat_lt h.id s.mark)) (ap (λ (ns : List ℕ). filter (λ (h : Held). not (has_id_among ns h)) s.held) d ∙ drop_those (touches m v) s.held n.rises)
    ∙ filter_swap (λ (h : Held). nat_lt h.id s.mark) (λ h. not (touches m v h)) s.held)))

-- and how it is read
pub collected_marked_clauses : (m : Maps) (v : ℕ) (s : Store) (held : List Held) → held ≡ filter (λ h. not (touches m v h)) (marked s)
    → own_clauses m (learned_of held) ≡ filter (λ c. not (mentions v c)) (own_clauses m (learned_of (marked s)))
collected_marked_clauses m v s held e = ap (λ (hs : List Held). own_clauses m (learned_of hs)) e ∙ clauses_of-filter m (λ b. b) (λ c. not (mentions v c)) (marked s)

-- how many of the first entries are left where the one at a place is taken out
abbrev pub left_of : ℕ → ℕ → ℕ
left_of at count = cond (nat_lt at count) (count - 1) count

take_nil : {X : Type 0} (n : ℕ) → take {A = X} n [] ≡ []
take_nil zero = refl
take_nil (suc n) = refl

remove_nil : {X : Type 0} (at : ℕ) → remove {X = X} [] at ≡ []
remove_nil zero = refl
remove_nil (suc at) = refl

take_before : {X : Type 0} (xs : List X) (at count : ℕ) → at < suc count → take count (remove xs at) ≡ remove (take (suc count) xs) at
take_before [] at count h = ap (take count) (remove_nil at) ∙ (take_nil count ∙ sym (remove_nil at))
take_before (x ∷ xs) zero count h = refl
take_before (x ∷ xs) (suc at) zero h = absurd (omega (arith, h))
take_before (x ∷ xs) (suc at) (suc count) h = ap (λ z. x ∷ z) (take_before xs at count (omega (arith, h)))

take_after : {X : Type 0} (xs : List X) (at count : ℕ) → count ≤ at → take count (remove xs at) ≡ remove (take count xs) at
take_after xs at zero h = sym (remove_nil at)
take_after [] at (suc count) h = ap (take (suc count)) (remove_nil at) ∙ sym (remove_nil at)
take_after (x ∷ xs) zero (suc count) h = absurd (omega (arith, h))
take_after (x ∷ xs) (suc at) (suc count) h = ap (λ z. x ∷ z) (take_after xs at count (omega (arith, h)))

-- the first entries are left but for that at the place
pub take_remove : {X : Type 0} (xs : List X) (at count : ℕ) → take (left_of at count) (remove xs at) ≡ remove (take count xs) at
take_remove {X = X} xs at count = go (nat_lt at count) refl
  where
    less : (n : ℕ) → at < n → take (n - 1) (remove xs at) ≡ remove (take n xs) at
    less zero h = absurd (omega (arith, h))
    less (suc n) h = ap (λ (k : ℕ). take k (remove xs at)) (let e : suc n - 1 ≡ n = omega arith in e) ∙ take_before xs at n h

    go : (b : Bool) → nat_lt at count ≡ b → take (cond b (count - 1) count) (remove xs at) ≡ remove (take count xs) at
    go true e = less count (ltb-true _ _ e)
    go false e = take_after xs at count (ltb-false _ _ e)

-- and they are not more than there are
pub remove_within : {X : Type 0} (xs : List X) (at count : ℕ) → count ≤ length xs → left_of at count ≤ length (remove xs at)
remove_within {X = X} xs at count h = go (nat_lt at count) (nat_lt at (length xs)) refl refl
  where
    past : (ys : List X) (i : ℕ) → length ys ≤ i → length ys ≤ length (remove ys i)
    past [] i l = omega arith
    past (y ∷ ys) zero l = absurd (omega (arith, l))
    past (y ∷ ys) (suc i) l = let m : length ys ≤ length (remove ys i) = past ys i (omega (arith, l)) in omega (arith, m)

    go : (b c : Bool) → nat_lt at count ≡ b → nat_lt at (length xs) ≡ c → cond b (count - 1) count ≤ length (remove xs at)
    go true true e f = let l : length (remove xs at) + 1 ≡ length xs = length-remove xs at (ltb-true _ _ f) in omega (arith, h, l)
    go false true e f = let l : length (remove xs at) + 1 ≡ length xs = length-remove xs at (ltb-true _ _ f) in let m : count ≤ at = ltb-false _ _ e in let n : at < length xs = ltb-true _ _ f in omega (arith, h, l, m, n)
    go true false e f = let l : length xs ≤ length (remove xs at) = past xs at (ltb-false _ _ f) in omega (arith, h, l)
    go false false e f = let l : length xs ≤ length (remove xs at) = past xs at (ltb-false _ _ f) in omega (arith, h, l)
