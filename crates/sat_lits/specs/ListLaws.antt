-- Facts on tests of the elements of a list. `list_all` and `list_any` go by cases on the list, so each is an induction.
use Rattle.std.proofs.Common.{◌≡◌, ◌⊎◌, ℕ, zero, suc, ◌<◌, Bool, true, false, cond, ◌&&◌, ◌||◌, List, [], ◌∷◌, ◌++◌, length, map, filter, take, drop, get_or, Some, refl, sym, ap, ap₂, ◌∙◌, ⊎_elim}
use Rattle.std.specs.Prelude.{if◌then◌else◌, is_ok, Result, Ok}
use Rattle.std.specs.List.{list_all, list_any, slice_get}
use Rattle.std.proofs.lemmas.Bool.{and_parts, and_from, or_cases, or_left, or_right, false≢true}
use Rattle.std.proofs.lemmas.List.{take-append-drop}
use Rattle.std.proofs.lemmas.List.Folds.{list_all-append, list_all_at}
use Rattle.std.proofs.lemmas.Option.{same_Some, none-some}

-- where each element that passes one test passes another
pub all_mono : {X : Type 0} (p q : X → Bool) → ((x : X) → p x ≡ true → q x ≡ true) → (xs : List X) → list_all p xs ≡ true → list_all q xs ≡ true
all_mono p q h [] e = refl
all_mono p q h (x ∷ xs) e =
    let a : (p x ≡ true) × (list_all p xs ≡ true) = and_parts _ _ e in
    and_from _ _ (h x a.0) (all_mono p q h xs a.1)

-- the same of some element
pub any_mono : {X : Type 0} (p q : X → Bool) → ((x : X) → p x ≡ true → q x ≡ true) → (xs : List X) → list_any p xs ≡ true → list_any q xs ≡ true
any_mono p q h [] e = e
any_mono p q h (x ∷ xs) e =
    ⊎_elim
    (λ (f : p x ≡ true). or_left (q x) (list_any q xs) (h x f))
    (λ (f : list_any p xs ≡ true). or_right (q x) (list_any q xs) (any_mono p q h xs f))
    (or_cases _ _ e)

-- where each element passes two tests that together give a third
pub both_all : {X : Type 0} (p q r : X → Bool) → ((x : X) → p x ≡ true → q x ≡ true → r x ≡ true) → (xs : List X) → list_all p xs ≡ true → list_all q xs ≡ true → list_all r xs ≡ true
both_all p q r h [] a b = refl
both_all p q r h (x ∷ xs) a b =
    let c : (p x ≡ true) × (list_all p xs ≡ true) = and_parts _ _ a in
    let d : (q x ≡ true) × (list_all q xs ≡ true) = and_parts _ _ b in
    and_from _ _ (h x c.0 d.0) (both_all p q r h xs c.1 d.1)

-- where each element passes one test and some element another, that element passes both
pub all_or_any : {X : Type 0} (p q : X → Bool) (r : Type 0) → (xs : List X) → list_all p xs ≡ true → list_any q xs ≡ true → ((x : X) → p x ≡ true → q x ≡ true → r) → r
all_or_any p q r [] a e h = absurd (false≢true e)
all_or_any p q r (x ∷ xs) a e h =
    let b : (p x ≡ true) × (list_all p xs ≡ true) = and_parts _ _ a in
    ⊎_elim (λ (f : q x ≡ true). h x b.0 f) (λ (f : list_any q xs ≡ true). all_or_any p q r xs b.1 f h) (or_cases _ _ e)

-- some element passes two tests that give a third where each element passes the first
pub all_any_mono : {X : Type 0} (t p q : X → Bool) → ((x : X) → t x ≡ true → p x ≡ true → q x ≡ true) → (xs : List X) → list_all t xs ≡ true → list_any p xs ≡ true → list_any q xs ≡ true
all_any_mono t p q h [] a e = e
all_any_mono t p q h (x ∷ xs) a e =
    let b : (t x ≡ true) × (list_all t xs ≡ true) = and_parts _ _ a in
    ⊎_elim
    (λ (f : p x ≡ true). or_left (q x) (list_any q xs) (h x b.0 f))
    (λ (f : list_any p xs ≡ true). or_right (q x) (list_any q xs) (all_any_mono t p q h xs b.1 f))
    (or_cases _ _ e)

-- two tests that agree at the elements that pass a third agree on the list
pub any_agree : {X : Type 0} (t p q : X → Bool) → ((x : X) → t x ≡ true → p x ≡ q x) → (xs : List X) → list_all t xs ≡ true → list_any p xs ≡ list_any q xs
any_agree t p q h [] e = refl
any_agree t p q h (x ∷ xs) e =
    let b : (t x ≡ true) × (list_all t xs ≡ true) = and_parts _ _ e in
    ap₂ ◌||◌ (h x b.0) (any_agree t p q h xs b.1)

-- the same of all elements
pub all_agree : {X : Type 0} (t p q : X → Bool) → ((x : X) → t x ≡ true → p x ≡ q x) → (xs : List X) → list_all t xs ≡ true → list_all p xs ≡ list_all q xs
all_agree t p q h [] e = refl
all_agree t p q h (x ∷ xs) e =
    let b : (t x ≡ true) × (list_all t xs ≡ true) = and_parts _ _ e in
    ap₂ ◌&&◌ (h x b.0) (all_agree t p q h xs b.1)

-- two tests that agree everywhere agree on each list
pub any_same : {X : Type 0} (p q : X → Bool) → ((x : X) → p x ≡ q x) → (xs : List X) → list_any p xs ≡ list_any q xs
any_same p q h [] = refl
any_same p q h (x ∷ xs) = ap₂ ◌||◌ (h x) (any_same p q h xs)

-- the same of all elements
pub all_same : {X : Type 0} (p q : X → Bool) → ((x : X) → p x ≡ q x) → (xs : List X) → list_all p xs ≡ list_all q xs
all_same p q h [] = refl
all_same p q h (x ∷ xs) = ap₂ ◌&&◌ (h x) (all_same p q h xs)

-- a test of what a function makes is a test of what it takes
pub any_map : {X Y : Type 0} (p : Y → Bool) (f : X → Y) (xs : List X) → list_any p (map f xs) ≡ list_any (λ x. p (f x)) xs
any_map p f [] = refl
any_map p f (x ∷ xs) = ap (λ b. p (f x) || b) (any_map p f xs)

-- an element that passes both tests stays in what is filtered by one
pub any_filter : {X : Type 0} (p q : X → Bool) (xs : List X) → list_any (λ x. p x && q x) xs ≡ true → list_any p (filter q xs) ≡ true
any_filter p q [] e = e
any_filter {X = X} p q (x ∷ xs) e = go (q x) refl (or_cases _ _ e) (λ (f : list_any (λ y. p y && q y) xs ≡ true). any_filter p q xs f)
  where
    go : (b : Bool) → q x ≡ b → ((p x && q x) ≡ true) ⊎ (list_any (λ y. p y && q y) xs ≡ true) → (list_any (λ y. p y && q y) xs ≡ true → list_any p (filter q xs) ≡ true)
        → list_any p (cond b (x ∷ filter q xs) (filter q xs)) ≡ true
    go true f o r =
        ⊎_elim
        (λ (g : (p x && q x) ≡ true). or_left (p x) (list_any p (filter q xs)) (and_parts (p x) (q x) g).0)
        (λ (g : list_any (λ y. p y && q y) xs ≡ true). or_right (p x) (list_any p (filter q xs)) (r g))
        o
    go false f o r =
        ⊎_elim
        (λ (g : (p x && q x) ≡ true). absurd (false≢true (sym f ∙ (and_parts (p x) (q x) g).1)))
        r
        o

-- what is filtered by one test passes another where its elements that passed both do
pub all_filter : {X : Type 0} (p q r : X → Bool) → ((x : X) → p x ≡ true → q x ≡ true → r x ≡ true) → (xs : List X) → list_all p xs ≡ true → list_all r (filter q xs) ≡ true
all_filter p q r h [] e = refl
all_filter p q r h (x ∷ xs) e =
    let a : (p x ≡ true) × (list_all p xs ≡ true) = and_parts _ _ e in
    go (q x) refl a.0 (all_filter p q r h xs a.1)
  where
    go : (b : Bool) → q x ≡ b → p x ≡ true → list_all r (filter q xs) ≡ true → list_all r (cond b (x ∷ filter q xs) (filter q xs)) ≡ true
    go true f a e = and_from _ _ (h x a f) e
    go false f a e = e

-- the element at a place passes
pub all_at : {X : Type 0} (p : X → Bool) (xs : List X) (i : ℕ) (d : X) → i < length xs → list_all p xs ≡ true → p (get_or xs i d) ≡ true
all_at p xs i d h e = go (p (get_or xs i d)) refl
  where
    go : (v : Bool) → p (get_or xs i d) ≡ v → v ≡ true
    go true k = refl
    go false k = sym (list_all_at p xs i d h k) ∙ e

-- the element that stands at a place passes what all pass
pub all_get : {X : Type 0} (p : X → Bool) (xs : List X) (i : ℕ) (x : X) → slice_get xs i ≡ Some x → list_all p xs ≡ true → p x ≡ true
all_get p [] i x g e = absurd (none-some x g)
all_get p (y ∷ xs) zero x g e = ap p (sym (same_Some y x g)) ∙ (and_parts _ _ e).0
all_get p (y ∷ xs) (suc i) x g e = all_get p xs i x g (and_parts _ _ e).1

-- where each element that stands at a place passes, all do
pub all_from_get : {X : Type 0} (p : X → Bool) (xs : List X) → ((i : ℕ) (x : X) → slice_get xs i ≡ Some x → p x ≡ true) → list_all p xs ≡ true
all_from_get p [] h = refl
all_from_get p (x ∷ xs) h = and_from _ _ (h 0 x refl) (all_from_get p xs (λ i y g. h (suc i) y g))

-- the element that stands at a place, where it passes, is one that passes
pub any_get : {X : Type 0} (p : X → Bool) (xs : List X) (i : ℕ) (x : X) → slice_get xs i ≡ Some x → p x ≡ true → list_any p xs ≡ true
any_get p [] i x g e = absurd (none-some x g)
any_get p (y ∷ xs) zero x g e = or_left (p y) (list_any p xs) (ap p (same_Some y x g) ∙ e)
any_get p (y ∷ xs) (suc i) x g e = or_right (p y) (list_any p xs) (any_get p xs i x g e)

-- an element that passes stands at a place
pub any_place : {X : Type 0} (p : X → Bool) (xs : List X) → list_any p xs ≡ true → (i : ℕ) × (x : X) × (slice_get xs i ≡ Some x) × (p x ≡ true)
any_place p [] e = absurd (false≢true e)
any_place {X = X} p (x ∷ xs) e =
    ⊎_elim
    (λ (f : p x ≡ true). (0, x, refl, f))
    (λ (f : list_any p xs ≡ true). later (any_place p xs f))
    (or_cases _ _ e)
  where
    later : (i : ℕ) × (y : X) × (slice_get xs i ≡ Some y) × (p y ≡ true) → (i : ℕ) × (y : X) × (slice_get (x ∷ xs) i ≡ Some y) × (p y ≡ true)
    later (i, y, g, f) = (suc i, y, g, f)

-- one element more passes
pub all_push : {X : Type 0} (p : X → Bool) (xs : List X) (x : X) → list_all p xs ≡ true → p x ≡ true → list_all p (xs ++ x ∷ []) ≡ true
all_push p xs x e h = list_all-append p xs (x ∷ []) ∙ and_from _ _ e (and_from _ _ h refl)

-- a front of a list passes what all pass
pub all_front : {X : Type 0} (p : X → Bool) (n : ℕ) (xs : List X) → list_all p xs ≡ true → list_all p (take n xs) ≡ true
all_front p n xs e =
    let parts : (list_all p (take n xs) && list_all p (drop n xs)) ≡ true = sym (list_all-append p (take n xs) (drop n xs)) ∙ (ap (list_all p) (take-append-drop n xs) ∙ e) in
    (and_parts (list_all p (take n xs)) (list_all p (drop n xs)) parts).0

-- where each element passes, the filter leaves all
pub filter_all : {X : Type 0} (p : X → Bool) (xs : List X) → list_all p xs ≡ true → filter p xs ≡ xs
filter_all p [] e = refl
filter_all p (x ∷ xs) e =
    let a : (p x ≡ true) × (list_all p xs ≡ true) = and_parts _ _ e in
    rw a.0 (ap (λ z. x ∷ z) (filter_all p xs a.1))

-- a list after a push that was answered by Ok
pub pushed : {X E : Type 0} (r : Result (Unit {0}) E) (u : Unit {0}) (xs ys zs : List X) → zs ≡ (if is_ok r then ys else xs) → r ≡ Ok u → zs ≡ ys
pushed r u xs ys zs e h = e ∙ ap (λ q. if is_ok q then ys else xs) h
