-- Facts on the first element that passes a test.
use Rattle.std.proofs.Common.{◌≡◌, ◌&&◌, ◌||◌, Bool, true, false, cond, not, List, [], ◌∷◌, Some, None, find, refl, sym}
use Rattle.std.proofs.lemmas.Option.{none-some}
use Rattle.std.specs.List.{list_all, list_any}

-- where none is found, none passes
pub none_found : {X : Type 0} (p : X → Bool) (xs : List X) → find p xs ≡ None → list_all (λ x. not (p x)) xs ≡ true
none_found p [] e = refl
none_found p (x ∷ xs) e = go (p x) e (none_found p xs)
  where
    go : (b : Bool) → cond b (Some x) (find p xs) ≡ None → (find p xs ≡ None → list_all (λ y. not (p y)) xs ≡ true) → (not b && list_all (λ y. not (p y)) xs) ≡ true
    go true e h = absurd (none-some x (sym e))
    go false e h = h e

-- where one is found, one passes
pub one_found : {X : Type 0} (p : X → Bool) (xs : List X) (x : X) → find p xs ≡ Some x → list_any p xs ≡ true
one_found p [] x e = absurd (none-some x e)
one_found p (y ∷ xs) x e = go (p y) e (one_found p xs x)
  where
    go : (b : Bool) → cond b (Some y) (find p xs) ≡ Some x → (find p xs ≡ Some x → list_any p xs ≡ true) → (b || list_any p xs) ≡ true
    go true e h = refl
    go false e h = h e
