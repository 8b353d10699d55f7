-- A phrase that is gone over by a walk of its own.
use Rattle.std.proofs.Common.{◌≡◌, ℕ, suc, ◌+◌, List, [], ◌∷◌, ◌++◌, length, ◌∙◌, ap, true, false, arith}
use Rattle.dimacs_text.specs.Walk.{is_blank, Turn, Next, Stop, walk}
use Rattle.dimacs_text.proofs.Walks.{walk-stop, walk-past, walk-past_blank}

module _ {A R X : Type 0} (turn : ℕ → A → List ℕ → Turn A R) (ends : ℕ → A → R)
    -- what follows the phrase, in a text from a place on
    (out : ℕ → List ℕ → R → X)
    -- the phrase ends behind a place
    (B : ℕ → R → Type 0) (beyond : (bs : List ℕ) (next place : ℕ) (a : A) → B place (walk turn ends next place a bs))
    -- and the bytes before that place play no part
    (past : (place after : ℕ) (w tail : List ℕ) (r : R) → after ≡ place + length w → B after r → out place (w ++ tail) r ≡ out after tail r) where
  -- the phrase goes on behind these bytes
  pub inner-next : (place after : ℕ) (a a' : A) (b : ℕ) (w tail : List ℕ) → is_blank b ≡ false → turn place a (b ∷ (w ++ tail)) ≡ Next after a' → after ≡ place + length (b ∷ w)
      → out place (b ∷ (w ++ tail)) (walk turn ends place place a (b ∷ (w ++ tail))) ≡ out after tail (walk turn ends after after a' tail)
  inner-next place after a a' b w tail h e n =
      ap (out place (b ∷ (w ++ tail))) (walk-past turn ends place after a a' b w tail h e n) ∙ past place after (b ∷ w) tail (walk turn ends after after a' tail) n (beyond tail after after a')

  -- the phrase ends with these bytes
  pub inner-stop : (place : ℕ) (a : A) (r : R) (b : ℕ) (bs : List ℕ) → is_blank b ≡ false → turn place a (b ∷ bs) ≡ Stop r
      → out place (b ∷ bs) (walk turn ends place place a (b ∷ bs)) ≡ out place (b ∷ bs) r
  inner-stop place a r b bs h e = ap (out place (b ∷ bs)) (walk-stop turn ends place a r b bs h e)

  -- a blank within the phrase
  pub inner-blank : (place : ℕ) (a : A) (b : ℕ) (tail : List ℕ) → is_blank b ≡ true
      → out place (b ∷ tail) (walk turn ends place place a (b ∷ tail)) ≡ out (suc place) tail (walk turn ends (suc place) (suc place) a tail)
  inner-blank place a b tail h =
      let n : suc place ≡ place + length (b ∷ []) = omega arith in
      ap (out place (b ∷ tail)) (walk-past_blank turn ends place a b tail h)
      ∙ past place (suc place) (b ∷ []) tail (walk turn ends (suc place) (suc place) a tail) n (beyond tail (suc place) (suc place) a)
