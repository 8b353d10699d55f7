-- Tokens that come byte by byte, where each is judged by what is held of it.
use Rattle.std.proofs.Common.{◌≡◌, ℕ, suc, ◌+◌, true, false, List, [], ◌∷◌, length, refl, sym, ◌∙◌, ap, arith}
use Rattle.dimacs_text.specs.Walk.{is_blank, word, Turn, turned, walk}
use Rattle.dimacs_text.specs.Words.{extended, word_after}
use Rattle.dimacs_text.specs.Arguments.{tokens_from}
use Rattle.dimacs_text.specs.declared.token.Word.{Word}
use Rattle.dimacs_text.specs.declared.token.Word.TheVariants.{Empty, Minus, Digits, Cnf, P, NoNumber}
use Rattle.dimacs_text.proofs.Walks.{elim_true, elim_false, walk-skip, walk-blank, walk-fresh, walk-met, walk-past_blank}
use Rattle.dimacs_text.proofs.Words.{IsBegun, extended-begun}

-- the token at the front of a blank is empty
pub word-blank : (b : ℕ) (bs : List ℕ) → is_blank b ≡ true → word (b ∷ bs) ≡ []
unfolding word
word-blank b bs h = elim_true (is_blank b) [] (b ∷ word bs) h

-- a byte that is no blank belongs to the token
pub word-more : (b : ℕ) (bs : List ℕ) → is_blank b ≡ false → word (b ∷ bs) ≡ b ∷ word bs
unfolding word
word-more b bs h = elim_false (is_blank b) [] (b ∷ word bs) h

-- a part of a token that has begun
pub tokens-begun : {X R : Type 0} (vars : ℕ) (met : ℕ → ℕ → X → Word → Turn X R) (on : ℕ → ℕ → X → List ℕ → R) (start place : ℕ) (x : X) (w : Word) (text : List ℕ) → IsBegun w
    → tokens_from vars met on start place x w text ≡ turned (met start (place + length (word text)) x (word_after vars w (word text))) (λ next x'. on next place x' text)
unfolding tokens_from
tokens-begun vars met on start place x Empty text h = cc
tokens-begun vars met on start place x Minus text h = refl
tokens-begun vars met on start place x (Digits negative v) text h = refl
tokens-begun vars met on start place x (Cnf count) text h = refl
tokens-begun vars met on start place x P text h = refl
tokens-begun vars met on start place x NoNumber text h = refl

-- what a word leads to that ends: nothing where none has begun
abbrev pub word_ends : {X R : Type 0} → (Word → Turn X R) → X → Word → (X → R) → R
word_ends met x Empty f = f x
word_ends met x Minus f = turned (met Minus) (λ next x'. f x')
word_ends met x (Digits negative v) f = turned (met (Digits negative v)) (λ next x'. f x')
word_ends met x (Cnf count) f = turned (met (Cnf count)) (λ next x'. f x')
word_ends met x P f = turned (met P) (λ next x'. f x')
word_ends met x NoNumber f = turned (met NoNumber) (λ next x'. f x')

-- a word that has begun ends
pub word_ends-begun : {X R : Type 0} (met : Word → Turn X R) (x : X) (w : Word) (f : X → R) → IsBegun w → word_ends met x w f ≡ turned (met w) (λ next x'. f x')
word_ends-begun met x Empty f h = cc
word_ends-begun met x Minus f h = refl
word_ends-begun met x (Digits negative v) f h = refl
word_ends-begun met x (Cnf count) f h = refl
word_ends-begun met x P f h = refl
word_ends-begun met x NoNumber f h = refl

module _ {X R : Type 0} (vars : ℕ) (turn : ℕ → X → List ℕ → Turn X R) (ends : ℕ → X → R) (met : ℕ → ℕ → X → Word → Turn X R)
    -- a token is judged by what is held of it
    (held : (place : ℕ) (x : X) (b : ℕ) (bs : List ℕ) → is_blank b ≡ false → turn place x (b ∷ bs) ≡ met place (place + length (word (b ∷ bs))) x (word_after vars Empty (word (b ∷ bs))))
    -- and a walk goes on behind it
    (behind : (start after : ℕ) (x : X) (w : Word) (f g : ℕ → X → R) → ((x' : X) → f after x' ≡ g after x') → turned (met start after x w) f ≡ turned (met start after x w) g) where
  -- the walk from a place on
  abbrev on : ℕ → ℕ → X → List ℕ → R
  on next place x text = walk turn ends next place x text

  -- a byte that is no blank
  pub tokens-more : (start place : ℕ) (x : X) (w : Word) (b : ℕ) (bs : List ℕ) → is_blank b ≡ false → (w ≡ Empty → start ≡ place)
      → tokens_from vars met on start place x w (b ∷ bs) ≡ tokens_from vars met on start (suc place) x (extended vars w b) bs
  unfolding word_after tokens_from
  tokens-more start place x w b bs h s = first w s ∙ sym (tokens-begun vars met on start (suc place) x (extended vars w b) bs (extended-begun vars w b))
    where
      after : suc place + length (word bs) ≡ place + length (b ∷ word bs)
      after = omega arith

      further : (v : Word) → turned (met start (place + length (word (b ∷ bs))) x (word_after vars v (word (b ∷ bs)))) (λ next x'. walk turn ends next place x' (b ∷ bs))
          ≡ turned (met start (suc place + length (word bs)) x (word_after vars (extended vars v b) (word bs))) (λ next x'. walk turn ends next (suc place) x' bs)
      further v =
          ap (λ t. turned (met start (place + length t) x (word_after vars v t)) (λ next x'. walk turn ends next place x' (b ∷ bs))) (word-more b bs h)
          ∙ (behind start (place + length (b ∷ word bs)) x (word_after vars (extended vars v b) (word bs)) _ _ (λ x'. walk-skip turn ends (place + length (b ∷ word bs)) place x' b bs (omega arith))
          ∙ ap (λ n. turned (met start n x (word_after vars (extended vars v b) (word bs))) (λ next x'. walk turn ends next (suc place) x' bs)) (sym after))

      begun : (v : Word) → IsBegun v
          → tokens_from vars met on start place x v (b ∷ bs) ≡ turned (met start (suc place + length (word bs)) x (word_after vars (extended vars v b) (word bs))) (λ next x'. walk turn ends next (suc place) x' bs)
      begun v k = tokens-begun vars met on start place x v (b ∷ bs) k ∙ further v

      opens : start ≡ place
          → walk turn ends place place x (b ∷ bs) ≡ turned (met start (suc place + length (word bs)) x (word_after vars (extended vars Empty b) (word bs))) (λ next x'. walk turn ends next (suc place) x' bs)
      opens e =
          walk-met turn ends place place x b bs (omega arith) h
          ∙ (ap (λ t. turned t (λ next x'. walk turn ends next (suc place) x' bs)) (held place x b bs h)
          ∙ (ap (λ t. turned (met place (place + length t) x (word_after vars Empty t)) (λ next x'. walk turn ends next (suc place) x' bs)) (word-more b bs h)
          ∙ (ap (λ n. turned (met place n x (word_after vars (extended vars Empty b) (word bs))) (λ next x'. walk turn ends next (suc place) x' bs)) (sym after)
          ∙ ap (λ p. turned (met p (suc place + length (word bs)) x (word_after vars (extended vars Empty b) (word bs))) (λ next x'. walk turn ends next (suc place) x' bs)) (sym e))))

      first : (v : Word) → (v ≡ Empty → start ≡ place)
          → tokens_from vars met on start place x v (b ∷ bs) ≡ turned (met start (suc place + length (word bs)) x (word_after vars (extended vars v b) (word bs))) (λ next x'. walk turn ends next (suc place) x' bs)
      first Empty k = opens (k refl)
      first Minus k = begun Minus refl
      first (Digits negative v) k = begun (Digits negative v) refl
      first (Cnf count) k = begun (Cnf count) refl
      first P k = begun P refl
      first NoNumber k = begun NoNumber refl

  -- a blank
  pub tokens-blank : (start place : ℕ) (x : X) (w : Word) (b : ℕ) (bs : List ℕ) → is_blank b ≡ true
      → tokens_from vars met on start place x w (b ∷ bs) ≡ word_ends (met start place x) x w (λ x'. walk turn ends (suc place) (suc place) x' bs)
  unfolding word_after tokens_from
  tokens-blank start place x w b bs h = go w
    where
      begun : (v : Word) → IsBegun v → tokens_from vars met on start place x v (b ∷ bs) ≡ turned (met start place x v) (λ next x'. walk turn ends (suc place) (suc place) x' bs)
      begun v k =
          let n : place + length {A = ℕ} [] ≡ place = omega arith in
          tokens-begun vars met on start place x v (b ∷ bs) k
          ∙ (ap (λ t. turned (met start (place + length t) x (word_after vars v t)) (λ next x'. walk turn ends next place x' (b ∷ bs))) (word-blank b bs h)
          ∙ (ap (λ p. turned (met start p x v) (λ next x'. walk turn ends next place x' (b ∷ bs))) n
          ∙ behind start place x v _ _ (λ x'. walk-blank turn ends place place x' b bs h ∙ walk-fresh turn ends bs place (suc place) x' (omega arith))))

      go : (v : Word) → tokens_from vars met on start place x v (b ∷ bs) ≡ word_ends (met start place x) x v (λ x'. walk turn ends (suc place) (suc place) x' bs)
      go Empty = walk-past_blank turn ends place x b bs h
      go Minus = begun Minus refl
      go (Digits negative v) = begun (Digits negative v) refl
      go (Cnf count) = begun (Cnf count) refl
      go P = begun P refl
      go NoNumber = begun NoNumber refl

  -- the end
  pub tokens-end : (start place : ℕ) (x : X) (w : Word) → tokens_from vars met on start place x w [] ≡ word_ends (met start place x) x w (λ x'. ends place x')
  unfolding word_after word walk tokens_from
  tokens-end start place x w = go w
    where
      begun : (v : Word) → IsBegun v → tokens_from vars met on start place x v [] ≡ turned (met start place x v) (λ next x'. ends place x')
      begun v k =
          let n : place + length {A = ℕ} [] ≡ place = omega arith in
          tokens-begun vars met on start place x v [] k ∙ ap (λ p. turned (met start p x v) (λ next x'. ends place x')) n

      go : (v : Word) → tokens_from vars met on start place x v [] ≡ word_ends (met start place x) x v (λ x'. ends place x')
      go Empty = refl
      go Minus = begun Minus refl
      go (Digits negative v) = begun (Digits negative v) refl
      go (Cnf count) = begun (Cnf count) refl
      go P = begun P refl
      go NoNumber = begun NoNumber refl
