-- The word `cnf`, byte by byte.
use Rattle.std.proofs.Common.{◌≡◌, ℕ, ◌-◌, Bool, true, false, List, [], ◌∷◌, Some, None, nat_eq, codes, refl, sym, ap, arith}
use Rattle.std.proofs.lemmas.Bool.{eqb-true}
use Rattle.dimacs_text.specs.Walk.{Turn, Next, Stop}
use Rattle.dimacs_text.specs.Tokens.{is_digit}
use Rattle.dimacs_text.specs.Words.{extended, word_after, is_format}
use Rattle.dimacs_text.specs.Comments.{behind}
use Rattle.dimacs_text.specs.Lists.{Refused}
use Rattle.dimacs_text.specs.Headers.{Header, NoHeader, format_met}
use Rattle.dimacs_text.specs.declared.phrase.Wanted.{Wanted}
use Rattle.dimacs_text.specs.declared.phrase.Wanted.TheVariants.{Variables}
use Rattle.dimacs_text.specs.declared.refusal.Refusal.TheVariants.{BadToken}
use Rattle.dimacs_text.specs.declared.token.Word.{Word}
use Rattle.dimacs_text.specs.declared.token.Word.TheVariants.{Empty, Minus, Digits, Cnf, P, NoNumber}

-- no part of the word `cnf`
abbrev IsOther : Word → Type 0
IsOther Empty = ⊥
IsOther Minus = Unit {0}
IsOther (Digits negative v) = Unit {0}
IsOther (Cnf count) = ⊥
IsOther P = Unit {0}
IsOther NoNumber = Unit {0}

-- a choice of two such words
other_elim : (v : Bool) (x y : Word) → IsOther x → IsOther y → IsOther (elim v [ true ↦ x | false ↦ y ])
other_elim true x y h k = h
other_elim false x y h k = k

-- it stays so with a byte more
other-extended : (vars : ℕ) (w : Word) (b : ℕ) → IsOther w → IsOther (extended vars w b)
unfolding extended
other-extended vars Empty b h = absurd h
other-extended vars Minus b h = other_elim (is_digit b) (Digits true _) NoNumber tt tt
other-extended vars (Digits negative v) b h = other_elim (is_digit b) (Digits negative _) NoNumber tt tt
other-extended vars (Cnf count) b h = absurd h
other-extended vars P b h = tt
other-extended vars NoNumber b h = tt

-- it is not that word
other-format : (w : Word) → IsOther w → is_format w ≡ false
other-format Empty h = absurd h
other-format Minus h = refl
other-format (Digits negative v) h = refl
other-format (Cnf count) h = absurd h
other-format P h = refl
other-format NoNumber h = refl

-- nor over many bytes
other-after : (vars : ℕ) (bs : List ℕ) (w : Word) → IsOther w → is_format (word_after vars w bs) ≡ false
unfolding word_after
other-after vars [] w h = other-format w h
other-after vars (b ∷ bs) w h = other-after vars bs (extended vars w b) (other-extended vars w b h)

module _ (vars place after : ℕ) where
  -- what a word leads to
  abbrev pub by_format : Bool → Turn Wanted Header
  by_format v = elim v [ true ↦ Next after Variables | false ↦ Stop (NoHeader (Refused (BadToken place))) ]

  -- another word is refused
  other-met : (w : Word) (bs : List ℕ) → IsOther w → format_met place after None ≡ by_format (is_format (word_after vars w bs))
  unfolding format_met
  other-met w bs h = sym (ap by_format (other-after vars bs w h))

  -- behind the whole word
  format-whole : (bs : List ℕ) → format_met place after (Some bs) ≡ by_format (is_format (word_after vars (Cnf 3) bs))
  unfolding format_met word_after extended
  format-whole [] = refl
  format-whole (c ∷ cs) = sym (ap by_format (other-after vars cs NoNumber tt))

  -- behind two of its bytes
  format-two : (bs : List ℕ) → format_met place after (behind (102 ∷ []) bs) ≡ by_format (is_format (word_after vars (Cnf 2) bs))
  unfolding behind word_after extended format_met
  format-two [] = refl
  format-two (c ∷ cs) = go (nat_eq c 102)
    where
      go : (v : Bool) → format_met place after (elim v [ true ↦ Some cs | false ↦ None ]) ≡ by_format (is_format (word_after vars (elim v [ true ↦ Cnf 3 | false ↦ NoNumber ]) cs))
      go true = format-whole cs
      go false = other-met NoNumber cs tt

  -- behind one
  format-one : (bs : List ℕ) → format_met place after (behind (110 ∷ 102 ∷ []) bs) ≡ by_format (is_format (word_after vars (Cnf 1) bs))
  unfolding behind word_after extended format_met
  format-one [] = refl
  format-one (c ∷ cs) = go (nat_eq c 110)
    where
      go : (v : Bool) → format_met place after (elim v [ true ↦ behind (102 ∷ []) cs | false ↦ None ]) ≡ by_format (is_format (word_after vars (elim v [ true ↦ Cnf 2 | false ↦ NoNumber ]) cs))
      go true = format-two cs
      go false = other-met NoNumber cs tt

  -- The word is told by what is held of it.
  pub format-held : (b : ℕ) (bs : List ℕ) → format_met place after (behind (codes "cnf") (b ∷ bs)) ≡ by_format (is_format (word_after vars Empty (b ∷ bs)))
  unfolding behind word_after extended
  format-held b bs = go (nat_eq b 45) (nat_eq b 112) (nat_eq b 99) (is_digit b) refl refl refl
    where
      go : (u v x d : Bool) → nat_eq b 45 ≡ u → nat_eq b 112 ≡ v → nat_eq b 99 ≡ x → format_met place after (elim x [ true ↦ behind (110 ∷ 102 ∷ []) bs | false ↦ None ])
          ≡ by_format (is_format (word_after vars (elim u [ true ↦ Minus | false ↦ elim v [ true ↦ P | false ↦ elim x [ true ↦ Cnf 1 | false ↦ elim d [ true ↦ Digits false (b - 48) | false ↦ NoNumber ] ] ] ]) bs))
      go true v true d e f g = absurd (let p = eqb-true b 45 e in let q = eqb-true b 99 g in omega arith)
      go true v false d e f g = other-met Minus bs tt
      go false true true d e f g = absurd (let p = eqb-true b 112 f in let q = eqb-true b 99 g in omega arith)
      go false true false d e f g = other-met P bs tt
      go false false true d e f g = format-one bs
      go false false false true e f g = other-met (Digits false (b - 48)) bs tt
      go false false false false e f g = other-met NoNumber bs tt
