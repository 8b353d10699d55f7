-- A token that has come byte by byte.
use Rattle.std.proofs.Common.{subst, ◌≡◌, ℕ, zero, suc, ◌+◌, ◌-◌, ◌*◌, ◌<◌, ◌⊎◌, Bool, true, false, List, [], ◌∷◌, ◌++◌, Option, Some, None, nat_lt, nat_eq, refl, sym, ◌∙◌, ap, inl, inr, arith}
use Rattle.std.proofs.lemmas.Bool.{le-ltb, ltb-true, ltb-false, eqb-true}
use Rattle.dimacs_text.specs.Tokens.{is_digit, number_after, number, signed, literal_token}
use Rattle.dimacs_text.specs.Words.{first_digit, extended, word_after, token_of, number_of, is_begun, is_p}
use Rattle.dimacs_text.specs.Grammar.{Opening, OpensHeader, OpensParity, OpensClause, header_opening, opening}
use Rattle.dimacs_text.specs.declared.token.Word.{Word}
use Rattle.dimacs_text.specs.declared.token.Word.TheVariants.{Empty, Minus, Digits, Cnf, P, NoNumber}
use Rattle.dimacs_text.specs.declared.token.Token.TheVariants.{Literal, TooLarge, NoLiteral}
use Rattle.dimacs_text.proofs.Walks.{elim_true, elim_false}

-- the number that is held: the number itself, or both are too large
abbrev Holds : ℕ → ℕ → ℕ → Type 0
Holds vars n m = (m ≡ n) ⊎ ((vars < m) × (vars < n))

-- a number past the limit is too large
signed_large : (vars : ℕ) (negative : Bool) (n : ℕ) → vars < n → signed vars negative (Some n) ≡ TooLarge
unfolding signed
signed_large vars negative zero h = absurd (omega arith)
signed_large vars negative (suc v) h = elim_false (nat_lt v vars) (Literal (record { var = record { 0 = v }; negative = negative })) TooLarge (le-ltb v vars (omega arith))

-- what is no number stays so
word-bad : (vars : ℕ) (bs : List ℕ) → word_after vars NoNumber bs ≡ NoNumber
unfolding word_after extended
word-bad vars [] = refl
word-bad vars (b ∷ bs) = word-bad vars bs

-- one digit more
held_more : (vars n m d : ℕ) → Holds vars n m → Holds vars (n * 10 + d) (elim (nat_lt vars m) [ true ↦ m | false ↦ m * 10 + d ])
held_more vars n m d h = go (nat_lt vars m) refl h
  where
    go : (v : Bool) → nat_lt vars m ≡ v → Holds vars n m → Holds vars (n * 10 + d) (elim v [ true ↦ m | false ↦ m * 10 + d ])
    go true e (inl p) = let l = ltb-true vars m e in inr (l, omega arith)
    go true e (inr p) = let l = ltb-true vars m e in inr (l, omega (arith, p.1))
    go false e (inl p) = inl (ap (λ k. k * 10 + d) p)
    go false e (inr p) = let l = ltb-false vars m e in absurd (omega (arith, p.0))

-- digits, behind some that have come
digits-held : (vars : ℕ) (negative : Bool) (ds : List ℕ) (n m : ℕ) → Holds vars n m → signed vars negative (number_after n ds) ≡ token_of vars (word_after vars (Digits negative m) ds)
unfolding number_after word_after token_of
digits-held vars negative [] n m (inl p) = ap (λ k. signed vars negative (Some k)) (sym p)
digits-held vars negative [] n m (inr p) = signed_large vars negative n p.1 ∙ sym (signed_large vars negative m p.0)
digits-held vars negative (d ∷ ds) n m h = go (is_digit d) (unfold extended in refl) (digits-held vars negative ds (n * 10 + (d - 48)) _ (held_more vars n m (d - 48) h))
  where
    go : (v : Bool) → extended vars (Digits negative m) d ≡ elim v [ true ↦ Digits negative (elim (nat_lt vars m) [ true ↦ m | false ↦ m * 10 + (d - 48) ]) | false ↦ NoNumber ]
        → signed vars negative (number_after (n * 10 + (d - 48)) ds) ≡ token_of vars (word_after vars (Digits negative (elim (nat_lt vars m) [ true ↦ m | false ↦ m * 10 + (d - 48) ])) ds)
        → signed vars negative (elim v [ true ↦ number_after (n * 10 + (d - 48)) ds | false ↦ None ]) ≡ token_of vars (word_after vars (extended vars (Digits negative m) d) ds)
    go true e ih = ih ∙ ap (λ w. token_of vars (word_after vars w ds)) (sym e)
    go false e ih = unfold signed in (sym (ap (token_of vars) (word-bad vars ds)) ∙ ap (λ w. token_of vars (word_after vars w ds)) (sym e))

-- one or more digits
first-held : (vars : ℕ) (negative : Bool) (d : ℕ) (ds : List ℕ) → signed vars negative (number_after 0 (d ∷ ds)) ≡ token_of vars (word_after vars (first_digit negative d) ds)
unfolding number_after
first-held vars negative d ds = go (is_digit d)
  where
    go : (v : Bool) → signed vars negative (elim v [ true ↦ number_after (0 * 10 + (d - 48)) ds | false ↦ None ]) ≡ token_of vars (word_after vars (elim v [ true ↦ Digits negative (d - 48) | false ↦ NoNumber ]) ds)
    go true = digits-held vars negative ds (0 * 10 + (d - 48)) (d - 48) (inl (omega arith))
    go false = unfold signed token_of in sym (ap (token_of vars) (word-bad vars ds))

-- what stands behind a minus
number-held : (vars : ℕ) (ds : List ℕ) → signed vars true (number ds) ≡ token_of vars (word_after vars Minus ds)
unfolding number word_after
number-held vars [] = unfold signed token_of in refl
number-held vars (d ∷ ds) = first-held vars true d ds ∙ ap (λ w. token_of vars (word_after vars w ds)) (unfold extended in refl)

-- no part of a number
abbrev IsName : Word → Type 0
IsName Empty = ⊥
IsName Minus = ⊥
IsName (Digits negative v) = ⊥
IsName (Cnf count) = Unit {0}
IsName P = Unit {0}
IsName NoNumber = Unit {0}

-- a choice of two words that are no part of a number
name_elim : (v : Bool) (x y : Word) → IsName x → IsName y → IsName (elim v [ true ↦ x | false ↦ y ])
name_elim true x y h k = h
name_elim false x y h k = k

-- what is no part of a number stays so
name-extended : (vars : ℕ) (w : Word) (b : ℕ) → IsName w → IsName (extended vars w b)
unfolding extended
name-extended vars Empty b h = absurd h
name-extended vars Minus b h = absurd h
name-extended vars (Digits negative v) b h = absurd h
name-extended vars (Cnf count) b h =
    name_elim (nat_eq count 1) _ _ (name_elim (nat_eq b 110) (Cnf 2) NoNumber tt tt) (name_elim (nat_eq count 2) _ NoNumber (name_elim (nat_eq b 102) (Cnf 3) NoNumber tt tt) tt)
name-extended vars P b h = tt
name-extended vars NoNumber b h = tt

-- also over many bytes
name-after : (vars : ℕ) (bs : List ℕ) (w : Word) → IsName w → IsName (word_after vars w bs)
unfolding word_after
name-after vars [] w h = h
name-after vars (b ∷ bs) w h = name-after vars bs (extended vars w b) (name-extended vars w b h)

-- it is no literal
name-token : (vars : ℕ) (w : Word) → IsName w → token_of vars w ≡ NoLiteral
unfolding token_of
name-token vars Empty h = absurd h
name-token vars Minus h = absurd h
name-token vars (Digits negative v) h = absurd h
name-token vars (Cnf count) h = refl
name-token vars P h = refl
name-token vars NoNumber h = refl

-- and no number
name-number : (w : Word) → IsName w → number_of w ≡ None
name-number Empty h = absurd h
name-number Minus h = absurd h
name-number (Digits negative v) h = absurd h
name-number (Cnf count) h = refl
name-number P h = refl
name-number NoNumber h = refl

-- a byte that is no digit begins no number
no_number : (b : ℕ) (bs : List ℕ) → is_digit b ≡ false → number (b ∷ bs) ≡ None
unfolding number number_after
no_number b bs h = elim_false (is_digit b) (number_after (0 * 10 + (b - 48)) bs) None h

-- The token is judged by what is held of it.
pub literal_token-held : (vars b : ℕ) (bs : List ℕ) → literal_token vars (b ∷ bs) ≡ token_of vars (word_after vars Empty (b ∷ bs))
unfolding literal_token word_after extended
literal_token-held vars b bs = go (nat_eq b 45) (nat_eq b 112) (nat_eq b 99) refl refl
  where
    named : (w : Word) → IsName w → is_digit b ≡ false → signed vars false (number (b ∷ bs)) ≡ token_of vars (word_after vars w bs)
    named w h d = ap (signed vars false) (no_number b bs d) ∙ unfold signed in sym (name-token vars (word_after vars w bs) (name-after vars bs w h))

    go : (u v w : Bool) → nat_eq b 112 ≡ v → nat_eq b 99 ≡ w → elim u [ true ↦ signed vars true (number bs) | false ↦ signed vars false (number (b ∷ bs)) ]
        ≡ token_of vars (word_after vars (elim u [ true ↦ Minus | false ↦ elim v [ true ↦ P | false ↦ elim w [ true ↦ Cnf 1 | false ↦ first_digit false b ] ] ]) bs)
    go true v w e f = number-held vars bs
    go false true w e f = named P tt (ap is_digit (eqb-true b 112 e))
    go false false true e f = named (Cnf 1) tt (ap is_digit (eqb-true b 99 f))
    go false false false e f = unfold number in first-held vars false b bs

-- a number and the one that is held: neither is there, or they are the same, or both are too large
pub data IsHeld (vars : ℕ) : Option ℕ → Option ℕ → Type 0 where
  Neither : IsHeld vars None None
  Both : (n m : ℕ) → (m ≡ n) ⊎ ((vars < m) × (vars < n)) → IsHeld vars (Some n) (Some m)

-- digits, behind some that have come
digits-number : (vars : ℕ) (ds : List ℕ) (n m : ℕ) → Holds vars n m → IsHeld vars (number_after n ds) (number_of (word_after vars (Digits false m) ds))
unfolding number_after word_after
digits-number vars [] n m h = Both n m h
digits-number vars (d ∷ ds) n m h = go (is_digit d) (unfold extended in refl) (digits-number vars ds (n * 10 + (d - 48)) _ (held_more vars n m (d - 48) h))
  where
    go : (v : Bool) → extended vars (Digits false m) d ≡ elim v [ true ↦ Digits false (elim (nat_lt vars m) [ true ↦ m | false ↦ m * 10 + (d - 48) ]) | false ↦ NoNumber ]
        → IsHeld vars (number_after (n * 10 + (d - 48)) ds) (number_of (word_after vars (Digits false (elim (nat_lt vars m) [ true ↦ m | false ↦ m * 10 + (d - 48) ])) ds))
        → IsHeld vars (elim v [ true ↦ number_after (n * 10 + (d - 48)) ds | false ↦ None ]) (number_of (word_after vars (extended vars (Digits false m) d) ds))
    go true e ih = let F : Word → Type 0 = λ w. IsHeld vars (number_after (n * 10 + (d - 48)) ds) (number_of (word_after vars w ds)) in subst F (sym e) ih
    go false e ih =
        let F : Word → Type 0 = λ w. IsHeld vars None (number_of w) in
        let q : word_after vars (extended vars (Digits false m) d) ds ≡ NoNumber = ap (λ w. word_after vars w ds) e ∙ word-bad vars ds in
        subst F (sym q) Neither

-- what follows a minus is no number of digits alone
minus-number : (vars : ℕ) (ds : List ℕ) (m : ℕ) → number_of (word_after vars (Digits true m) ds) ≡ None
unfolding word_after
minus-number vars [] m = refl
minus-number vars (d ∷ ds) m = go (is_digit d) (unfold extended in refl) (minus-number vars ds _)
  where
    go : (v : Bool) → extended vars (Digits true m) d ≡ elim v [ true ↦ Digits true (elim (nat_lt vars m) [ true ↦ m | false ↦ m * 10 + (d - 48) ]) | false ↦ NoNumber ]
        → number_of (word_after vars (Digits true (elim (nat_lt vars m) [ true ↦ m | false ↦ m * 10 + (d - 48) ])) ds) ≡ None → number_of (word_after vars (extended vars (Digits true m) d) ds) ≡ None
    go true e ih = ap (λ w. number_of (word_after vars w ds)) e ∙ ih
    go false e ih = ap (λ w. number_of (word_after vars w ds)) e ∙ ap number_of (word-bad vars ds)

-- nor is a minus
minus-none : (vars : ℕ) (bs : List ℕ) → number_of (word_after vars Minus bs) ≡ None
unfolding word_after
minus-none vars [] = refl
minus-none vars (d ∷ ds) = go (is_digit d) (unfold extended in refl)
  where
    go : (v : Bool) → extended vars Minus d ≡ elim v [ true ↦ Digits true (d - 48) | false ↦ NoNumber ] → number_of (word_after vars (extended vars Minus d) ds) ≡ None
    go true e = ap (λ w. number_of (word_after vars w ds)) e ∙ minus-number vars ds (d - 48)
    go false e = ap (λ w. number_of (word_after vars w ds)) e ∙ ap number_of (word-bad vars ds)

-- A token's number is judged by what is held of it.
pub number-held-of : (vars b : ℕ) (bs : List ℕ) → IsHeld vars (number (b ∷ bs)) (number_of (word_after vars Empty (b ∷ bs)))
unfolding word_after extended
number-held-of vars b bs = go (nat_eq b 45) (nat_eq b 112) (nat_eq b 99) (is_digit b) refl refl refl refl
  where
    none : (w : Word) → is_digit b ≡ false → number_of (word_after vars w bs) ≡ None → IsHeld vars (number (b ∷ bs)) (number_of (word_after vars w bs))
    none w d e = rw (no_number b bs d, e) Neither

    digit : is_digit b ≡ true → IsHeld vars (number (b ∷ bs)) (number_of (word_after vars (Digits false (b - 48)) bs))
    digit d =
        let q : number (b ∷ bs) ≡ number_after (0 * 10 + (b - 48)) bs = unfold number number_after in elim_true (is_digit b) (number_after (0 * 10 + (b - 48)) bs) None d in
        rw q (digits-number vars bs (0 * 10 + (b - 48)) (b - 48) (inl (omega arith)))

    go : (u v w d : Bool) → nat_eq b 45 ≡ u → nat_eq b 112 ≡ v → nat_eq b 99 ≡ w → is_digit b ≡ d
        → IsHeld vars (number (b ∷ bs)) (number_of (word_after vars (elim u [ true ↦ Minus | false ↦ elim v [ true ↦ P | false ↦ elim w [ true ↦ Cnf 1 | false ↦ elim d [ true ↦ Digits false (b - 48) | false ↦ NoNumber ] ] ] ]) bs))
    go true v w d e f g h = none Minus (ap is_digit (eqb-true b 45 e)) (minus-none vars bs)
    go false true w d e f g h = none P (ap is_digit (eqb-true b 112 f)) (name-number _ (name-after vars bs P tt))
    go false false true d e f g h = none (Cnf 1) (ap is_digit (eqb-true b 99 g)) (name-number _ (name-after vars bs (Cnf 1) tt))
    go false false false true e f g h = digit h
    go false false false false e f g h = none NoNumber h (name-number _ (name-after vars bs NoNumber tt))

-- a word that has begun
abbrev pub IsBegun : Word → Type 0
IsBegun w = is_begun w ≡ true

-- a choice of two words that have begun
begun_elim : (v : Bool) (x y : Word) → IsBegun x → IsBegun y → IsBegun (elim v [ true ↦ x | false ↦ y ])
begun_elim true x y h k = h
begun_elim false x y h k = k

-- a word with a byte more has begun
pub extended-begun : (vars : ℕ) (word : Word) (b : ℕ) → IsBegun (extended vars word b)
unfolding extended
extended-begun vars Empty b =
    begun_elim (nat_eq b 45) Minus _ refl (begun_elim (nat_eq b 112) P _ refl (begun_elim (nat_eq b 99) (Cnf 1) (first_digit false b) refl (begun_elim (is_digit b) (Digits false (b - 48)) NoNumber refl refl)))
extended-begun vars Minus b = begun_elim (is_digit b) (Digits true (b - 48)) NoNumber refl refl
extended-begun vars (Digits negative v) b = begun_elim (is_digit b) (Digits negative _) NoNumber refl refl
extended-begun vars (Cnf count) b =
    begun_elim (nat_eq count 1) _ _ (begun_elim (nat_eq b 110) (Cnf 2) NoNumber refl refl) (begun_elim (nat_eq count 2) _ NoNumber (begun_elim (nat_eq b 102) (Cnf 3) NoNumber refl refl) refl)
extended-begun vars P b = refl
extended-begun vars NoNumber b = refl

-- a word that has begun stays so
pub word_after-begun : (vars : ℕ) (w : List ℕ) (word : Word) → IsBegun word → IsBegun (word_after vars word w)
unfolding word_after
word_after-begun vars [] word h = h
word_after-begun vars (b ∷ w) word h = word_after-begun vars w (extended vars word b) (extended-begun vars word b)

-- one byte more
pub word_after-push : (vars : ℕ) (word : Word) (w : List ℕ) (b : ℕ) → word_after vars word (w ++ b ∷ []) ≡ extended vars (word_after vars word w) b
unfolding word_after
word_after-push vars word [] b = refl
word_after-push vars word (x ∷ w) b = word_after-push vars (extended vars word x) w b

-- no word that has begun becomes `p`
not_p-extended : (vars : ℕ) (w : Word) (b : ℕ) → IsBegun w → is_p (extended vars w b) ≡ false
unfolding extended
not_p-extended vars Empty b h = cc
not_p-extended vars Minus b h = elim (is_digit b) as (λ v. is_p (elim v [ true ↦ Digits true (b - 48) | false ↦ NoNumber ]) ≡ false) [ true ↦ refl | false ↦ refl ]
not_p-extended vars (Digits negative v) b h = go (is_digit b) _
  where
    go : (u : Bool) (n : ℕ) → is_p (elim u [ true ↦ Digits negative n | false ↦ NoNumber ]) ≡ false
    go true n = refl
    go false n = refl
not_p-extended vars (Cnf count) b h = go (nat_eq count 1) (nat_eq count 2) (nat_eq b 110) (nat_eq b 102)
  where
    go : (u v x y : Bool) → is_p (elim u [ true ↦ elim x [ true ↦ Cnf 2 | false ↦ NoNumber ] | false ↦ elim v [ true ↦ elim y [ true ↦ Cnf 3 | false ↦ NoNumber ] | false ↦ NoNumber ] ]) ≡ false
    go true v true y = refl
    go true v false y = refl
    go false true x true = refl
    go false true x false = refl
    go false false x y = refl
not_p-extended vars P b h = refl
not_p-extended vars NoNumber b h = refl

-- a word that has begun as another stays another than `p`
not_p-after : (vars : ℕ) (bs : List ℕ) (w : Word) → IsBegun w → is_p w ≡ false → is_p (word_after vars w bs) ≡ false
unfolding word_after
not_p-after vars [] w h k = k
not_p-after vars (b ∷ bs) w h k = not_p-after vars bs (extended vars w b) (extended-begun vars w b) (not_p-extended vars w b h)

-- What a token opens that begins with no `x` is told by what is held of it.
pub opening-held : (vars b : ℕ) (bs : List ℕ) → nat_eq b 120 ≡ false → ◌≡◌ {A = Opening} (opening (b ∷ bs)) (elim (is_p (word_after vars Empty (b ∷ bs))) [ true ↦ OpensHeader | false ↦ OpensClause ])
unfolding opening word_after extended
opening-held vars b bs h = elim_false (nat_eq b 120) (OpensParity bs) _ h ∙ go (nat_eq b 45) (nat_eq b 112) (nat_eq b 99) (is_digit b) refl refl bs
  where
    clause : (w : Word) (cs : List ℕ) → IsBegun w → is_p w ≡ false → ◌≡◌ {A = Opening} OpensClause (elim (is_p (word_after vars w cs)) [ true ↦ OpensHeader | false ↦ OpensClause ])
    clause w cs k p = sym (elim_false (is_p (word_after vars w cs)) OpensHeader OpensClause (not_p-after vars cs w k p))

    go : (u v x d : Bool) → nat_eq b 45 ≡ u → nat_eq b 112 ≡ v → (cs : List ℕ) → ◌≡◌ {A = Opening} (elim v [ true ↦ header_opening cs | false ↦ OpensClause ])
        (elim (is_p (word_after vars (elim u [ true ↦ Minus | false ↦ elim v [ true ↦ P | false ↦ elim x [ true ↦ Cnf 1 | false ↦ elim d [ true ↦ Digits false (b - 48) | false ↦ NoNumber ] ] ] ]) cs)) [ true ↦ OpensHeader | false ↦ OpensClause ])
    go true true x d e f cs = absurd (let p = eqb-true b 45 e in let q = eqb-true b 112 f in omega arith)
    go true false x d e f cs = clause Minus cs refl refl
    go false true x d e f [] = refl
    go false true x d e f (c ∷ cs) = clause NoNumber cs refl refl
    go false false true d e f cs = clause (Cnf 1) cs refl refl
    go false false false true e f cs = clause (Digits false (b - 48)) cs refl refl
    go false false false false e f cs = clause NoNumber cs refl refl
