-- Counting marked literals tells whether a clause has all literals of another.
use Rattle.std.proofs.Common.{◌≡◌, ℕ, suc, ◌+◌, ◌*◌, ◌<◌, ◌≤◌, ◌==◌, Bool, true, false, cond, not, ◌||◌, ◌&&◌, leb, List, [], ◌∷◌, ◌++◌, refl, sym, ap, ap₂, subst, ◌∙◌, arith, length, take, get_or, filter, count_by, eqb-true, eq-eqb, ne_eqb, nat_eq}
use Rattle.std.proofs.lemmas.Bool.{and_parts, and_from, eqb-false, false≢true, leb-false}
use Rattle.std.proofs.lemmas.List.Sums.{length-filter, count_by-le-length}
use Rattle.std.proofs.lemmas.Grind.{take_at_read}
use Rattle.std.specs.Bool.{beq}
use Rattle.std.specs.HashSet.{contains}
use Rattle.std.specs.List.{list_all, list_any}
use Rattle.sat_lits.specs.InLits.{same_lit, is_distinct}
use Rattle.sat_lits.specs.declared.literal.InLit.{InLit}
use Rattle.var_elim.specs.Marks.{Marks, TellsLits, code}
use Rattle.var_elim.specs.Subsumption.{is_within}

-- literals that are one are equal
pub same_is : (k l : InLit) → same_lit k l ≡ true → k ≡ l
same_is k l t =
    let p : ((k.var.0 == l.var.0) ≡ true) × (beq k.negative l.negative ≡ true) = and_parts _ _ t in
    ap₂ {C = InLit} (λ (n : ℕ) (b : Bool). record { var = record { 0 = n }; negative = b }) (eqb-true _ _ p.0) (beq_true k.negative l.negative p.1)
  where
    beq_true : (x y : Bool) → beq x y ≡ true → x ≡ y
    beq_true true true e = refl
    beq_true true false e = absurd (false≢true e)
    beq_true false true e = absurd (false≢true e)
    beq_true false false e = refl

-- a literal is one with itself
pub same_self : (k : InLit) → same_lit k k ≡ true
same_self k = and_from _ _ (eq-eqb k.var.0 k.var.0 refl) (both k.negative)
  where
    both : (b : Bool) → beq b b ≡ true
    both true = refl
    both false = refl

-- whether literals are one does not turn on their order
same_back : (k l : InLit) → same_lit k l ≡ same_lit l k
same_back k l = go (same_lit k l) refl (same_lit l k) refl
  where
    go : (a : Bool) → same_lit k l ≡ a → (b : Bool) → same_lit l k ≡ b → a ≡ b
    go true e true f = refl
    go true e false f = sym (subst (λ z. same_lit z k ≡ true) (same_is k l e) (same_self k)) ∙ f
    go false e true f = sym e ∙ subst (λ z. same_lit z l ≡ true) (same_is l k f) (same_self l)
    go false e false f = refl

-- literals are one where their numbers are
code_same : (k l : InLit) → (code k == code l) ≡ same_lit k l
code_same k l = go k.var.0 l.var.0 k.negative l.negative (k.var.0 == l.var.0) refl
  where
    go : (a b : ℕ) (p q e : Bool) → (a == b) ≡ e → (2 * a + cond p 1 0 == 2 * b + cond q 1 0) ≡ (e && beq p q)
    go a b true true true e = eq-eqb _ _ (ap (λ n. 2 * n + 1) (eqb-true a b e))
    go a b true true false e = ne_eqb _ _ (λ z. eqb-false a b e (omega arith))
    go a b true false true e = ne_eqb _ _ (λ z. absurd (omega arith))
    go a b true false false e = ne_eqb _ _ (λ z. absurd (omega arith))
    go a b false true true e = ne_eqb _ _ (λ z. absurd (omega arith))
    go a b false true false e = ne_eqb _ _ (λ z. absurd (omega arith))
    go a b false false true e = eq-eqb _ _ (ap (λ n. 2 * n + 0) (eqb-true a b e))
    go a b false false false e = ne_eqb _ _ (λ z. eqb-false a b e (omega arith))

any_push : {X : Type 0} (p : X → Bool) (xs : List X) (x : X) → list_any p (xs ++ x ∷ []) ≡ cond (p x) true (list_any p xs)
any_push p [] x = go (p x)
  where
    go : (b : Bool) → (b || false) ≡ cond b true false
    go true = refl
    go false = refl
any_push p (y ∷ xs) x = go (p y) (p x) (any_push p xs x)
  where
    go : (a b : Bool) → list_any p (xs ++ x ∷ []) ≡ cond b true (list_any p xs) → (a || list_any p (xs ++ x ∷ [])) ≡ cond b true (a || list_any p xs)
    go true true e = refl
    go true false e = refl
    go false b e = e

-- one literal more is marked
pub tells_more : (olds news : Marks) (lits : List InLit) (i : ℕ) (d x : InLit) → i < length lits → x ≡ get_or lits i d → TellsLits olds (take i lits) → ((q : ℕ) → contains nat_eq news q ≡ cond (code x == q) true (contains nat_eq olds q)) → TellsLits news (take (i + 1) lits)
tells_more olds news lits i d x l e t u =
    record {
      each = λ k.
          ap (list_any (same_lit k)) ((take_at_read lits i d l).1)
          ∙ (any_push (same_lit k) (take i lits) (get_or lits i d)
          ∙ (ap (λ (z : InLit). cond (same_lit k z) true (list_any (same_lit k) (take i lits))) (sym e)
          ∙ (ap₂ {C = Bool} (λ a b. cond a true b) (same_back k x ∙ sym (code_same x k)) (t.each k) ∙ sym (u (code k)))));
    }

pub tells_none : (marks : Marks) → marks.keys ≡ [] → TellsLits marks []
tells_none marks e = record { each = λ k. sym (ap (list_any (nat_eq (code k))) e) }

-- elements that pass the same test are as many
size_same : {X : Type 0} (p q : X → Bool) → ((x : X) → p x ≡ q x) → (xs : List X) → length (filter p xs) ≡ length (filter q xs)
size_same p q h [] = refl
size_same p q h (x ∷ xs) = both (p x) (q x) (h x) (size_same p q h xs)
  where
    both : (b c : Bool) → b ≡ c → length (filter p xs) ≡ length (filter q xs) → length (cond b (x ∷ filter p xs) (filter p xs)) ≡ length (cond c (x ∷ filter q xs) (filter q xs))
    both true true e r = ap suc r
    both true false e r = absurd (false≢true (sym e))
    both false true e r = absurd (false≢true e)
    both false false e r = r

-- a literal stands once where it stands, and no literal stands twice
once : (k : InLit) (lits : List InLit) → is_distinct lits ≡ true → length (filter (λ l. same_lit l k) lits) ≡ cond (list_any (same_lit k) lits) 1 0
once k [] d = refl
once k (l ∷ lits) d =
    let p : (not (list_any (same_lit l) lits) ≡ true) × (is_distinct lits ≡ true) = and_parts _ _ d in
    go (same_lit l k) refl (once k lits p.1) p.0
  where
    go : (b : Bool) → same_lit l k ≡ b → length (filter (λ m. same_lit m k) lits) ≡ cond (list_any (same_lit k) lits) 1 0 → not (list_any (same_lit l) lits) ≡ true
        → length (cond b (l ∷ filter (λ m. same_lit m k) lits) (filter (λ m. same_lit m k) lits)) ≡ cond (same_lit k l || list_any (same_lit k) lits) 1 0
    go true e h n =
        ap suc (h ∙ ap (λ b. cond {A = ℕ} b 1 0) (absent (list_any (same_lit k) lits) (subst (λ z. not (list_any (same_lit z) lits) ≡ true) (same_is l k e) n)))
        ∙ sym (ap (λ b. cond {A = ℕ} (b || list_any (same_lit k) lits) 1 0) (same_back k l ∙ e))
      where
        absent : (b : Bool) → not b ≡ true → b ≡ false
        absent true q = absurd (false≢true q)
        absent false q = refl
    go false e h n = h ∙ sym (ap (λ b. cond {A = ℕ} (b || list_any (same_lit k) lits) 1 0) (same_back k l ∙ e))

-- the literals of a clause that stand in another are those of its first literal, and those of the others
apart : (k : InLit) (ks lits : List InLit) → list_any (same_lit k) ks ≡ false
    → length (filter (λ l. list_any (same_lit l) (k ∷ ks)) lits) ≡ length (filter (λ l. same_lit l k) lits) + length (filter (λ l. list_any (same_lit l) ks) lits)
apart k ks [] n = refl
apart k ks (l ∷ lits) n = go (same_lit l k) refl (list_any (same_lit l) ks) refl (apart k ks lits n)
  where
    go : (a : Bool) → same_lit l k ≡ a → (b : Bool) → list_any (same_lit l) ks ≡ b
        → length (filter (λ m. list_any (same_lit m) (k ∷ ks)) lits) ≡ length (filter (λ m. same_lit m k) lits) + length (filter (λ m. list_any (same_lit m) ks) lits)
        → length (cond (a || b) (l ∷ filter (λ m. list_any (same_lit m) (k ∷ ks)) lits) (filter (λ m. list_any (same_lit m) (k ∷ ks)) lits))
        ≡ length (cond a (l ∷ filter (λ m. same_lit m k) lits) (filter (λ m. same_lit m k) lits)) + length (cond b (l ∷ filter (λ m. list_any (same_lit m) ks) lits) (filter (λ m. list_any (same_lit m) ks) lits))
    go true e true f h = absurd (false≢true (sym n ∙ subst (λ z. list_any (same_lit z) ks ≡ true) (same_is l k e) f))
    go true e false f h = omega (arith, h)
    go false e true f h = omega (arith, h)
    go false e false f h = h

-- as many literals of one clause stand in another as the other way round
swap : (inner outer : List InLit) → is_distinct inner ≡ true → is_distinct outer ≡ true → length (filter (λ l. list_any (same_lit l) inner) outer) ≡ length (filter (λ k. list_any (same_lit k) outer) inner)
swap [] outer d e = none outer
  where
    none : (lits : List InLit) → length (filter (λ l. list_any (same_lit l) []) lits) ≡ 0
    none [] = refl
    none (l ∷ lits) = none lits
swap (k ∷ ks) outer d e =
    let p : (not (list_any (same_lit k) ks) ≡ true) × (is_distinct ks ≡ true) = and_parts _ _ d in
    apart k ks outer (absent (list_any (same_lit k) ks) p.0)
    ∙ (ap₂ {C = ℕ} (λ x y. x + y) (once k outer e) (swap ks outer p.1 e) ∙ out (list_any (same_lit k) outer))
  where
    absent : (b : Bool) → not b ≡ true → b ≡ false
    absent true q = absurd (false≢true q)
    absent false q = refl

    out : (b : Bool) → cond {A = ℕ} b 1 0 + length (filter (λ m. list_any (same_lit m) outer) ks) ≡ length (cond b (k ∷ filter (λ m. list_any (same_lit m) outer) ks) (filter (λ m. list_any (same_lit m) outer) ks))
    out true = omega arith
    out false = omega arith

-- all pass where as many pass as there are
full : {X : Type 0} (p : X → Bool) (xs : List X) → (length (filter p xs) == length xs) ≡ list_all p xs
full p [] = refl
full p (x ∷ xs) = go (p x) (full p xs) (subst (λ n. n ≤ length xs) (sym (length-filter p xs)) (count_by-le-length p xs))
  where
    go : (b : Bool) → (length (filter p xs) == length xs) ≡ list_all p xs → length (filter p xs) ≤ length xs → (length (cond b (x ∷ filter p xs) (filter p xs)) == suc (length xs)) ≡ (b && list_all p xs)
    go true h l = more (length (filter p xs) == length xs) refl ∙ h
      where
        more : (b : Bool) → (length (filter p xs) == length xs) ≡ b → (suc (length (filter p xs)) == suc (length xs)) ≡ (length (filter p xs) == length xs)
        more true e = eq-eqb _ _ (ap suc (eqb-true _ _ e)) ∙ sym e
        more false e = ne_eqb _ _ (λ z. eqb-false _ _ e (omega (arith, z))) ∙ sym e
    go false h l = ne_eqb _ _ (λ z. absurd (omega (arith, l, z)))

-- a clause with all literals of another is as long at least, and has as many marked ones
pub marked_within : (marks : Marks) (len : ℕ) (inner outer : List InLit) → is_distinct inner ≡ true → is_distinct outer ≡ true → TellsLits marks inner → len ≡ length inner
    → (leb len (length outer) && (count_by (λ l. contains nat_eq marks (code l)) outer == len)) ≡ is_within inner outer
marked_within marks len inner outer d e t f = go (leb len (length outer)) refl
  where
    sizes : count_by (λ l. contains nat_eq marks (code l)) outer ≡ length (filter (λ k. list_any (same_lit k) outer) inner)
    sizes = sym (length-filter (λ l. contains nat_eq marks (code l)) outer) ∙ (size_same (λ l. contains nat_eq marks (code l)) (λ l. list_any (same_lit l) inner) (λ l. sym (t.each l)) outer ∙ swap inner outer d e)

    within : (count_by (λ l. contains nat_eq marks (code l)) outer == len) ≡ is_within inner outer
    within = ap₂ {C = Bool} (λ (x y : ℕ). x == y) sizes f ∙ full (λ k. list_any (same_lit k) outer) inner

    go : (b : Bool) → leb len (length outer) ≡ b → (b && (count_by (λ l. contains nat_eq marks (code l)) outer == len)) ≡ is_within inner outer
    go true g = within
    go false g =
        let short : length outer < len = leb-false len (length outer) g in
        let few : count_by (λ l. contains nat_eq marks (code l)) outer ≤ length outer = count_by-le-length (λ l. contains nat_eq marks (code l)) outer in
        sym (ne_eqb (count_by (λ l. contains nat_eq marks (code l)) outer) len (λ z. absurd (omega (arith, short, few, z)))) ∙ within
