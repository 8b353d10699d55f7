-- Which literals stand in a clause that entries are put into.
use Rattle.std.proofs.Common.{◌≡◌, ℕ, ◌==◌, Bool, true, false, cond, not, ◌&&◌, List, [], ◌∷◌, ◌++◌, Option, Some, None, fold, refl, sym, ap, ap₂, ◌∙◌, ⊎_elim}
use Rattle.std.proofs.lemmas.Bool.{and_parts, and_from, or_cases, or_left, or_right, not-true, false≢true, eqb-true, eq-eqb}
use Rattle.std.proofs.lemmas.List.Folds.{list_all-append, list_any-append}
use Rattle.std.specs.Bool.{beq}
use Rattle.std.specs.List.{list_any, list_all}
use Rattle.sat_lits.specs.Truth.{signed}
use Rattle.sat_lits.specs.ClauseLaws.{beq_true}
use Rattle.sat_lits.specs.declared.literal.OwnLit.{OwnLit}
use Rattle.rebuild_stack.specs.Roots.{turned}
use Rattle.rebuild_stack.specs.PutIn.{same_lit, add_lit, add_to, add_root, put_in, is_clean, option_clean}
use Rattle.rebuild_stack.specs.PutInLaws.{put_in_clean}
use Rattle.rebuild_stack.specs.declared.entry.Root.{Root}
use Rattle.rebuild_stack.specs.declared.entry.Root.TheVariants.{Known, Last, Lost}

-- whether what a literal came to is no true value, and the literal that is left, if there is one, passes
abbrev pub root_fits : (OwnLit → Bool) → Root → Bool
root_fits p (Known x) = not x
root_fits p (Last l) = p l
root_fits p (Lost v) = true

-- whether something is left of a clause, and its literals pass
abbrev pub left_passes : (OwnLit → Bool) → Option (List OwnLit) → Bool
left_passes p None = false
left_passes p (Some c) = list_all p c

-- literals that the test calls the same are
pub same_is : (k l : OwnLit) → same_lit k l ≡ true → k ≡ l
same_is k l e =
    let p : ((k.var.0 == l.var.0) ≡ true) × (beq k.negative l.negative ≡ true) = and_parts _ _ e in
    ap₂ (λ (n : ℕ) (b : Bool). let z : OwnLit = record { var = record { 0 = n }; negative = b } in z) (eqb-true _ _ p.0) (beq_true _ _ p.1)

beq_refl : (b : Bool) → beq b b ≡ true
beq_refl true = refl
beq_refl false = refl

-- a literal is the same as itself
pub same_refl : (l : OwnLit) → same_lit l l ≡ true
same_refl l = and_from _ _ (eq-eqb l.var.0 l.var.0 refl) (beq_refl l.negative)

-- a literal that stands in a clause passes what all its literals pass
pub stands_passes : (p : OwnLit → Bool) (k : OwnLit) (c : List OwnLit) → list_any (same_lit k) c ≡ true → list_all p c ≡ true → p k ≡ true
stands_passes p k [] e f = absurd (false≢true e)
stands_passes p k (l ∷ c) e f =
    let a : (p l ≡ true) × (list_all p c ≡ true) = and_parts _ _ f in
    ⊎_elim (λ h. ap p (same_is k l h) ∙ a.0) (λ h. stands_passes p k c h a.1) (or_cases _ _ e)

-- no literal passes beside its negation
abbrev pub IsConsistent : (OwnLit → Bool) → Type 0
IsConsistent p = (k : OwnLit) → p k ≡ true → p (turned true k) ≡ true → ⊥

add_lit_left : (p : OwnLit → Bool) → IsConsistent p → (k : OwnLit) (c : List OwnLit) → p k ≡ true → list_all p c ≡ true → left_passes p (add_lit k c) ≡ true
add_lit_left p h k c e f = go (list_any (same_lit (turned true k)) c) (list_any (same_lit k) c) refl
  where
    go : (a b : Bool) → list_any (same_lit (turned true k)) c ≡ a → left_passes p (cond a None (cond b (Some c) (Some (c ++ k ∷ [])))) ≡ true
    go true b g = absurd (h k e (stands_passes p (turned true k) c g f))
    go false true g = f
    go false false g = list_all-append p c (k ∷ []) ∙ and_from _ _ f (and_from _ _ e refl)

add_root_left : (p : OwnLit → Bool) → IsConsistent p → (r : Root) (o : Option (List OwnLit)) → root_fits p r ≡ true → left_passes p o ≡ true → left_passes p (add_root r o) ≡ true
add_root_left p h (Known true) o e f = absurd (false≢true e)
add_root_left p h (Known false) o e f = f
add_root_left p h (Last k) None e f = absurd (false≢true f)
add_root_left p h (Last k) (Some c) e f = add_lit_left p h k c e f
add_root_left p h (Lost v) o e f = f

put_in_left_from : {L : Type 0} (p : OwnLit → Bool) → IsConsistent p → (r : L → Root) (o : Option (List OwnLit)) (c : List L) → left_passes p o ≡ true → list_all (λ l. root_fits p (r l)) c ≡ true → left_passes p (fold (λ b l. add_root (r l) b) o c) ≡ true
put_in_left_from p h r o [] f e = f
put_in_left_from p h r o (l ∷ c) f e =
    let a : (root_fits p (r l) ≡ true) × (list_all (λ k. root_fits p (r k)) c ≡ true) = and_parts _ _ e in
    put_in_left_from p h r (add_root (r l) o) c (add_root_left p h (r l) o a.0 f) a.1

-- where the literals of a clause fit a test that no two opposite ones pass, something is left of it, and its literals pass
pub put_in_left : {L : Type 0} (p : OwnLit → Bool) → IsConsistent p → (r : L → Root) (c : List L) → list_all (λ l. root_fits p (r l)) c ≡ true → left_passes p (put_in r c) ≡ true
put_in_left p h r c e = put_in_left_from p h r (Some []) c refl e

-- whether a literal stands in what is left of a clause
abbrev pub stands_in : OwnLit → Option (List OwnLit) → Bool
stands_in k None = true
stands_in k (Some c) = list_any (same_lit k) c

add_root_none : (r : Root) → add_root r None ≡ None
add_root_none (Known true) = refl
add_root_none (Known false) = refl
add_root_none (Last k) = refl
add_root_none (Lost v) = refl

put_in_none : {L : Type 0} (r : L → Root) (c : List L) → fold (λ b l. add_root (r l) b) None c ≡ None
put_in_none r [] = refl
put_in_none r (l ∷ c) = ap (λ o. fold (λ b k. add_root (r k) b) o c) (add_root_none (r l)) ∙ put_in_none r c

add_lit_keeps : (k j : OwnLit) (c : List OwnLit) → list_any (same_lit j) c ≡ true → stands_in j (add_lit k c) ≡ true
add_lit_keeps k j c e = go (list_any (same_lit (turned true k)) c) (list_any (same_lit k) c)
  where
    go : (a b : Bool) → stands_in j (cond a None (cond b (Some c) (Some (c ++ k ∷ [])))) ≡ true
    go true b = refl
    go false true = e
    go false false = list_any-append (same_lit j) c (k ∷ []) ∙ or_left _ _ e

add_root_keeps : (r : Root) (j : OwnLit) (o : Option (List OwnLit)) → stands_in j o ≡ true → stands_in j (add_root r o) ≡ true
add_root_keeps (Known true) j o e = refl
add_root_keeps (Known false) j o e = e
add_root_keeps (Last k) j None e = refl
add_root_keeps (Last k) j (Some c) e = add_lit_keeps k j c e
add_root_keeps (Lost v) j o e = e

fold_keeps : {L : Type 0} (r : L → Root) (j : OwnLit) (o : Option (List OwnLit)) (c : List L) → stands_in j o ≡ true → stands_in j (fold (λ b l. add_root (r l) b) o c) ≡ true
fold_keeps r j o [] e = e
fold_keeps r j o (l ∷ c) e = fold_keeps r j (add_root (r l) o) c (add_root_keeps (r l) j o e)

add_lit_stands : (k : OwnLit) (c : List OwnLit) → stands_in k (add_lit k c) ≡ true
add_lit_stands k c = go (list_any (same_lit (turned true k)) c) (list_any (same_lit k) c) refl
  where
    go : (a b : Bool) → list_any (same_lit k) c ≡ b → stands_in k (cond a None (cond b (Some c) (Some (c ++ k ∷ [])))) ≡ true
    go true b e = refl
    go false true e = e
    go false false e = list_any-append (same_lit k) c (k ∷ []) ∙ or_right _ _ (or_left _ _ (same_refl k))

add_to_stands : (k : OwnLit) (o : Option (List OwnLit)) → stands_in k (add_to k o) ≡ true
add_to_stands k None = refl
add_to_stands k (Some c) = add_lit_stands k c

some_none : {d : List OwnLit} (o : Option (List OwnLit)) → o ≡ Some d → o ≡ None → ⊥
some_none o e f = cc

-- each literal of a clause of which something is left fits in that
fits_one : {L : Type 0} (r : L → Root) (d : List OwnLit) (k : Root) (o : Option (List OwnLit)) (c : List L) → fold (λ b l. add_root (r l) b) (add_root k o) c ≡ Some d → root_fits (λ j. list_any (same_lit j) d) k ≡ true
fits_one r d (Known true) o c e = absurd (some_none (fold (λ b l. add_root (r l) b) None c) e (put_in_none r c))
fits_one r d (Known false) o c e = refl
fits_one r d (Last j) o c e = sym (ap (stands_in j) e) ∙ fold_keeps r j (add_to j o) c (add_to_stands j o)
fits_one r d (Lost v) o c e = refl

fits_from : {L : Type 0} (r : L → Root) (d : List OwnLit) (o : Option (List OwnLit)) (c : List L) → fold (λ b l. add_root (r l) b) o c ≡ Some d → list_all (λ l. root_fits (λ j. list_any (same_lit j) d) (r l)) c ≡ true
fits_from r d o [] e = refl
fits_from r d o (l ∷ c) e = and_from _ _ (fits_one r d (r l) o c e) (fits_from r d (add_root (r l) o) c e)

-- each literal of a clause comes to one that stands in what is left of it, or to a false value
pub put_in_fits : {L : Type 0} (r : L → Root) (c : List L) (d : List OwnLit) → put_in r c ≡ Some d → list_all (λ l. root_fits (λ j. list_any (same_lit j) d) (r l)) c ≡ true
put_in_fits r c d e = fits_from r d (Some []) c e

turned_var : (k : OwnLit) → turned true (turned true k) ≡ k
turned_var k = ap (λ (b : Bool). let z : OwnLit = record { var = k.var; negative = b } in z) (go k.negative)
  where
    go : (b : Bool) → signed true (signed true b) ≡ b
    go true = refl
    go false = refl

clean_apart : (k : OwnLit) (c : List OwnLit) → is_clean c ≡ true → list_any (same_lit k) c ≡ true → list_any (same_lit (turned true k)) c ≡ true → ⊥
clean_apart k [] h e f = false≢true e
clean_apart k (l ∷ c) h e f =
    let a : ((not (list_any (same_lit l) c) && not (list_any (same_lit (turned true l)) c)) ≡ true) × (is_clean c ≡ true) = and_parts _ _ h in
    let b : (not (list_any (same_lit l) c) ≡ true) × (not (list_any (same_lit (turned true l)) c) ≡ true) = and_parts _ _ a.0 in
    ⊎_elim
    (λ (g : same_lit k l ≡ true). ⊎_elim
    (λ (i : same_lit (turned true k) l ≡ true). differ k.negative (and_parts _ _ g).1 (and_parts _ _ i).1)
    (λ (i : list_any (same_lit (turned true k)) c ≡ true). false≢true (sym (not-true _ b.1) ∙ (ap (λ (z : OwnLit). list_any (same_lit (turned true z)) c) (sym (same_is k l g)) ∙ i)))
    (or_cases _ _ f))
    (λ (g : list_any (same_lit k) c ≡ true). ⊎_elim
    (λ (i : same_lit (turned true k) l ≡ true). false≢true (sym (not-true _ b.1) ∙ (ap (λ (z : OwnLit). list_any (same_lit (turned true z)) c) (sym (same_is (turned true k) l i)) ∙ (ap (λ (z : OwnLit). list_any (same_lit z) c) (turned_var k) ∙ g))))
    (λ (i : list_any (same_lit (turned true k)) c ≡ true). clean_apart k c a.1 g i)
    (or_cases _ _ f))
    (or_cases _ _ e)
  where
    differ : (x : Bool) → beq x l.negative ≡ true → beq (signed true x) l.negative ≡ true → ⊥
    differ x p q = go x l.negative p q
      where
        go : (x y : Bool) → beq x y ≡ true → beq (signed true x) y ≡ true → ⊥
        go true true p q = false≢true q
        go true false p q = false≢true p
        go false true p q = false≢true p
        go false false p q = false≢true q

-- no literal stands beside its negation in a clean clause
pub clean_consistent : (d : List OwnLit) → is_clean d ≡ true → IsConsistent (λ k. list_any (same_lit k) d)
clean_consistent d h k e f = clean_apart k d h e f

-- what is left of a clause is clean
pub left_clean : {L : Type 0} (r : L → Root) (c : List L) (d : List OwnLit) → put_in r c ≡ Some d → is_clean d ≡ true
left_clean r c d e = sym (ap option_clean e) ∙ put_in_clean r c
