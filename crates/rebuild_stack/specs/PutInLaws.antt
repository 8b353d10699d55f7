-- A clause that entries are put into keeps its value, and has no repeats.
use Rattle.std.proofs.Common.{◌≡◌, ℕ, ◌==◌, Bool, true, false, cond, not, eqb, ◌&&◌, ◌||◌, List, [], ◌∷◌, ◌++◌, Option, Some, None, fold, refl, sym, ap, ap₂, ◌∙◌, ⊎_elim, eqb-true, eq-eqb, ne_eqb}
use Rattle.std.proofs.lemmas.Bool.{and_parts, and_from, or_cases, or_parts, not-true, eqb-false, false≢true}
use Rattle.std.proofs.lemmas.List.Folds.{list_all-append, list_any-append}
use Rattle.std.specs.Bool.{beq}
use Rattle.std.specs.List.{list_any, list_all, cons_option}
use Rattle.sat_lits.specs.Truth.{signed, clause_value, clauses_value}
use Rattle.sat_lits.specs.declared.literal.OwnLit.{OwnLit}
use Rattle.sat_lits.specs.ClauseLaws.{beq_true}
use Rattle.rebuild_stack.specs.Values.{own_value, each_lit}
use Rattle.rebuild_stack.specs.Roots.{turned, root_value, root_passes}
use Rattle.rebuild_stack.specs.PutIn.{same_lit, add_lit, add_root, put_in, put_in_all, option_value, option_passes, is_clean, option_clean}
use Rattle.rebuild_stack.specs.CommonLaws.{or_true, or_false, or_comm, or_assoc}
use Rattle.rebuild_stack.specs.RootLaws.{turned_value}
use Rattle.rebuild_stack.specs.declared.entry.Root.{Root}
use Rattle.rebuild_stack.specs.declared.entry.Root.TheVariants.{Known, Last, Lost}

-- literals that are the same have one value
pub same_lit_value : (w : ℕ → Bool) (k l : OwnLit) → same_lit k l ≡ true → own_value w k ≡ own_value w l
same_lit_value w k l e =
    let p : ((k.var.0 == l.var.0) ≡ true) × (beq k.negative l.negative ≡ true) = and_parts _ _ e in
    ap₂ signed (beq_true _ _ p.1) (ap w (eqb-true _ _ p.0))

or_again : (a c : Bool) → (a || c) ≡ (a || (a || c))
or_again true c = refl
or_again false c = refl

or_within : (m o c : Bool) → c ≡ (m || c) → (o || c) ≡ (m || (o || c))
or_within m true c e = sym (or_true m)
or_within m false c e = e

or_both : (a c : Bool) → c ≡ (not a || c) → true ≡ (c || a)
or_both true c e = sym (or_true c)
or_both false true e = refl
or_both false false e = sym e

-- a literal that stands in the clause adds nothing
any_same : (w : ℕ → Bool) (m : OwnLit) (c : List OwnLit) → list_any (same_lit m) c ≡ true → clause_value (own_value w) c ≡ (own_value w m || clause_value (own_value w) c)
any_same w m [] e = absurd (false≢true e)
any_same w m (l ∷ c) e =
    ⊎_elim
    (λ h. rw (same_lit_value w m l h) (or_again (own_value w l) (clause_value (own_value w) c)))
    (λ h. or_within (own_value w m) (own_value w l) (clause_value (own_value w) c) (any_same w m c h))
    (or_cases _ _ e)

-- a clause with one more literal is true where the clause or the literal is
pub add_lit_value : (w : ℕ → Bool) (k : OwnLit) (c : List OwnLit) → option_value w (add_lit k c) ≡ (clause_value (own_value w) c || own_value w k)
add_lit_value w k c = go (list_any (same_lit (turned true k)) c) (list_any (same_lit k) c) refl refl
  where
    go : (a b : Bool) → list_any (same_lit (turned true k)) c ≡ a → list_any (same_lit k) c ≡ b → option_value w (cond a None (cond b (Some c) (Some (c ++ k ∷ [])))) ≡ (clause_value (own_value w) c || own_value w k)
    go true b e f = or_both (own_value w k) _ (any_same w (turned true k) c e ∙ ap (λ x. x || clause_value (own_value w) c) (turned_value w true k))
    go false true e f = any_same w k c f ∙ or_comm (own_value w k) (clause_value (own_value w) c)
    go false false e f = list_any-append (own_value w) c (k ∷ []) ∙ ap (λ z. clause_value (own_value w) c || z) (or_false (own_value w k))

-- the same of what a literal came to
pub add_root_value : (w : ℕ → Bool) (k : Root) (o : Option (List OwnLit)) → option_value w (add_root k o) ≡ (option_value w o || root_value w k)
add_root_value w (Known true) o = sym (or_true (option_value w o))
add_root_value w (Known false) o = sym (or_false (option_value w o))
add_root_value w (Last k) None = refl
add_root_value w (Last k) (Some c) = add_lit_value w k c
add_root_value w (Lost v) o = sym (or_false (option_value w o))

put_in_from : {L : Type 0} (w : ℕ → Bool) (r : L → Root) (o : Option (List OwnLit)) (c : List L) → option_value w (fold (λ a l. add_root (r l) a) o c) ≡ (option_value w o || clause_value (λ l. root_value w (r l)) c)
put_in_from w r o [] = sym (or_false (option_value w o))
put_in_from w r o (l ∷ c) =
    put_in_from w r (add_root (r l) o) c
    ∙ (ap (λ z. z || clause_value (λ k. root_value w (r k)) c) (add_root_value w (r l) o) ∙ or_assoc (option_value w o) (root_value w (r l)) (clause_value (λ k. root_value w (r k)) c))

-- the clause has the value of what its literals come to
pub put_in_value : {L : Type 0} (w : ℕ → Bool) (r : L → Root) (c : List L) → option_value w (put_in r c) ≡ clause_value (λ l. root_value w (r l)) c
put_in_value w r c = put_in_from w r (Some []) c

cons_value : (w : ℕ → Bool) (o : Option (List OwnLit)) (cs : List (List OwnLit)) → clauses_value (own_value w) (cons_option o cs) ≡ (option_value w o && clauses_value (own_value w) cs)
cons_value w None cs = refl
cons_value w (Some c) cs = refl

-- and so have all the clauses
pub put_in_all_value : {L : Type 0} (w : ℕ → Bool) (r : L → Root) (cs : List (List L)) → clauses_value (own_value w) (put_in_all r cs) ≡ clauses_value (λ l. root_value w (r l)) cs
put_in_all_value w r [] = refl
put_in_all_value w r (c ∷ cs) = cons_value w (put_in r c) (put_in_all r cs) ∙ ap₂ ◌&&◌ (put_in_value w r c) (put_in_all_value w r cs)

add_lit_passes : (p : OwnLit → Bool) (k : OwnLit) (c : List OwnLit) (a b : Bool) → p k ≡ true → list_all p c ≡ true → option_passes p (cond a None (cond b (Some c) (Some (c ++ k ∷ [])))) ≡ true
add_lit_passes p k c true b e f = refl
add_lit_passes p k c false true e f = f
add_lit_passes p k c false false e f = list_all-append p c (k ∷ []) ∙ and_from _ _ f (and_from _ _ e refl)

add_root_passes : (p : OwnLit → Bool) (r : Root) (o : Option (List OwnLit)) → root_passes p r ≡ true → option_passes p o ≡ true → option_passes p (add_root r o) ≡ true
add_root_passes p (Known true) o e f = refl
add_root_passes p (Known false) o e f = f
add_root_passes p (Last k) None e f = refl
add_root_passes p (Last k) (Some c) e f = add_lit_passes p k c (list_any (same_lit (turned true k)) c) (list_any (same_lit k) c) e f
add_root_passes p (Lost v) o e f = f

put_in_passes_from : {L : Type 0} (p : OwnLit → Bool) (r : L → Root) (o : Option (List OwnLit)) (c : List L) → option_passes p o ≡ true → list_all (λ l. root_passes p (r l)) c ≡ true → option_passes p (fold (λ b l. add_root (r l) b) o c) ≡ true
put_in_passes_from p r o [] f e = f
put_in_passes_from p r o (l ∷ c) f e =
    let a : (root_passes p (r l) ≡ true) × (list_all (λ k. root_passes p (r k)) c ≡ true) = and_parts _ _ e in
    put_in_passes_from p r (add_root (r l) o) c (add_root_passes p (r l) o a.0 f) a.1

-- where each literal that is left passes a test, the clause's literals do
pub put_in_passes : {L : Type 0} (p : OwnLit → Bool) (r : L → Root) (c : List L) → list_all (λ l. root_passes p (r l)) c ≡ true → option_passes p (put_in r c) ≡ true
put_in_passes p r c e = put_in_passes_from p r (Some []) c refl e

cons_passes : (p : OwnLit → Bool) (o : Option (List OwnLit)) (cs : List (List OwnLit)) → option_passes p o ≡ true → each_lit p cs ≡ true → each_lit p (cons_option o cs) ≡ true
cons_passes p None cs e f = f
cons_passes p (Some c) cs e f = and_from _ _ e f

-- and those of all the clauses
pub put_in_all_passes : {L : Type 0} (p : OwnLit → Bool) (r : L → Root) (cs : List (List L)) → each_lit (λ l. root_passes p (r l)) cs ≡ true → each_lit p (put_in_all r cs) ≡ true
put_in_all_passes p r [] e = refl
put_in_all_passes p r (c ∷ cs) e =
    let a : (list_all (λ l. root_passes p (r l)) c ≡ true) × (each_lit (λ l. root_passes p (r l)) cs ≡ true) = and_parts _ _ e in
    cons_passes p (put_in r c) (put_in_all r cs) (put_in_passes p r c a.0) (put_in_all_passes p r cs a.1)

eqb_comm : (a b : ℕ) → eqb a b ≡ eqb b a
eqb_comm a b = go (eqb a b) refl
  where
    go : (x : Bool) → eqb a b ≡ x → x ≡ eqb b a
    go true e = sym (eq-eqb b a (sym (eqb-true a b e)))
    go false e = sym (ne_eqb b a (λ h. eqb-false a b e (sym h)))

beq_comm : (a b : Bool) → beq a b ≡ beq b a
beq_comm true true = refl
beq_comm true false = refl
beq_comm false true = refl
beq_comm false false = refl

same_comm : (k l : OwnLit) → same_lit k l ≡ same_lit l k
same_comm k l = ap₂ ◌&&◌ (eqb_comm k.var.0 l.var.0) (beq_comm k.negative l.negative)

turned_beq : (a b : Bool) → beq (signed true a) b ≡ beq (signed true b) a
turned_beq true true = refl
turned_beq true false = refl
turned_beq false true = refl
turned_beq false false = refl

turned_comm : (k l : OwnLit) → same_lit (turned true k) l ≡ same_lit (turned true l) k
turned_comm k l = ap₂ ◌&&◌ (eqb_comm k.var.0 l.var.0) (turned_beq k.negative l.negative)

absent : (p : OwnLit → Bool) (c : List OwnLit) (k : OwnLit) (x : Bool) → not (list_any p c) ≡ true → p k ≡ x → x ≡ false → not (list_any p (c ++ k ∷ [])) ≡ true
absent p c k x e f g = ap not (list_any-append p c (k ∷ []) ∙ ap₂ ◌||◌ (not-true _ e) (ap (λ z. z || false) (f ∙ g)))

-- a clean clause stays clean with a literal of which neither sign stands in it
pub clean_more : (c : List OwnLit) (k : OwnLit) → is_clean c ≡ true → list_any (same_lit k) c ≡ false → list_any (same_lit (turned true k)) c ≡ false → is_clean (c ++ k ∷ []) ≡ true
clean_more [] k e f g = refl
clean_more (l ∷ c) k e f g =
    let a : ((not (list_any (same_lit l) c) && not (list_any (same_lit (turned true l)) c)) ≡ true) × (is_clean c ≡ true) = and_parts _ _ e in
    let b : (not (list_any (same_lit l) c) ≡ true) × (not (list_any (same_lit (turned true l)) c) ≡ true) = and_parts _ _ a.0 in
    let p : (same_lit k l ≡ false) × (list_any (same_lit k) c ≡ false) = or_parts _ _ f in
    let q : (same_lit (turned true k) l ≡ false) × (list_any (same_lit (turned true k)) c ≡ false) = or_parts _ _ g in
    and_from _ _
    (and_from _ _ (absent (same_lit l) c k (same_lit k l) b.0 (same_comm l k) p.0) (absent (same_lit (turned true l)) c k (same_lit (turned true k) l) b.1 (turned_comm l k) q.0))
    (clean_more c k a.1 p.1 q.1)

clean_lit : (k : OwnLit) (c : List OwnLit) → is_clean c ≡ true → option_clean (add_lit k c) ≡ true
clean_lit k c e = go (list_any (same_lit (turned true k)) c) (list_any (same_lit k) c) refl refl
  where
    go : (a b : Bool) → list_any (same_lit (turned true k)) c ≡ a → list_any (same_lit k) c ≡ b → option_clean (cond a None (cond b (Some c) (Some (c ++ k ∷ [])))) ≡ true
    go true b f g = refl
    go false true f g = e
    go false false f g = clean_more c k e g f

clean_root : (r : Root) (o : Option (List OwnLit)) → option_clean o ≡ true → option_clean (add_root r o) ≡ true
clean_root (Known true) o e = refl
clean_root (Known false) o e = e
clean_root (Last k) None e = refl
clean_root (Last k) (Some c) e = clean_lit k c e
clean_root (Lost v) o e = e

clean_from : {L : Type 0} (r : L → Root) (o : Option (List OwnLit)) (c : List L) → option_clean o ≡ true → option_clean (fold (λ b l. add_root (r l) b) o c) ≡ true
clean_from r o [] e = e
clean_from r o (l ∷ c) e = clean_from r (add_root (r l) o) c (clean_root (r l) o e)

-- what is put in is clean, whatever the clause was
pub put_in_clean : {L : Type 0} (r : L → Root) (c : List L) → option_clean (put_in r c) ≡ true
put_in_clean r c = clean_from r (Some []) c refl

cons_clean : (o : Option (List OwnLit)) (cs : List (List OwnLit)) → option_clean o ≡ true → list_all is_clean cs ≡ true → list_all is_clean (cons_option o cs) ≡ true
cons_clean None cs e f = f
cons_clean (Some c) cs e f = and_from _ _ e f

-- all the clauses too
pub put_in_all_clean : {L : Type 0} (r : L → Root) (cs : List (List L)) → list_all is_clean (put_in_all r cs) ≡ true
put_in_all_clean r [] = refl
put_in_all_clean r (c ∷ cs) = cons_clean (put_in r c) (put_in_all r cs) (put_in_clean r c) (put_in_all_clean r cs)
