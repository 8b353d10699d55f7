-- The clauses of a parity.
use Rattle.std.proofs.Common.{◌≡◌, ℕ, ◌==◌, Bool, true, false, not, ◌&&◌, ◌||◌, List, [], ◌∷◌, ◌++◌, map, refl, sym, ap, ap₂, ◌∙◌, eq-eqb, ne_eqb, eqb-true}
use Rattle.std.proofs.lemmas.Bool.{and_parts, and_from, or_parts, not-true, eqb-false}
use Rattle.std.proofs.lemmas.List.{map-append}
use Rattle.std.proofs.lemmas.List.Folds.{list_all-append, list_any-append}
use Rattle.std.specs.Bool.{beq}
use Rattle.std.specs.List.{list_all, list_any}
use Rattle.sat_lits.specs.Truth.{signed, clause_value, clauses_value}
use Rattle.sat_lits.specs.ListLaws.{any_mono, all_push}
use Rattle.sat_lits.specs.ClauseLaws.{clause_value-append, clauses_value-append}
use Rattle.sat_lits.specs.declared.literal.Own.{Own}
use Rattle.sat_lits.specs.declared.literal.OwnLit.{OwnLit}
use Rattle.rebuild_stack.specs.Values.{own_value, each_lit}
use Rattle.rebuild_stack.specs.Roots.{turned}
use Rattle.rebuild_stack.specs.PutIn.{is_clean, same_lit}
use Rattle.rebuild_stack.specs.PutInLaws.{clean_more}
use Rattle.xor_cut.specs.Pieces.{exclusive_or, is_parity, are_different}
use Rattle.parity_forms.specs.Parities.{lit_of, parity_forms, parity_clauses}

-- the clauses that begin with a front are true where the front is, or the parity is satisfied
forms_value : (w : ℕ → Bool) (front : List OwnLit) (vars : List Own) (rhs : Bool) → clauses_value (own_value w) (parity_forms lit_of front vars rhs) ≡ (clause_value (own_value w) front || is_parity w vars rhs)
forms_value w front [] true = go (clause_value (own_value w) front)
  where
    go : (b : Bool) → (b && true) ≡ (b || false)
    go true = refl
    go false = refl
forms_value w front [] false = go (clause_value (own_value w) front)
  where
    go : (b : Bool) → true ≡ (b || true)
    go true = refl
    go false = refl
forms_value w front (v ∷ vars) rhs =
    clauses_value-append (own_value w) (parity_forms lit_of (front ++ lit_of v false ∷ []) vars rhs) (parity_forms lit_of (front ++ lit_of v true ∷ []) vars (not rhs))
    ∙ (ap₂ ◌&&◌
    (forms_value w (front ++ lit_of v false ∷ []) vars rhs ∙ ap (λ b. b || is_parity w vars rhs) (clause_value-append (own_value w) front (lit_of v false ∷ [])))
    (forms_value w (front ++ lit_of v true ∷ []) vars (not rhs) ∙ ap (λ b. b || is_parity w vars (not rhs)) (clause_value-append (own_value w) front (lit_of v true ∷ [])))
    ∙ both (clause_value (own_value w) front) (w v.0) (exclusive_or w vars) rhs)
  where
    both : (f x e r : Bool) → (((f || (x || false)) || beq e r) && ((f || (not x || false)) || beq e (not r))) ≡ (f || beq (signed x e) r)
    both true x e r = refl
    both false true true true = refl
    both false true true false = refl
    both false true false true = refl
    both false true false false = refl
    both false false true true = refl
    both false false true false = refl
    both false false false true = refl
    both false false false false = refl

-- the clauses of a parity are true exactly where it is satisfied
pub parity_clauses_value : (w : ℕ → Bool) (vars : List Own) (rhs : Bool) → clauses_value (own_value w) (parity_clauses vars rhs) ≡ is_parity w vars rhs
parity_clauses_value w vars rhs = forms_value w [] vars rhs

-- they are over the parity's variables
forms_each : (p : OwnLit → Bool) (front : List OwnLit) (vars : List Own) (rhs : Bool) → list_all p front ≡ true → list_all (λ v. p (lit_of v false) && p (lit_of v true)) vars ≡ true → each_lit p (parity_forms lit_of front vars rhs) ≡ true
forms_each p front [] true e a = and_from _ _ e refl
forms_each p front [] false e a = refl
forms_each p front (v ∷ vars) rhs e a =
    let q : ((p (lit_of v false) && p (lit_of v true)) ≡ true) × (list_all (λ (u : Own). p (lit_of u false) && p (lit_of u true)) vars ≡ true) = and_parts _ _ a in
    let r : (p (lit_of v false) ≡ true) × (p (lit_of v true) ≡ true) = and_parts _ _ q.0 in
    list_all-append (list_all p) (parity_forms lit_of (front ++ lit_of v false ∷ []) vars rhs) (parity_forms lit_of (front ++ lit_of v true ∷ []) vars (not rhs))
    ∙ and_from _ _ (forms_each p (front ++ lit_of v false ∷ []) vars rhs (all_push p front (lit_of v false) e r.0) q.1) (forms_each p (front ++ lit_of v true ∷ []) vars (not rhs) (all_push p front (lit_of v true) e r.1) q.1)

-- and pass a test of variables that these pass
pub parity_clauses_each : (p : ℕ → Bool) (vars : List Own) (rhs : Bool) → list_all (λ v. p v.0) vars ≡ true → each_lit (λ l. p l.var.0) (parity_clauses vars rhs) ≡ true
parity_clauses_each p vars rhs a = forms_each (λ l. p l.var.0) [] vars rhs refl (twice vars a)
  where
    twice : (vs : List Own) → list_all (λ v. p v.0) vs ≡ true → list_all (λ (v : Own). p v.0 && p v.0) vs ≡ true
    twice [] e = refl
    twice (v ∷ vs) e =
        let q : (p v.0 ≡ true) × (list_all (λ (u : Own). p u.0) vs ≡ true) = and_parts _ _ e in
        and_from _ _ (and_from _ _ q.0 q.0) (twice vs q.1)

-- whether a literal of a clause is of the variable
abbrev of_var : Own → List OwnLit → Bool
of_var v c = list_any (λ l. l.var.0 == v.0) c

-- a literal of a new variable leaves a clause clean
clean_push : (c : List OwnLit) (v : Own) (b : Bool) → is_clean c ≡ true → of_var v c ≡ false → is_clean (c ++ lit_of v b ∷ []) ≡ true
clean_push c v b e n = clean_more c (lit_of v b) e (none (λ l. same_lit (lit_of v b) l) (λ l h. (and_parts _ _ h).0)) (none (λ l. same_lit (turned true (lit_of v b)) l) (λ l h. (and_parts _ _ h).0))
  where
    turn : (a b : ℕ) → (a == b) ≡ true → (b == a) ≡ true
    turn a b q = eq-eqb b a (sym (eqb-true a b q))

    none : (p : OwnLit → Bool) → ((l : OwnLit) → p l ≡ true → (v.0 == l.var.0) ≡ true) → list_any p c ≡ false
    none p h = go (list_any p c) refl
      where
        go : (r : Bool) → list_any p c ≡ r → r ≡ false
        go true q = sym (any_mono p (λ l. l.var.0 == v.0) (λ l t. turn v.0 l.var.0 (h l t)) c q) ∙ n
        go false q = refl

-- the clauses of different variables are clean
forms_clean : (front : List OwnLit) (vars : List Own) (rhs : Bool) → is_clean front ≡ true → list_all (λ v. not (of_var v front)) vars ≡ true → are_different vars ≡ true → list_all is_clean (parity_forms lit_of front vars rhs) ≡ true
forms_clean front [] true e a d = and_from _ _ e refl
forms_clean front [] false e a d = refl
forms_clean front (v ∷ vars) rhs e a d =
    let q : (not (of_var v front) ≡ true) × (list_all (λ (u : Own). not (of_var u front)) vars ≡ true) = and_parts _ _ a in
    let r : (not (list_any (λ (u : Own). u.0 == v.0) vars) ≡ true) × (are_different vars ≡ true) = and_parts _ _ d in
    list_all-append is_clean (parity_forms lit_of (front ++ lit_of v false ∷ []) vars rhs) (parity_forms lit_of (front ++ lit_of v true ∷ []) vars (not rhs))
    ∙ and_from _ _
    (forms_clean (front ++ lit_of v false ∷ []) vars rhs (clean_push front v false e (not-true _ q.0)) (longer v front false vars q.1 (not-true _ r.0)) r.1)
    (forms_clean (front ++ lit_of v true ∷ []) vars (not rhs) (clean_push front v true e (not-true _ q.0)) (longer v front true vars q.1 (not-true _ r.0)) r.1)
  where
    longer : (v : Own) (front : List OwnLit) (b : Bool) (us : List Own) → list_all (λ u. not (of_var u front)) us ≡ true → list_any (λ u. u.0 == v.0) us ≡ false → list_all (λ u. not (of_var u (front ++ lit_of v b ∷ []))) us ≡ true
    longer v front b [] e n = refl
    longer v front b (u ∷ us) e n =
        let q : (not (of_var u front) ≡ true) × (list_all (λ (x : Own). not (of_var x front)) us ≡ true) = and_parts _ _ e in
        let r : ((u.0 == v.0) ≡ false) × (list_any (λ (x : Own). x.0 == v.0) us ≡ false) = or_parts _ _ n in
        and_from _ _
        (ap not (list_any-append (λ (l : OwnLit). l.var.0 == u.0) front (lit_of v b ∷ []) ∙ ap₂ ◌||◌ (not-true _ q.0) (ap (λ z. z || false) (ne_eqb v.0 u.0 (λ z. eqb-false u.0 v.0 r.0 (sym z))))))
        (longer v front b us q.1 r.1)

pub parity_clauses_clean : (vars : List Own) (rhs : Bool) → are_different vars ≡ true → list_all is_clean (parity_clauses vars rhs) ≡ true
parity_clauses_clean vars rhs d = forms_clean [] vars rhs refl (all vars) d
  where
    all : (us : List Own) → list_all (λ u. not (of_var u [])) us ≡ true
    all [] = refl
    all (u ∷ us) = all us

-- literals of what variables stand for
pub forms_map : {V X L K : Type 0} (h : L → K) (g : V → X) (lit : V → Bool → L) (to : X → Bool → K) (p : V → Bool) → ((v : V) (b : Bool) → p v ≡ true → h (lit v b) ≡ to (g v) b) → (front : List L) (vars : List V) (rhs : Bool) → list_all p vars ≡ true
    → map (map h) (parity_forms lit front vars rhs) ≡ parity_forms to (map h front) (map g vars) rhs
forms_map h g lit to p e front [] true a = refl
forms_map h g lit to p e front [] false a = refl
forms_map {K = K} h g lit to p e front (v ∷ vars) rhs a =
    let q : (p v ≡ true) × (list_all p vars ≡ true) = and_parts _ _ a in
    let longer : (b : Bool) → map h (front ++ lit v b ∷ []) ≡ map h front ++ to (g v) b ∷ [] = λ b. map-append h front (lit v b ∷ []) ∙ ap (λ k. map h front ++ k ∷ []) (e v b q.0) in
    map-append (map h) (parity_forms lit (front ++ lit v false ∷ []) vars rhs) (parity_forms lit (front ++ lit v true ∷ []) vars (not rhs))
    ∙ ap₂ {C = List (List K)} ◌++◌
    (forms_map h g lit to p e (front ++ lit v false ∷ []) vars rhs q.1 ∙ ap (λ f. parity_forms to f (map g vars) rhs) (longer false))
    (forms_map h g lit to p e (front ++ lit v true ∷ []) vars (not rhs) q.1 ∙ ap (λ f. parity_forms to f (map g vars) (not rhs)) (longer true))
