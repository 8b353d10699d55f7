-- The stored clauses of pieces, read in own literals.
use Rattle.std.proofs.Common.{◌≡◌, ℕ, zero, suc, ◌+◌, ◌-◌, ◌<◌, ◌≤◌, Bool, true, false, nat_lt, nat_le, ◌&&◌, ◌||◌, List, [], ◌∷◌, ◌++◌, Option, Some, None, is_some, length, map, take, drop, get_or, refl, ap, ap₂, ◌∙◌, ⊎_elim, arith, ltb-true, lt-ltb, le-ltb}
use Rattle.std.proofs.lemmas.Bool.{and_parts, and_from, or_cases, or_left, or_right, leb-true, cond-true, cond-false}
use Rattle.std.proofs.lemmas.List.{map-append, get_or_append_left}
use Rattle.std.proofs.lemmas.List.Folds.{list_all-append, list_all-map}
use Rattle.std.specs.List.{list_all}
use Rattle.sat_lits.specs.InLits.{is_distinct}
use Rattle.sat_lits.specs.ListLaws.{all_front, all_push}
use Rattle.sat_lits.specs.declared.literal.Own.{Own}
use Rattle.sat_lits.specs.declared.literal.OwnLit.{OwnLit}
use Rattle.sat_lits.specs.declared.literal.Inner.{Inner}
use Rattle.sat_lits.specs.declared.literal.InLit.{InLit}
use Rattle.rebuild_stack.specs.PutIn.{is_clean}
use Rattle.var_maps.specs.Maps.{Maps, Matched, inner_at, owner_at, number_or}
use Rattle.xor_cut.specs.Pieces.{own_var, own_vars, are_different, pieces_by}
use Rattle.xor_cut.specs.CutLaws.{all_drop}
use Rattle.xor_cut.specs.declared.piece.Piece.{Piece}
use Rattle.state_laws.specs.Held.{own_or, own_of, own_clause, InClause, in_own, hard_clause}
use Rattle.state_laws.specs.ViewLaws.{clean_distinct}
use Rattle.removed_vars.specs.declared.changes.Fresh.{Fresh}
use Rattle.removed_vars.specs.Fresh.{in_clauses, hard_in, are_distinct}
use Rattle.parity_forms.specs.Parities.{lit_of, in_lit_of, parity_forms, parity_clauses, number_of, definitions_of, clauses_of}
use Rattle.parity_forms.specs.InMaps.{may_be_named, stored_forms, all_stored_forms}
use Rattle.parity_forms.specs.FormLaws.{forms_map, parity_clauses_clean}
use Rattle.parity_forms.specs.KernelMadeLaws.{owner_within}

-- whether a variable is active, or is one of this many that are to be made
abbrev pub is_named : ℕ → Maps → Own → Bool
is_named count m v = is_some (inner_at m v.0) || (nat_le (length m.inners) v.0 && nat_lt v.0 (length m.inners + count))

-- such a variable may be named
pub named_may : (count : ℕ) (m : Maps) (v : Own) → is_named count m v ≡ true → may_be_named m v ≡ true
named_may count m v e =
    ⊎_elim (λ (a : is_some (inner_at m v.0) ≡ true). or_right (nat_le (length m.inners) v.0) (is_some (inner_at m v.0)) a)
    (λ (b : (nat_le (length m.inners) v.0 && nat_lt v.0 (length m.inners + count)) ≡ true). or_left (nat_le (length m.inners) v.0) (is_some (inner_at m v.0)) (and_parts _ _ b).0)
    (or_cases _ _ e)

nth_own : (next count k : ℕ) → k < count → get_or (map Some (own_vars next count)) k None ≡ Some (own_var (next + k))
nth_own next zero k l = absurd (omega arith)
nth_own next (suc count) zero l = ap (λ n. let o : Option Own = Some (own_var n) in o) (let e : next ≡ next + 0 = omega arith in e)
nth_own next (suc count) (suc k) l = nth_own (suc next) count k (omega arith) ∙ ap (λ n. let o : Option Own = Some (own_var n) in o) (let e : suc next + k ≡ next + suc k = omega arith in e)

length-own_vars : (next count : ℕ) → length (own_vars next count) ≡ count
length-own_vars next zero = refl
length-own_vars next (suc count) = ap suc (length-own_vars (suc next) count)

inner_within : (xs : List (Option Inner)) (k : ℕ) → is_some (get_or xs k None) ≡ true → k < length xs
inner_within [] k e = absurd (no e)
  where
    no : false ≡ true → ⊥
    no q = cc
inner_within (x ∷ xs) zero e = omega arith
inner_within (x ∷ xs) (suc k) e = let l : k < length xs = inner_within xs k e in omega arith

-- the number of such a variable is its own where the variables are made
pub named_owner : (count : ℕ) (m n : Maps) (v : Own) → n.owners ≡ m.owners ++ map Some (own_vars (length m.inners) count) → Matched m → is_named count m v ≡ true → owner_at n (number_of m v).0 ≡ Some v
named_owner count m n v o h e = ap (λ (z : List (Option Own)). get_or z (number_of m v).0 None) o ∙ ⊎_elim active later (or_cases _ _ e)
  where
    tables : List (Option Own)
    tables = m.owners ++ map Some (own_vars (length m.inners) count)

    active : is_some (inner_at m v.0) ≡ true → get_or (m.owners ++ map Some (own_vars (length m.inners) count)) (number_of m v).0 None ≡ Some v
    active a = go (inner_at m v.0) refl a
      where
        go : (i : Option Inner) → inner_at m v.0 ≡ i → is_some i ≡ true → get_or (m.owners ++ map Some (own_vars (length m.inners) count)) (number_of m v).0 None ≡ Some v
        go None q b = absurd (no b)
          where
            no : false ≡ true → ⊥
            no z = cc
        go (Some i) q b =
            let l : v.0 < length m.inners = inner_within m.inners v.0 a in
            let own : owner_at m i.0 ≡ Some v = h.inner_owner v.0 i q in
            let number : (number_of m v).0 ≡ i.0 = cond-true (nat_lt v.0 (length m.inners)) (number_or 0 (inner_at m v.0)) (length m.owners + (v.0 - length m.inners)) (lt-ltb _ _ l) ∙ ap (number_or 0) q in
            ap (λ (k : ℕ). get_or (m.owners ++ map Some (own_vars (length m.inners) count)) k None) number
            ∙ (get_or_append_left m.owners (map Some (own_vars (length m.inners) count)) None i.0 (owner_within m.owners i.0 v own) ∙ own)

    later : (nat_le (length m.inners) v.0 && nat_lt v.0 (length m.inners + count)) ≡ true → get_or (m.owners ++ map Some (own_vars (length m.inners) count)) (number_of m v).0 None ≡ Some v
    later b =
        let p : (nat_le (length m.inners) v.0 ≡ true) × (nat_lt v.0 (length m.inners + count) ≡ true) = and_parts _ _ b in
        let l : length m.inners ≤ v.0 = leb-true _ _ p.0 in
        let u : v.0 < length m.inners + count = ltb-true _ _ p.1 in
        let number : (number_of m v).0 ≡ length m.owners + (v.0 - length m.inners) = cond-false (nat_lt v.0 (length m.inners)) (number_or 0 (inner_at m v.0)) (length m.owners + (v.0 - length m.inners)) (le-ltb _ _ l) in
        ap (λ (k : ℕ). get_or (m.owners ++ map Some (own_vars (length m.inners) count)) k None) number
        ∙ (get_or_behind m.owners (map Some (own_vars (length m.inners) count)) (v.0 - length m.inners)
        ∙ (nth_own (length m.inners) count (v.0 - length m.inners) (omega arith) ∙ ap (λ k. let r : Option Own = Some (own_var k) in r) (let q : length m.inners + (v.0 - length m.inners) ≡ v.0 = omega arith in q)))
      where
        get_or_behind : (xs ys : List (Option Own)) (k : ℕ) → get_or (xs ++ ys) (length xs + k) None ≡ get_or ys k None
        get_or_behind [] ys k = ap (λ j. get_or ys j None) (let q : 0 + k ≡ k = omega arith in q)
        get_or_behind (x ∷ xs) ys k = ap (λ j. get_or (x ∷ (xs ++ ys)) j None) (let q : suc (length xs) + k ≡ suc (length xs + k) = omega arith in q) ∙ get_or_behind xs ys k

all_true : {X : Type 0} (xs : List X) → list_all (λ x. true) xs ≡ true
all_true [] = refl
all_true (x ∷ xs) = all_true xs

-- the stored clauses of a parity over such variables are its clauses
pub stored_own : (count : ℕ) (m n : Maps) (vars : List Own) (rhs : Bool) → n.owners ≡ m.owners ++ map Some (own_vars (length m.inners) count) → Matched m → list_all (is_named count m) vars ≡ true
    → map (own_clause n) (parity_forms in_lit_of [] (map (number_of m) vars) rhs) ≡ parity_clauses vars rhs
stored_own count m n vars rhs o h e =
    forms_map (own_of n) (λ (i : Inner). own_or (length n.inners) (owner_at n i.0)) in_lit_of lit_of (λ i. true) (λ i b t. refl) [] (map (number_of m) vars) rhs (all_true (map (number_of m) vars))
    ∙ ap (λ z. parity_forms lit_of [] z rhs) (back vars e)
  where
    back : (vs : List Own) → list_all (is_named count m) vs ≡ true → map (λ (i : Inner). own_or (length n.inners) (owner_at n i.0)) (map (number_of m) vs) ≡ vs
    back [] e = refl
    back (v ∷ vs) e =
        let p : (is_named count m v ≡ true) × (list_all (is_named count m) vs ≡ true) = and_parts _ _ e in
        ap₂ {C = List Own} ◌∷◌ (ap (own_or (length n.inners)) (named_owner count m n v o h p.0)) (back vs p.1)

-- those of all pieces are theirs
pub all_stored_own : (count : ℕ) (m n : Maps) (ps : List Piece) → n.owners ≡ m.owners ++ map Some (own_vars (length m.inners) count) → Matched m → list_all (λ p. list_all (is_named count m) p.vars) ps ≡ true
    → map (own_clause n) (all_stored_forms m ps) ≡ clauses_of ps
all_stored_own count m n [] o h e = refl
all_stored_own count m n (p ∷ ps) o h e =
    let q : (list_all (is_named count m) p.vars ≡ true) × (list_all (λ (x : Piece). list_all (is_named count m) x.vars) ps ≡ true) = and_parts _ _ e in
    map-append (own_clause n) (stored_forms m p) (all_stored_forms m ps) ∙ ap₂ {C = List (List OwnLit)} ◌++◌ (stored_own count m n p.vars p.rhs o h q.0) (all_stored_own count m n ps o h q.1)

-- hard clauses in own literals
pub hard_own : (n : Maps) (cs : List (List InLit)) → map (in_own n) (map hard_in cs) ≡ map hard_clause (map (own_clause n) cs)
hard_own n [] = refl
hard_own n (c ∷ cs) = ap (λ z. hard_clause (own_clause n c) ∷ z) (hard_own n cs)

-- the clauses have no literal twice as they are stored, where they are clean in own literals
pub stored_distinct : (n : Maps) (cs : List (List InLit)) (made : List (List OwnLit)) (fresh : List Fresh) → in_clauses fresh ≡ map hard_in cs → map (own_clause n) cs ≡ made → list_all is_clean made ≡ true → are_distinct fresh ≡ true
stored_distinct n cs made fresh e f c =
    all_distinct fresh (ap (list_all (λ (x : InClause). is_distinct x.lits)) e ∙ (list_all-map (λ (x : InClause). is_distinct x.lits) hard_in cs ∙ each cs (ap (list_all is_clean) f ∙ c)))
  where
    each : (xs : List (List InLit)) → list_all is_clean (map (own_clause n) xs) ≡ true → list_all is_distinct xs ≡ true
    each [] q = refl
    each (x ∷ xs) q =
        let p : (is_clean (own_clause n x) ≡ true) × (list_all is_clean (map (own_clause n) xs) ≡ true) = and_parts _ _ q in
        and_from _ _ (clean_distinct n x p.0) (each xs p.1)

    all_distinct : (fs : List Fresh) → list_all (λ (x : InClause). is_distinct x.lits) (in_clauses fs) ≡ true → are_distinct fs ≡ true
    all_distinct [] q = refl
    all_distinct (x ∷ fs) q =
        let p : (is_distinct x.lits ≡ true) × (list_all (λ (y : InClause). is_distinct y.lits) (in_clauses fs) ≡ true) = and_parts _ _ q in
        and_from _ _ p.0 (all_distinct fs p.1)

-- the clauses of pieces of different variables are clean
pub pieces_clean : (ps : List Piece) → list_all (λ p. are_different p.vars) ps ≡ true → list_all is_clean (clauses_of ps) ≡ true
pieces_clean [] e = refl
pieces_clean (p ∷ ps) e =
    let q : (are_different p.vars ≡ true) × (list_all (λ (x : Piece). are_different x.vars) ps ≡ true) = and_parts _ _ e in
    list_all-append is_clean (parity_clauses p.vars p.rhs) (clauses_of ps) ∙ and_from _ _ (parity_clauses_clean p.vars p.rhs q.0) (pieces_clean ps q.1)

-- the variables of pieces pass a test that the parity's and the fresh ones pass
pub pieces_pass : (t : Own → Bool) (n : ℕ) (vars : List Own) (rhs : Bool) (next : ℕ) → list_all t vars ≡ true → ((k : ℕ) → next ≤ k → k < next + n → t (own_var k) ≡ true) → list_all (λ p. list_all t p.vars) (pieces_by n vars rhs next) ≡ true
pieces_pass t zero vars rhs next a h = and_from _ _ a refl
pieces_pass t (suc n) vars rhs next a h =
    and_from _ _ (all_push t (take 3 vars) (own_var next) (all_front t 3 vars a) (h next (omega arith) (omega arith)))
    (pieces_pass t n (drop 3 vars ++ own_var next ∷ []) rhs (suc next) (all_push t (drop 3 vars) (own_var next) (all_drop t 3 vars a) (h next (omega arith) (omega arith))) (λ k l u. h k (omega arith) (omega arith)))

-- a definition for each cut
pub length-definitions_of : (n : ℕ) (vars : List Own) (rhs : Bool) (next : ℕ) → length (definitions_of (pieces_by n vars rhs next)) ≡ n
length-definitions_of zero vars rhs next = refl
length-definitions_of (suc n) vars rhs next = ap suc (length-definitions_of n (drop 3 vars ++ own_var next ∷ []) rhs (suc next))
