-- Numbers that stand an odd number of times: how two walks find them, and what exclusive ors they have.
use Rattle.std.proofs.Common.{◌≡◌, ℕ, suc, ◌≤◌, ◌==◌, Bool, true, false, not, cond, ◌&&◌, ◌||◌, List, [], ◌∷◌, ◌++◌, length, filter, map, refl, sym, ap, ap₂, ◌∙◌, arith, eqb-true, eq-eqb, ne_eqb, append_assoc}
use Rattle.std.proofs.Math.Path.{fun_ext}
use Rattle.std.proofs.lemmas.Bool.{and_parts, and_from, or_parts, not-true, eqb-false, false≢true, true≢false}
use Rattle.std.proofs.lemmas.List.Sums.{length-filter, count_by-le-length}
use Rattle.std.specs.List.{list_all}
use Rattle.sat_lits.specs.ListLaws.{any_map}
use Rattle.sat_lits.specs.Truth.{signed, with_value}
use Rattle.sat_lits.specs.ClauseLaws.{signed_twice, signed_comm}
use Rattle.sat_lits.specs.Conflicts.{toggled, odd_vars}
use Rattle.sat_lits.specs.ParityLaws.{has, has-toggled}
use Rattle.sat_lits.specs.declared.literal.Var.{Var}
use Rattle.sat_lits.specs.declared.literal.Own.{Own}
use Rattle.xor_cut.specs.Pieces.{exclusive_or, are_different, own_var}
use Rattle.parity_forms.specs.Parities.{odd_numbers}
use Rattle.parity_forms.specs.Marks.{is_odd_in}

-- one number more turns whether it does
pub odd_in-push : (numbers : List ℕ) (n m : ℕ) → is_odd_in (numbers ++ n ∷ []) m ≡ signed (n == m) (is_odd_in numbers m)
odd_in-push [] n m = has-toggled n m []
odd_in-push (x ∷ xs) n m =
    has-toggled x m (odd_numbers (xs ++ n ∷ []))
    ∙ (ap (signed (x == m)) (odd_in-push xs n m) ∙ (signed_comm (x == m) (n == m) (is_odd_in xs m) ∙ ap (signed (n == m)) (sym (has-toggled x m (odd_numbers xs)))))

-- a walk over numbers that takes each marked one and then clears its mark
abbrev pub marked : (ℕ → Bool) → List ℕ → List ℕ
marked marks [] = []
marked marks (n ∷ ns) = cond (marks n) (n ∷ marked (with_value marks n false) ns) (marked marks ns)

-- a mark that is cleared takes its number out
cleared : (marks : ℕ → Bool) (n : ℕ) (ns : List ℕ) → filter (λ k. not (k == n)) (marked marks ns) ≡ marked (with_value marks n false) ns
cleared marks n [] = refl
cleared marks n (x ∷ xs) = go (marks x) (x == n) refl refl (cleared marks n xs) (cleared (with_value marks x false) n xs)
  where
    go : (b same : Bool) → marks x ≡ b → (x == n) ≡ same → filter (λ k. not (k == n)) (marked marks xs) ≡ marked (with_value marks n false) xs
        → filter (λ k. not (k == n)) (marked (with_value marks x false) xs) ≡ marked (with_value (with_value marks x false) n false) xs
        → filter (λ k. not (k == n)) (cond b (x ∷ marked (with_value marks x false) xs) (marked marks xs)) ≡ cond (cond same false (marks x)) (x ∷ marked (with_value (with_value marks n false) x false) xs) (marked (with_value marks n false) xs)
    go true true e s r q =
        ap (λ z. cond (not z) (x ∷ filter (λ k. not (k == n)) (marked (with_value marks x false) xs)) (filter (λ k. not (k == n)) (marked (with_value marks x false) xs))) s
        ∙ (q ∙ ap (λ f. marked f xs) (fun_ext (λ k. twice k (k == n) (k == x) (ap (λ z. k == z) (eqb-true x n s)))))
      where
        twice : (k : ℕ) (a b : Bool) → b ≡ a → cond a false (cond b false (marks k)) ≡ cond a false (marks k)
        twice k true b h = refl
        twice k false true h = absurd (true≢false h)
        twice k false false h = refl
    go true false e s r q =
        ap (λ z. cond (not z) (x ∷ filter (λ k. not (k == n)) (marked (with_value marks x false) xs)) (filter (λ k. not (k == n)) (marked (with_value marks x false) xs))) s
        ∙ (ap (λ z. x ∷ z) (q ∙ ap (λ f. marked f xs) (fun_ext (λ k. swap (marks k) (k == n) (k == x))))
        ∙ ap (λ z. cond z (x ∷ marked (with_value (with_value marks n false) x false) xs) (marked (with_value marks n false) xs)) (sym e))
      where
        swap : (v a b : Bool) → cond a false (cond b false v) ≡ cond b false (cond a false v)
        swap v true true = refl
        swap v true false = refl
        swap v false true = refl
        swap v false false = refl
    go false true e s r q = r
    go false false e s r q = r ∙ ap (λ z. cond z (x ∷ marked (with_value (with_value marks n false) x false) xs) (marked (with_value marks n false) xs)) (sym e)

-- one number more is walked over
pub marked_step : (marks : ℕ → Bool) (now : ℕ → Bool) (done more : List ℕ) (n : ℕ) (rest all : List ℕ) → more ≡ cond (marks n) (done ++ n ∷ []) done → ((k : ℕ) → now k ≡ cond (marks n) (with_value marks n false k) (marks k)) → done ++ marked marks (n ∷ rest) ≡ all
    → more ++ marked now rest ≡ all
marked_step marks now done more n rest all m h e = go (marks n) refl m h e
  where
    go : (b : Bool) → marks n ≡ b → more ≡ cond b (done ++ n ∷ []) done → ((k : ℕ) → now k ≡ cond b (with_value marks n false k) (marks k)) → done ++ cond b (n ∷ marked (with_value marks n false) rest) (marked marks rest) ≡ all → more ++ marked now rest ≡ all
    go true t m h e = ap₂ {C = List ℕ} (λ (x : List ℕ) (f : ℕ → Bool). x ++ marked f rest) m (fun_ext h) ∙ (append_assoc done (n ∷ []) (marked (with_value marks n false) rest) ∙ e)
    go false t m h e = ap₂ {C = List ℕ} (λ (x : List ℕ) (f : ℕ → Bool). x ++ marked f rest) m (fun_ext h) ∙ e

-- the walk over all numbers, marked where they stand an odd number of times, takes those
pub marked_odd : (ns : List ℕ) → marked (is_odd_in ns) ns ≡ odd_numbers ns
marked_odd [] = refl
marked_odd (n ∷ ns) = ap (λ z. cond z (n ∷ marked (with_value (is_odd_in (n ∷ ns)) n false) ns) (marked (is_odd_in (n ∷ ns)) ns)) at_first ∙ go (is_odd_in ns n) refl (marked_odd ns)
  where
    at_first : is_odd_in (n ∷ ns) n ≡ not (is_odd_in ns n)
    at_first = has-toggled n n (odd_numbers ns) ∙ ap (λ z. signed z (is_odd_in ns n)) (eq-eqb n n refl)

    same : (b : Bool) → is_odd_in ns n ≡ b → (k : ℕ) (e : Bool) → (n == k) ≡ e → with_value (is_odd_in (n ∷ ns)) n false k ≡ with_value (is_odd_in ns) n false k
    same b h k true e = ap (λ z. cond z false (is_odd_in (n ∷ ns) k)) (eq-eqb k n (sym (eqb-true n k e))) ∙ sym (ap (λ z. cond z false (is_odd_in ns k)) (eq-eqb k n (sym (eqb-true n k e))))
    same b h k false e = ap (cond (k == n) false) (has-toggled n k (odd_numbers ns) ∙ ap (λ z. signed z (is_odd_in ns k)) e)

    go : (b : Bool) → is_odd_in ns n ≡ b → marked (is_odd_in ns) ns ≡ odd_numbers ns
        → cond (not b) (n ∷ marked (with_value (is_odd_in (n ∷ ns)) n false) ns) (marked (is_odd_in (n ∷ ns)) ns) ≡ cond b (filter (λ k. not (k == n)) (odd_numbers ns)) (n ∷ odd_numbers ns)
    go true h r =
        ap (λ f. marked f ns) (fun_ext (λ k. kept k (n == k) refl)) ∙ (sym (cleared (is_odd_in ns) n ns) ∙ ap (filter (λ k. not (k == n))) r)
      where
        kept : (k : ℕ) (e : Bool) → (n == k) ≡ e → is_odd_in (n ∷ ns) k ≡ with_value (is_odd_in ns) n false k
        kept k true e =
            has-toggled n k (odd_numbers ns)
            ∙ (ap (λ z. signed z (is_odd_in ns k)) e ∙ (ap not (ap (is_odd_in ns) (sym (eqb-true n k e)) ∙ h) ∙ sym (ap (λ z. cond z false (is_odd_in ns k)) (eq-eqb k n (sym (eqb-true n k e))))))
        kept k false e =
            has-toggled n k (odd_numbers ns)
            ∙ (ap (λ z. signed z (is_odd_in ns k)) e ∙ sym (ap (λ z. cond z false (is_odd_in ns k)) (ne_eqb k n (λ q. eqb-false n k e (sym q)))))
    go false h r = ap (λ z. n ∷ z) (ap (λ f. marked f ns) (fun_ext (λ k. same false h k (n == k) refl ∙ unset k (k == n) refl)) ∙ r)
      where
        unset : (k : ℕ) (e : Bool) → (k == n) ≡ e → cond e false (is_odd_in ns k) ≡ is_odd_in ns k
        unset k true e = sym (ap (is_odd_in ns) (eqb-true k n e) ∙ h)
        unset k false e = refl

-- whether no number stands twice
abbrev pub apart : List ℕ → Bool
apart [] = true
apart (n ∷ ns) = not (has ns n) && apart ns

has-filter : (n m : ℕ) (ns : List ℕ) → has ns m ≡ false → has (filter (λ k. not (k == n)) ns) m ≡ false
has-filter n m [] e = refl
has-filter n m (x ∷ xs) e =
    let p : ((x == m) ≡ false) × (has xs m ≡ false) = or_parts _ _ e in
    go (x == n) p.0 (has-filter n m xs p.1)
  where
    go : (b : Bool) → (x == m) ≡ false → has (filter (λ k. not (k == n)) xs) m ≡ false → has (cond (not b) (x ∷ filter (λ k. not (k == n)) xs) (filter (λ k. not (k == n)) xs)) m ≡ false
    go true f r = r
    go false f r = ap₂ ◌||◌ f r

apart-filter : (n : ℕ) (ns : List ℕ) → apart ns ≡ true → apart (filter (λ k. not (k == n)) ns) ≡ true
apart-filter n [] e = refl
apart-filter n (x ∷ xs) e =
    let p : (not (has xs x) ≡ true) × (apart xs ≡ true) = and_parts _ _ e in
    go (x == n) (not-true _ p.0) (apart-filter n xs p.1)
  where
    go : (b : Bool) → has xs x ≡ false → apart (filter (λ k. not (k == n)) xs) ≡ true → apart (cond (not b) (x ∷ filter (λ k. not (k == n)) xs) (filter (λ k. not (k == n)) xs)) ≡ true
    go true f r = r
    go false f r = and_from _ _ (ap not (has-filter n x xs f)) r

apart-toggled : (n : ℕ) (ns : List ℕ) → apart ns ≡ true → apart (toggled n ns) ≡ true
apart-toggled n ns e = go (has ns n) refl
  where
    go : (b : Bool) → has ns n ≡ b → apart (cond b (filter (λ k. not (k == n)) ns) (n ∷ ns)) ≡ true
    go true h = apart-filter n ns e
    go false h = and_from _ _ (ap not h) e

-- the odd numbers stand once each
pub apart-odd : (ns : List ℕ) → apart (odd_numbers ns) ≡ true
apart-odd [] = refl
apart-odd (n ∷ ns) = apart-toggled n (odd_numbers ns) (apart-odd ns)

-- so own variables of these numbers are different
pub different_own : (ns : List ℕ) → apart ns ≡ true → are_different (map own_var ns) ≡ true
different_own [] e = refl
different_own (n ∷ ns) e =
    let p : (not (has ns n) ≡ true) × (apart ns ≡ true) = and_parts _ _ e in
    and_from _ _ (ap not (any_map (λ (u : Own). u.0 == n) own_var ns ∙ not-true _ p.0)) (different_own ns p.1)

-- the exclusive or of own variables by number
abbrev pub number_or_of : (ℕ → Bool) → List ℕ → Bool
number_or_of w ns = exclusive_or w (map own_var ns)

filter_absent : (n : ℕ) (ns : List ℕ) → has ns n ≡ false → filter (λ k. not (k == n)) ns ≡ ns
filter_absent n [] e = refl
filter_absent n (x ∷ xs) e =
    let a : ((x == n) ≡ false) × (has xs n ≡ false) = or_parts _ _ e in
    ap (λ b. cond (not b) (x ∷ filter (λ k. not (k == n)) xs) (filter (λ k. not (k == n)) xs)) a.0 ∙ ap (λ l. x ∷ l) (filter_absent n xs a.1)

without_one : (w : ℕ → Bool) (n : ℕ) (ns : List ℕ) → apart ns ≡ true → has ns n ≡ true → number_or_of w (filter (λ k. not (k == n)) ns) ≡ signed (w n) (number_or_of w ns)
without_one w n [] a e = absurd (false≢true e)
without_one w n (x ∷ xs) a e =
    let p : (not (has xs x) ≡ true) × (apart xs ≡ true) = and_parts _ _ a in
    go (x == n) refl e (not-true _ p.0) (λ (h : has xs n ≡ true). without_one w n xs p.1 h)
  where
    go : (same : Bool) → (x == n) ≡ same → (same || has xs n) ≡ true → has xs x ≡ false → (has xs n ≡ true → number_or_of w (filter (λ k. not (k == n)) xs) ≡ signed (w n) (number_or_of w xs))
        → number_or_of w (cond (not same) (x ∷ filter (λ k. not (k == n)) xs) (filter (λ k. not (k == n)) xs)) ≡ signed (w n) (signed (w x) (number_or_of w xs))
    go true s there once rest =
        let x_is : x ≡ n = eqb-true x n s in
        ap (number_or_of w) (filter_absent n xs (ap (has xs) (sym x_is) ∙ once)) ∙ (sym (signed_twice (w n) (number_or_of w xs)) ∙ ap (λ m. signed (w n) (signed (w m) (number_or_of w xs))) (sym x_is))
    go false s there once rest = ap (signed (w x)) (rest there) ∙ signed_comm (w x) (w n) (number_or_of w xs)

or_toggled : (w : ℕ → Bool) (n : ℕ) (ns : List ℕ) → apart ns ≡ true → number_or_of w (toggled n ns) ≡ signed (w n) (number_or_of w ns)
or_toggled w n ns a = go (has ns n) refl
  where
    go : (b : Bool) → has ns n ≡ b → number_or_of w (cond b (filter (λ k. not (k == n)) ns) (n ∷ ns)) ≡ signed (w n) (number_or_of w ns)
    go true h = without_one w n ns a h
    go false h = refl

-- the exclusive or of the odd numbers is that of all
pub odd_or : (w : ℕ → Bool) (ns : List ℕ) → number_or_of w (odd_numbers ns) ≡ number_or_of w ns
odd_or w [] = refl
odd_or w (n ∷ ns) = or_toggled w n (odd_numbers ns) (apart-odd ns) ∙ ap (signed (w n)) (odd_or w ns)

-- no more numbers are odd than stand there
pub few_odd : (ns : List ℕ) → length (odd_numbers ns) ≤ length ns
few_odd [] = omega arith
few_odd (n ∷ ns) = omega (arith, go (has (odd_numbers ns) n), few_odd ns)
  where
    go : (b : Bool) → length (cond b (filter (λ k. not (k == n)) (odd_numbers ns)) (n ∷ odd_numbers ns)) ≤ suc (length (odd_numbers ns))
    go true = omega (arith, length-filter (λ k. not (k == n)) (odd_numbers ns), count_by-le-length (λ k. not (k == n)) (odd_numbers ns))
    go false = omega arith

-- the odd numbers of variables are the odd variables
pub odd_of_vars : (vars : List Var) → odd_numbers (map (λ v. v.0) vars) ≡ odd_vars vars
odd_of_vars [] = refl
odd_of_vars (v ∷ vars) = ap (toggled v.0) (odd_of_vars vars)

toggled_all : (p : ℕ → Bool) (n : ℕ) (ns : List ℕ) → p n ≡ true → list_all p ns ≡ true → list_all p (toggled n ns) ≡ true
toggled_all p n ns e a = go (has ns n)
  where
    kept : (xs : List ℕ) → list_all p xs ≡ true → list_all p (filter (λ k. not (k == n)) xs) ≡ true
    kept [] h = refl
    kept (x ∷ xs) h =
        let q : (p x ≡ true) × (list_all p xs ≡ true) = and_parts _ _ h in
        one (x == n) q.0 (kept xs q.1)
      where
        one : (b : Bool) → p x ≡ true → list_all p (filter (λ k. not (k == n)) xs) ≡ true → list_all p (cond (not b) (x ∷ filter (λ k. not (k == n)) xs) (filter (λ k. not (k == n)) xs)) ≡ true
        one true f r = r
        one false f r = and_from _ _ f r

    go : (b : Bool) → list_all p (cond b (filter (λ k. not (k == n)) ns) (n ∷ ns)) ≡ true
    go true = kept ns a
    go false = and_from _ _ e a

-- they pass what all pass
pub odd_all : (p : ℕ → Bool) (ns : List ℕ) → list_all p ns ≡ true → list_all p (odd_numbers ns) ≡ true
odd_all p [] e = refl
odd_all p (n ∷ ns) e =
    let q : (p n ≡ true) × (list_all p ns ≡ true) = and_parts _ _ e in
    toggled_all p n (odd_numbers ns) q.0 (odd_all p ns q.1)
