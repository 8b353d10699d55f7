-- A watched literal is given up for another one.
use Rattle.std.proofs.Common.{◌≡◌, ◌≢◌, ◌<◌, ◌+◌, ◌-◌, ◌*◌, ◌/◌, ◌%◌, ◌⊎◌, inl, inr, ⊎_elim, ℕ, Bool, true, false, cond, eqb, List, [], ◌∷◌, ◌++◌, length, set, get_or, refl, sym, ap, ap₂, subst, ◌∙◌, arith, eq-eqb}
use Rattle.std.proofs.lemmas.Bool.{eqb-true, eqb-false, true≢false}
use Rattle.std.proofs.lemmas.List.{get_or-set_same, get_or-set_other, length-set}
use Rattle.std.specs.List.{list_any}
use Rattle.sat_lits.specs.InLits.{same_lit}
use Rattle.sat_lits.specs.declared.literal.InLit.{InLit}
use Rattle.propagate.specs.declared.watches.Taken.{Taken}
use Rattle.propagate.specs.Chains.{Linked, Lacks, Once, Keyed, AreChains, with_list}
use Rattle.propagate.specs.Watched.{Has, other_of, code_of, watch_at, key_in, no_lit, clause_of, is_whole, AreWatched}
use Rattle.propagate.proofs.Chaining.{put_in, other_lacks, key_at, gone}
use Rattle.trail.specs.Laws.{same_lit_eq, same_lit_self}

pub other_other : (e : ℕ) → other_of (other_of e) ≡ e
other_other e = go (eqb (e % 2) 0) refl
  where
    go : (b : Bool) → eqb (e % 2) 0 ≡ b → other_of (cond b (e + 1) (e - 1)) ≡ e
    go true q =
        let z : e % 2 ≡ 0 = eqb-true _ _ q in
        let o : (e + 1) % 2 ≡ 1 = omega (arith, z) in
        rw o (omega arith)
    go false q =
        let z : e % 2 ≡ 0 → ⊥ = eqb-false _ _ q in
        let o : (e - 1) % 2 ≡ 0 = omega (arith, z) in
        rw o (omega (arith, z))

pub other_half : (e : ℕ) → other_of e / 2 ≡ e / 2
other_half e = go (eqb (e % 2) 0) refl
  where
    go : (b : Bool) → eqb (e % 2) 0 ≡ b → cond b (e + 1) (e - 1) / 2 ≡ e / 2
    go true q =
        let z : e % 2 ≡ 0 = eqb-true _ _ q in
        omega (arith, z)
    go false q =
        let z : e % 2 ≡ 0 → ⊥ = eqb-false _ _ q in
        omega (arith, z)

pub other_not : (e : ℕ) → other_of e ≢ e
other_not e = go (eqb (e % 2) 0) refl
  where
    go : (b : Bool) → eqb (e % 2) 0 ≡ b → cond b (e + 1) (e - 1) ≢ e
    go true q h = omega (arith, h)
    go false q h =
        let z : e % 2 ≡ 0 → ⊥ = eqb-false _ _ q in
        omega (arith, z, h)

pub other_below : (e n : ℕ) → e < 2 * n → other_of e < 2 * n
other_below e n l = go (eqb (e % 2) 0) refl
  where
    go : (b : Bool) → eqb (e % 2) 0 ≡ b → cond b (e + 1) (e - 1) < 2 * n
    go true q =
        let z : e % 2 ≡ 0 = eqb-true _ _ q in
        omega (arith, z, l)
    go false q = omega (arith, l)

-- an entry of a chain is one of the table
pub entry_below : (next : List ℕ) (p e : ℕ) (front back : List ℕ) → Linked next p (front ++ e ∷ back) → e < length next
entry_below next p e [] back h = h.1
entry_below next p e (d ∷ ds) back h = entry_below next (get_or next d 0) e ds back h.2

pub has_mid : (e : ℕ) (front back : List ℕ) → Has e (front ++ e ∷ back)
has_mid e [] back = inl refl
has_mid e (d ∷ ds) back = inr (has_mid e ds back)

has_out : (d e : ℕ) (front back : List ℕ) → d ≢ e → Has d (front ++ e ∷ back) → Has d (front ++ back)
has_out d e [] back n h = ⊎_elim (λ q. absurd (n (sym q))) (λ r. r) h
has_out d e (x ∷ xs) back n h = ⊎_elim (λ q. inl q) (λ r. inr (has_out d e xs back n r)) h

has_in : (d e : ℕ) (front back : List ℕ) → Has d (front ++ back) → Has d (front ++ e ∷ back)
has_in d e [] back h = inr h
has_in d e (x ∷ xs) back h = ⊎_elim (λ q. inl q) (λ r. inr (has_in d e xs back r)) h

pub has_with : (k : ℕ) (xs : List ℕ) (lists : ℕ → List ℕ) (j d : ℕ) → (j ≡ k → Has d (lists j) → Has d xs) → Has d (lists j) → Has d (with_list k xs lists j)
has_with k xs lists j d f h = go (eqb j k) refl
  where
    go : (b : Bool) → eqb j k ≡ b → Has d (cond b xs (lists j))
    go true q = f (eqb-true j k q) h
    go false q = h

pub with_has : (k : ℕ) (xs : List ℕ) (lists : ℕ → List ℕ) (j d : ℕ) → Has d (with_list k xs lists j) → Has d xs ⊎ Has d (lists j)
with_has k xs lists j d h = go (eqb j k) h
  where
    go : (b : Bool) → Has d (cond b xs (lists j)) → Has d xs ⊎ Has d (lists j)
    go true g = inl g
    go false g = inr g

pub with_here : (k : ℕ) (xs : List ℕ) (lists : ℕ → List ℕ) → with_list k xs lists k ≡ xs
with_here k xs lists = rw (eq-eqb k k refl) refl

pub not_same_sym : (l m : InLit) → same_lit l m ≡ false → same_lit m l ≡ false
not_same_sym l m e = go (same_lit m l) refl
  where
    go : (b : Bool) → same_lit m l ≡ b → b ≡ false
    go true q = absurd (true≢false (sym (same_lit_self l) ∙ (ap (same_lit l) (sym (same_lit_eq m l q)) ∙ e)))
    go false q = refl

-- the watches after an entry was put into the chain of another key, where these were the other chains
pub record MovedTo (heads next : List ℕ) (watched : List InLit) (taken : List Taken) (whole : List Bool) (key : ℕ) (lists : ℕ → List ℕ) : Type 0 where
  pub now : AreWatched heads next watched taken whole
  pub at : (j : ℕ) → j ≢ key → now.lists j ≡ lists j

-- an entry that was taken out of its chain gets another literal of its clause
pub moved :
    (heads next : List ℕ) (watched : List InLit) (taken : List Taken) (whole : List Bool) (a : AreWatched heads next watched taken whole) (h2 n2 : List ℕ) (k e : ℕ) (front back : List ℕ) (l : InLit) → a.lists k ≡ front ++ e ∷ back
    → AreChains h2 n2 (key_in watched) (with_list k (front ++ back) a.lists) → length h2 ≡ length heads → length n2 ≡ length next → code_of l < length heads → list_any (same_lit l) (clause_of taken e) ≡ true → same_lit l (watch_at watched (other_of e)) ≡ false
    → MovedTo (set h2 (code_of l) (e + 1)) (set n2 e (get_or h2 (code_of l) 0)) (set watched e l) taken whole (code_of l) (with_list k (front ++ back) a.lists)
moved heads next watched taken whole a h2 n2 k e front back l s c lh ln hc hl ho =
    record {
      now =
          record {
            lists = with_list (code_of l) (e ∷ mid (code_of l)) mid;
            chains =
                put_in h2 n2 (key_in watched) (key_in (set watched e l)) mid (code_of l) e c lacking
                (subst (λ (n : ℕ). code_of l < n) (sym lh) hc)
                (subst (λ (n : ℕ). e < n) (sym ln) en)
                (ap code_of here)
                (λ d n. ap code_of (there_not d n));
            long = length-set n2 e (get_or h2 (code_of l) 0) ∙ (ln ∙ a.long);
            same = length-set watched e l ∙ a.same;
            flags = a.flags;
            there = λ d b w. there d b w (eqb d e) refl;
            within = λ d b w. within d b w (eqb d e) refl;
            apart = λ d b w. apart d b w (eqb d e) refl (eqb (other_of d) e) refl;
            only = only;
          };
      at = λ j n. at j n (eqb j (code_of l)) refl;
    }
  where
    mid : ℕ → List ℕ
    mid = with_list k (front ++ back) a.lists

    en : e < length next
    en = entry_below next (get_or heads k 0) e front back (subst (λ (xs : List ℕ). Linked next (get_or heads k 0) xs) s (a.chains.linked k))

    ew : e < length watched
    ew = let x : length next ≡ 2 * length taken = a.long in
        let y : length watched ≡ 2 * length taken = a.same in
        omega (arith, x, y, en)

    here : watch_at (set watched e l) e ≡ l
    here = get_or-set_same watched e l no_lit ew

    there_not : (d : ℕ) → d ≢ e → watch_at (set watched e l) d ≡ watch_at watched d
    there_not d n = get_or-set_other watched e d l no_lit n

    lacking : (j : ℕ) → Lacks e (mid j)
    lacking j = go (eqb j k) refl
      where
        go : (b : Bool) → eqb j k ≡ b → Lacks e (cond b (front ++ back) (a.lists j))
        go true q = gone e front back (subst Once s (a.chains.once k))
        go false q =
            other_lacks (key_in watched) e j (a.lists j)
            (λ (r : key_in watched e ≡ j). eqb-false j k q (sym r ∙ key_at (key_in watched) k e front back (subst (Keyed (key_in watched) k) s (a.chains.keyed k))))
            (a.chains.keyed j)

    keep : (d j : ℕ) → d ≢ e → Has d (a.lists j) → Has d (with_list (code_of l) (e ∷ mid (code_of l)) mid j)
    keep d j n h =
        has_with (code_of l) (e ∷ mid (code_of l)) mid j d (λ q r. inr (subst (λ (i : ℕ). Has d (mid i)) q r))
        (has_with k (front ++ back) a.lists j d (λ q r. has_out d e front back n (subst (Has d) s (subst (λ (i : ℕ). Has d (a.lists i)) q r))) h)

    there : (d : ℕ) → d < 2 * length taken → is_whole whole d ≡ false → (b : Bool) → eqb d e ≡ b → Has d (with_list (code_of l) (e ∷ mid (code_of l)) mid (key_in (set watched e l) d))
    there d bd w true q =
        let x : d ≡ e = eqb-true d e q in
        let y : key_in (set watched e l) d ≡ code_of l = ap (key_in (set watched e l)) x ∙ ap code_of here in
        subst (λ (i : ℕ). Has d (with_list (code_of l) (e ∷ mid (code_of l)) mid i)) (sym y)
        (subst (Has d) (sym (with_here (code_of l) (e ∷ mid (code_of l)) mid)) (inl (sym x)))
    there d bd w false q =
        let x : d ≢ e = eqb-false d e q in
        subst (λ (i : ℕ). Has d (with_list (code_of l) (e ∷ mid (code_of l)) mid i)) (sym (ap code_of (there_not d x))) (keep d (key_in watched d) x (a.there d bd w))

    within : (d : ℕ) → d < 2 * length taken → is_whole whole d ≡ false → (b : Bool) → eqb d e ≡ b → list_any (same_lit (watch_at (set watched e l) d)) (clause_of taken d) ≡ true
    within d bd w true q =
        let x : d ≡ e = eqb-true d e q in
        subst (λ (i : ℕ). list_any (same_lit (watch_at (set watched e l) i)) (clause_of taken i) ≡ true) (sym x) (subst (λ (m : InLit). list_any (same_lit m) (clause_of taken e) ≡ true) (sym here) hl)
    within d bd w false q = subst (λ (m : InLit). list_any (same_lit m) (clause_of taken d) ≡ true) (sym (there_not d (eqb-false d e q))) (a.within d bd w)

    apart : (d : ℕ) → d < 2 * length taken → is_whole whole d ≡ false → (b : Bool) → eqb d e ≡ b → (b2 : Bool) → eqb (other_of d) e ≡ b2 → same_lit (watch_at (set watched e l) d) (watch_at (set watched e l) (other_of d)) ≡ false
    apart d bd w true q b2 q2 =
        let x : d ≡ e = eqb-true d e q in
        subst (λ (i : ℕ). same_lit (watch_at (set watched e l) i) (watch_at (set watched e l) (other_of i)) ≡ false) (sym x)
        (ap₂ same_lit here (there_not (other_of e) (other_not e)) ∙ ho)
    apart d bd w false q true q2 =
        let x : other_of d ≡ e = eqb-true (other_of d) e q2 in
        let y : d ≡ other_of e = sym (other_other d) ∙ ap other_of x in
        ap₂ same_lit (there_not d (eqb-false d e q) ∙ ap (watch_at watched) y) (ap (watch_at (set watched e l)) x ∙ here)
        ∙ not_same_sym l (watch_at watched (other_of e)) ho
    apart d bd w false q false q2 = ap₂ same_lit (there_not d (eqb-false d e q)) (there_not (other_of d) (eqb-false (other_of d) e q2)) ∙ a.apart d bd w

    old_only : (d : ℕ) → Has d (front ++ back) → is_whole whole d ≡ false
    old_only d h = a.only k d (subst (Has d) (sym s) (has_in d e front back h))

    mid_only : (j d : ℕ) → Has d (mid j) → is_whole whole d ≡ false
    mid_only j d h = ⊎_elim (λ r. old_only d r) (λ r. a.only j d r) (with_has k (front ++ back) a.lists j d h)

    only : (j d : ℕ) → Has d (with_list (code_of l) (e ∷ mid (code_of l)) mid j) → is_whole whole d ≡ false
    only j d h =
        ⊎_elim
        (λ r. ⊎_elim (λ (x : e ≡ d). subst (λ (i : ℕ). is_whole whole i ≡ false) x (a.only k e (subst (Has e) (sym s) (has_mid e front back)))) (λ t. mid_only (code_of l) d t) r)
        (λ r. mid_only j d r)
        (with_has (code_of l) (e ∷ mid (code_of l)) mid j d h)

    at : (j : ℕ) → j ≢ code_of l → (b : Bool) → eqb j (code_of l) ≡ b → cond b (e ∷ mid (code_of l)) (mid j) ≡ mid j
    at j n true q = absurd (n (eqb-true j (code_of l) q))
    at j n false q = refl
