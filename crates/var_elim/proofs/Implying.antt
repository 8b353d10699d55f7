-- A clause follows where another clause stands within it.
use Rattle.std.proofs.Common.{◌≡◌, ℕ, ◌<◌, ◌==◌, Bool, true, false, cond, not, ◌||◌, ◌&&◌, ltb, List, [], ◌∷◌, ◌++◌, append_assoc, Option, Some, None, refl, sym, ap, subst, ◌∙◌, arith, filter, map, option_map, eqb-true, eq-eqb, ne_eqb, ltb-true, ⊎_elim}
use Rattle.std.proofs.lemmas.Bool.{and_parts, and_from, or_left, or_right, or_cases, false≢true}
use Rattle.std.specs.List.{list_all, list_any}
use Rattle.sat_lits.specs.ListLaws.{all_mono, any_mono, any_map, all_filter, filter_all}
use Rattle.sat_lits.specs.Truth.{clause_value, clauses_value}
use Rattle.sat_lits.specs.InLits.{same_lit}
use Rattle.sat_lits.specs.declared.literal.OwnLit.{OwnLit}
use Rattle.sat_lits.specs.declared.literal.InLit.{InLit}
use Rattle.rebuild_stack.specs.Values.{own_value}
use Rattle.clause_store.specs.Store.{Held, IsKept, clause_at, without, hard_of, rising}
use Rattle.state_laws.specs.HeldLaws.{all_found, id_found}
use Rattle.var_maps.specs.Maps.{Maps}
use Rattle.state_laws.specs.Held.{own_of, own_clause, own_clauses}
use Rattle.state_laws.specs.Kernel.{Kernel, IsImplied}
use Rattle.var_elim.specs.Subsumption.{is_within, subsumes_at}
use Rattle.var_elim.specs.Dropping.{IsHard, AreNeedless, Drops, AreCovered, is_covered, without_each}
use Rattle.var_elim.specs.Marked.{IsMarked}
use Rattle.var_elim.specs.declared.subsume.Subsumer.{Subsumer}
use Rattle.var_elim.proofs.Marking.{same_is, same_self}

-- whether a hard clause is true; a learned one counts as true
abbrev pub holds_in : Maps → (OwnLit → Bool) → Held → Bool
holds_in m f h = h.learned || clause_value f (own_clause m h.lits)

-- the hard clauses are true where each is
each_holds : (m : Maps) (f : OwnLit → Bool) (hs : List Held) → clauses_value f (own_clauses m (hard_of hs)) ≡ list_all (holds_in m f) hs
each_holds m f [] = refl
each_holds m f (h ∷ hs) = go h.learned refl (each_holds m f hs)
  where
    go : (b : Bool) → h.learned ≡ b → clauses_value f (own_clauses m (hard_of hs)) ≡ list_all (holds_in m f) hs
        → clauses_value f (own_clauses m (map (λ (k : Held). k.lits) (cond (not b) (h ∷ filter (λ k. not k.learned) hs) (filter (λ k. not k.learned) hs)))) ≡ ((b || clause_value f (own_clause m h.lits)) && list_all (holds_in m f) hs)
    go true e r = r
    go false e r = ap (λ z. clause_value f (own_clause m h.lits) && z) r

-- what all others and the clause of an id pass, all pass
all_back : (p : Held → Bool) (hs : List Held) (i : ℕ) (k : Held) → rising hs ≡ true → clause_at hs i ≡ Some k → p k ≡ true → list_all p (without i hs) ≡ true → list_all p hs ≡ true
all_back p [] i k r e q a = refl
all_back p (x ∷ hs) i k r e q a =
    let u : (list_all (λ (j : Held). ltb x.id j.id) hs ≡ true) × (rising hs ≡ true) = and_parts _ _ r in
    go (x.id == i) refl (λ g t. all_back p hs i k u.1 g q t) e a
  where
    s : (list_all (λ (j : Held). ltb x.id j.id) hs ≡ true) × (rising hs ≡ true)
    s = and_parts _ _ r

    same : (y z : Held) → Some y ≡ Some z → y ≡ z
    same y z f = cc

    apart : x.id ≡ i → (j : Held) → ltb x.id j.id ≡ true → not (j.id == i) ≡ true
    apart f j t = ap not (ne_eqb j.id i (λ z. absurd (let l : x.id < j.id = ltb-true _ _ t in omega arith)))

    go : (b : Bool) → (x.id == i) ≡ b → (clause_at hs i ≡ Some k → list_all p (without i hs) ≡ true → list_all p hs ≡ true) → cond b (Some x) (clause_at hs i) ≡ Some k → list_all p (cond (not b) (x ∷ without i hs) (without i hs)) ≡ true → (p x && list_all p hs) ≡ true
    go true f back g t =
        and_from _ _ (ap p (same x k g) ∙ q)
        (subst (λ z. list_all p z ≡ true) (filter_all (λ (j : Held). not (j.id == i)) hs (all_mono (λ (j : Held). ltb x.id j.id) (λ j. not (j.id == i)) (apart (eqb-true _ _ f)) hs s.0)) t)
    go false f back g t =
        let u : (p x ≡ true) × (list_all p (without i hs) ≡ true) = and_parts _ _ t in
        and_from _ _ u.0 (back g u.1)

-- a clause with all literals of a true one is true
value_within : (f : InLit → Bool) (c d : List InLit) → is_within c d ≡ true → list_any f c ≡ true → list_any f d ≡ true
value_within f [] d e a = absurd (false≢true a)
value_within f (l ∷ c) d e a =
    let p : (list_any (same_lit l) d ≡ true) × (is_within c d ≡ true) = and_parts _ _ e in
    ⊎_elim (λ t. here d p.0 t) (λ t. value_within f c d p.1 t) (or_cases _ _ a)
  where
    here : (d : List InLit) → list_any (same_lit l) d ≡ true → f l ≡ true → list_any f d ≡ true
    here [] t u = absurd (false≢true t)
    here (m ∷ d) t u = ⊎_elim (λ s. or_left (f m) (list_any f d) (ap f (sym (same_is l m s)) ∙ u)) (λ s. or_right (f m) (list_any f d) (here d s u)) (or_cases _ _ t)

-- the clause of another id is still there
pub still_at : (hs : List Held) (i j : ℕ) (h : Held) → clause_at hs j ≡ Some h → (j ≡ i → ⊥) → clause_at (without i hs) j ≡ Some h
still_at [] i j h e n = cc
still_at (x ∷ hs) i j h e n = go (x.id == i) refl (x.id == j) refl (λ q. still_at hs i j h q n) e
  where
    go : (a : Bool) → (x.id == i) ≡ a → (b : Bool) → (x.id == j) ≡ b → (clause_at hs j ≡ Some h → clause_at (without i hs) j ≡ Some h) → cond b (Some x) (clause_at hs j) ≡ Some h → clause_at (cond (not a) (x ∷ without i hs) (without i hs)) j ≡ Some h
    go true f true g r q = absurd (n (sym (eqb-true _ _ g) ∙ eqb-true _ _ f))
    go true f false g r q = r q
    go false f true g r q = rw g q
    go false f false g r q = rw g (r q)

-- a marked clause is hard
abbrev pub marked_hard : (held : List Held) (by : Subsumer) → IsMarked held by → IsHard held by.id.0
marked_hard held by m = record { clause = m.clause; found = m.found; hard = m.hard }

-- a clause that has all literals of another hard clause follows from the others
pub needless_implied : (k : Kernel) (by id : ℕ) → IsKept k.store → (h : IsHard k.store.held by) → subsumes_at h.clause (clause_at k.store.held id) ≡ true → IsImplied k id
needless_implied k by id n h s = go (clause_at k.store.held id) refl s
  where
    go : (o : Option Held) → clause_at k.store.held id ≡ o → subsumes_at h.clause o ≡ true → IsImplied k id
    go None e t = absurd (false≢true t)
    go (Some d) e t =
        let p : (not (h.clause.id == d.id) ≡ true) × ((not d.learned && is_within h.clause.lits d.lits) ≡ true) = and_parts _ _ t in
        let q : (not d.learned ≡ true) × (is_within h.clause.lits d.lits ≡ true) = and_parts _ _ p.1 in
        let hard : d.learned ≡ false = not_true d.learned q.0 in
        record {
          hard = ap (option_map (λ (x : Held). x.learned)) e ∙ ap Some hard;
          follows = λ w v.
              each_holds k.maps (own_value w) k.store.held
              ∙ all_back (holds_in k.maps (own_value w)) k.store.held id d n.rises e (follows w d hard q.1 (there d p.0 e) (sym (each_holds k.maps (own_value w) (without id k.store.held)) ∙ v)) (sym (each_holds k.maps (own_value w) (without id k.store.held)) ∙ v);
        }
      where
        not_true : (b : Bool) → not b ≡ true → b ≡ false
        not_true true x = absurd (false≢true x)
        not_true false x = refl

        there : (d : Held) → not (h.clause.id == d.id) ≡ true → clause_at k.store.held id ≡ Some d → clause_at (without id k.store.held) by ≡ Some h.clause
        there d u e = still_at k.store.held id by h.clause h.found (λ z. absurd (false≢true (sym (ap not (eq-eqb h.clause.id d.id (id_found k.store.held by h.clause h.found ∙ (z ∙ sym (id_found k.store.held id d e))))) ∙ u)))

        follows : (w : ℕ → Bool) (d : Held) → d.learned ≡ false → is_within h.clause.lits d.lits ≡ true → clause_at (without id k.store.held) by ≡ Some h.clause → list_all (holds_in k.maps (own_value w)) (without id k.store.held) ≡ true → holds_in k.maps (own_value w) d ≡ true
        follows w d hard within at v =
            or_right d.learned (clause_value (own_value w) (own_clause k.maps d.lits))
            (any_map (own_value w) (own_of k.maps) d.lits
            ∙ value_within (λ l. own_value w (own_of k.maps l)) h.clause.lits d.lits within
            (sym (any_map (own_value w) (own_of k.maps) h.clause.lits) ∙ (sym (ap (λ b. b || clause_value (own_value w) (own_clause k.maps h.clause.lits)) h.hard) ∙ all_found (holds_in k.maps (own_value w)) (without id k.store.held) by h.clause at v)))

-- a clause has all its own literals
within_self : (c : List InLit) → is_within c c ≡ true
within_self c = go [] c
  where
    here : (front : List InLit) (l : InLit) (ls : List InLit) → list_any (same_lit l) (front ++ l ∷ ls) ≡ true
    here [] l ls = or_left (same_lit l l) (list_any (same_lit l) ls) (same_self l)
    here (m ∷ front) l ls = or_right (same_lit l m) (list_any (same_lit l) (front ++ l ∷ ls)) (here front l ls)

    go : (front ls : List InLit) → is_within ls (front ++ ls) ≡ true
    go front [] = refl
    go front (l ∷ ls) = and_from _ _ (here front l ls) (subst (λ z. is_within ls z ≡ true) (append_assoc front (l ∷ []) ls) (go (front ++ l ∷ []) ls))

-- what has all literals of a clause has those of a clause within it
within_within : (c d e : List InLit) → is_within c d ≡ true → is_within d e ≡ true → is_within c e ≡ true
within_within c d e p q = all_mono (λ (l : InLit). list_any (same_lit l) d) (λ l. list_any (same_lit l) e) (λ l. value_within (same_lit l) d e q) c p

-- clauses stand within themselves
covered_self : (hs : List Held) → AreCovered hs hs
covered_self hs = go [] hs
  where
    one : (h : Held) → (h.learned || (not h.learned && is_within h.lits h.lits)) ≡ true
    one h = cases h.learned
      where
        cases : (b : Bool) → (b || (not b && is_within h.lits h.lits)) ≡ true
        cases true = refl
        cases false = within_self h.lits

    here : (front : List Held) (h : Held) (ks : List Held) → (h.learned || is_covered (front ++ h ∷ ks) h) ≡ true
    here [] h ks = ⊎_elim (λ t. or_left h.learned (is_covered (h ∷ ks) h) t) (λ t. or_right h.learned (is_covered (h ∷ ks) h) (or_left (not h.learned && is_within h.lits h.lits) (is_covered ks h) t)) (or_cases h.learned (not h.learned && is_within h.lits h.lits) (one h))
    here (k ∷ front) h ks = ⊎_elim (λ t. or_left h.learned (is_covered (k ∷ (front ++ h ∷ ks)) h) t) (λ t. or_right h.learned (is_covered (k ∷ (front ++ h ∷ ks)) h) (or_right (not k.learned && is_within k.lits h.lits) (is_covered (front ++ h ∷ ks) h) t)) (or_cases h.learned (is_covered (front ++ h ∷ ks) h) (here front h ks))

    go : (front ks : List Held) → list_all (λ h. h.learned || is_covered (front ++ ks) h) ks ≡ true
    go front [] = refl
    go front (k ∷ ks) = and_from _ _ (here front k ks) (subst (λ (z : List Held). list_all (λ h. h.learned || is_covered z h) ks ≡ true) (append_assoc front (k ∷ []) ks) (go (front ++ k ∷ []) ks))

-- fewer clauses rise too
pub rising_without : (i : ℕ) (hs : List Held) → rising hs ≡ true → rising (without i hs) ≡ true
rising_without i [] r = refl
rising_without i (x ∷ hs) r =
    let s : (list_all (λ (j : Held). ltb x.id j.id) hs ≡ true) × (rising hs ≡ true) = and_parts _ _ r in
    go (x.id == i) (rising_without i hs s.1) (all_filter (λ (j : Held). ltb x.id j.id) (λ j. not (j.id == i)) (λ j. ltb x.id j.id) (λ j a b. a) hs s.0)
  where
    go : (b : Bool) → rising (without i hs) ≡ true → list_all (λ (j : Held). ltb x.id j.id) (without i hs) ≡ true → rising (cond (not b) (x ∷ without i hs) (without i hs)) ≡ true
    go true q a = q
    go false q a = and_from _ _ a q

-- each hard clause has all literals of one that is left where needless ones were dropped
pub drops_covered : (n : ℕ) (olds news : List Held) → rising olds ≡ true → Drops n olds news → AreCovered olds news
drops_covered n olds news r d = subst (λ (z : List Held). AreCovered olds z) (sym d.left) (go d.ids olds r d.needless)
  where
    go : (ids : List ℕ) (hs : List Held) → rising hs ≡ true → AreNeedless hs ids → AreCovered hs (without_each hs ids)
    go [] hs r a = covered_self hs
    go (i ∷ ids) hs r a = step (clause_at hs i) refl a.0.subsumed (go ids (without i hs) (rising_without i hs r) a.1)
      where
        step : (o : Option Held) → clause_at hs i ≡ o → subsumes_at a.0.other.clause o ≡ true → AreCovered (without i hs) (without_each (without i hs) ids) → AreCovered hs (without_each (without i hs) ids)
        step None e t c = absurd (false≢true t)
        step (Some k) e t c =
            let p : (not (a.0.other.clause.id == k.id) ≡ true) × ((not k.learned && is_within a.0.other.clause.lits k.lits) ≡ true) = and_parts _ _ t in
            let q : (not k.learned ≡ true) × (is_within a.0.other.clause.lits k.lits ≡ true) = and_parts _ _ p.1 in
            let at : clause_at (without i hs) a.0.by ≡ Some a.0.other.clause =
            still_at hs i a.0.by a.0.other.clause a.0.other.found
            (λ z. absurd (false≢true (sym (ap not (eq-eqb a.0.other.clause.id k.id (id_found hs a.0.by a.0.other.clause a.0.other.found ∙ (z ∙ sym (id_found hs i k e))))) ∙ p.0))) in
            let f : (a.0.other.clause.learned || is_covered (without_each (without i hs) ids) a.0.other.clause) ≡ true =
            all_found (λ (h : Held). h.learned || is_covered (without_each (without i hs) ids) h) (without i hs) a.0.by a.0.other.clause at c in
            let g : is_covered (without_each (without i hs) ids) a.0.other.clause ≡ true = sym (ap (λ b. b || is_covered (without_each (without i hs) ids) a.0.other.clause) a.0.other.hard) ∙ f in
            all_back (λ (h : Held). h.learned || is_covered (without_each (without i hs) ids) h) hs i k r e
            (or_right k.learned (is_covered (without_each (without i hs) ids) k)
            (any_mono (λ (j : Held). not j.learned && is_within j.lits a.0.other.clause.lits) (λ j. not j.learned && is_within j.lits k.lits)
            (λ j s. let u : (not j.learned ≡ true) × (is_within j.lits a.0.other.clause.lits ≡ true) = and_parts _ _ s in and_from _ _ u.0 (within_within j.lits a.0.other.clause.lits k.lits u.1 q.1)) (without_each (without i hs) ids) g)) c
