-- What the exchange keeps where variables are eliminated and needless clauses are dropped.
use Rattle.std.proofs.Common.{◌≡◌, ℕ, Bool, true, false, cond, not, ◌||◌, ◌&&◌, List, [], ◌∷◌, Option, Some, None, All, map, option_map, nat_lt, refl, sym, ap, subst, ◌∙◌, filter, ⊎_elim}
use Rattle.std.proofs.lemmas.Bool.{and_parts, and_from, or_left, or_right, or_cases, false≢true, not-true}
use Rattle.std.proofs.lemmas.List.Folds.{list_all-map}
use Rattle.std.specs.List.{list_any}
use Rattle.sat_lits.specs.ListLaws.{all_mono, any_mono, any_map}
use Rattle.sat_lits.specs.InLits.{same_lit}
use Rattle.sat_lits.specs.declared.literal.InLit.{InLit}
use Rattle.sat_lits.specs.declared.literal.Own.{Own}
use Rattle.sat_lits.specs.declared.literal.OwnLit.{OwnLit}
use Rattle.rebuild_stack.specs.PutIn.{same_lit as same_own}
use Rattle.clause_store.specs.Store.{Store, Held, clause_at, hard_of, learned_of, without, rising}
use Rattle.var_maps.specs.Maps.{Maps}
use Rattle.state_laws.specs.State.{State, is_active}
use Rattle.state_laws.specs.Stands.{Stands}
use Rattle.state_laws.specs.Moves.{eliminated, with_hard, with_learned}
use Rattle.state_laws.specs.Held.{own_of, own_clause, own_clauses}
use Rattle.state_laws.specs.Kernel.{Kernel, state_of}
use Rattle.state_laws.specs.EliminateLaws.{eliminated-Stands}
use Rattle.state_laws.specs.KernelLearnLaws.{other_marked}
use Rattle.private_state.specs.Bounds.{meets_bound}
use Rattle.sync_laws.specs.Met.{KeepsMet, is_within as is_within_own, are_subsumed}
use Rattle.sync_laws.specs.Told.{IsToldClause}
use Rattle.sync_laws.specs.FitLaws.{same_refl}
use Rattle.sync_laws.specs.KeepLaws.{keeps_refl, keeps_trans, eliminated-KeepsMet, with_hard-KeepsMet, with_learned-KeepsMet}
use Rattle.var_elim.specs.Subsumption.{is_within, subsumes_at}
use Rattle.var_elim.specs.Dropping.{Drops, AreCovered, AreNeedless, IsNeedless, is_covered, without_each}
use Rattle.var_elim.specs.Eliminating.{Eliminates, AllCanGo, eliminate_each}
use Rattle.var_elim.proofs.Marking.{same_is}
use Rattle.var_elim.proofs.Implying.{drops_covered, rising_without}

-- variables are eliminated one after another
pub eliminates_met : (n : ℕ) (left : ℕ → Bool) (s t : State) → Stands s → Eliminates n left s t → KeepsMet s t
eliminates_met n left s t h d = subst (λ z. KeepsMet s z) (sym d.state) (each d.vars s h d.could)
  where
    each : (vs : List Own) (s : State) → Stands s → AllCanGo left s vs → KeepsMet s (eliminate_each s vs)
    each [] s h a = keeps_refl s
    each (v ∷ vs) s h a =
        let p : (is_active s v.0 ≡ true) × (meets_bound s v.0 ≡ true) = and_parts _ _ a.0.1 in
        keeps_trans s (eliminated v s) (eliminate_each (eliminated v s) vs) (eliminated-KeepsMet v s h.clean.hard) (each vs (eliminated v s) (eliminated-Stands v s p.0 h) a.1)

-- literals that are the same are so in own numbers
own_same : (m : Maps) (k l : InLit) → same_lit k l ≡ true → same_own (own_of m k) (own_of m l) ≡ true
own_same m k l e = ap (λ (z : InLit). same_own (own_of m k) (own_of m z)) (sym (same_is k l e)) ∙ same_refl (own_of m k)

-- a clause within another is so in own literals
within_own : (m : Maps) (c d : List InLit) → is_within c d ≡ true → is_within_own (own_clause m c) (own_clause m d) ≡ true
within_own m c d e =
    list_all-map (λ (k : OwnLit). list_any (same_own k) (own_clause m d)) (own_of m) c
    ∙ all_mono (λ (k : InLit). list_any (same_lit k) d) (λ k. list_any (same_own (own_of m k)) (own_clause m d))
    (λ k f. any_map (same_own (own_of m k)) (own_of m) d ∙ any_mono (same_lit k) (λ l. same_own (own_of m k) (own_of m l)) (own_same m k) d f) c e

-- where a hard clause has all literals of one of these, it is so in own literals
covered_own : (m : Maps) (c : List InLit) (news : List Held) → list_any (λ k. not k.learned && is_within k.lits c) news ≡ true → list_any (λ d. is_within_own d (own_clause m c)) (own_clauses m (hard_of news)) ≡ true
covered_own m c [] e = absurd (false≢true e)
covered_own m c (k ∷ ks) e = go k.learned e (covered_own m c ks)
  where
    go : (b : Bool) → ((not b && is_within k.lits c) || list_any (λ (j : Held). not j.learned && is_within j.lits c) ks) ≡ true
        → (list_any (λ (j : Held). not j.learned && is_within j.lits c) ks ≡ true → list_any (λ d. is_within_own d (own_clause m c)) (own_clauses m (hard_of ks)) ≡ true)
        → list_any (λ d. is_within_own d (own_clause m c)) (own_clauses m (map (λ (j : Held). j.lits) (cond (not b) (k ∷ filter (λ j. not j.learned) ks) (filter (λ j. not j.learned) ks)))) ≡ true
    go true e r = r e
    go false e r = ⊎_elim (λ t. or_left _ _ (within_own m k.lits c t)) (λ t. or_right _ _ (r t)) (or_cases _ _ e)

-- clauses that are covered are subsumed in own literals
subsumed_own : (m : Maps) (olds news : List Held) → AreCovered olds news → are_subsumed (own_clauses m (hard_of olds)) (own_clauses m (hard_of news)) ≡ true
subsumed_own m [] news e = refl
subsumed_own m (h ∷ hs) news e =
    let p : ((h.learned || is_covered news h) ≡ true) × AreCovered hs news = and_parts _ _ e in
    go h.learned p.0 (subsumed_own m hs news p.1)
  where
    go : (b : Bool) → (b || is_covered news h) ≡ true → are_subsumed (own_clauses m (hard_of hs)) (own_clauses m (hard_of news)) ≡ true
        → are_subsumed (own_clauses m (map (λ (j : Held). j.lits) (cond (not b) (h ∷ filter (λ j. not j.learned) hs) (filter (λ j. not j.learned) hs)))) (own_clauses m (hard_of news)) ≡ true
    go true e r = r
    go false e r = and_from _ _ (covered_own m h.lits news e) r

-- a needless clause is hard
needless_hard : (hs : List Held) (i : ℕ) → IsNeedless hs i → option_map (λ h. h.learned) (clause_at hs i) ≡ Some false
needless_hard hs i n = go (clause_at hs i) n.subsumed
  where
    go : (o : Option Held) → subsumes_at n.other.clause o ≡ true → option_map (λ (h : Held). h.learned) o ≡ Some false
    go None t = absurd (false≢true t)
    go (Some d) t = ap Some (not-true d.learned (and_parts _ _ (and_parts _ _ t).1).0)

-- so the marked learned clauses stay where needless ones are dropped
marked_stay : (s : Store) (hs : List Held) (ids : List ℕ) → rising hs ≡ true → AreNeedless hs ids
    → filter (λ (h : Held). h.learned) (filter (λ h. nat_lt h.id s.mark) (without_each hs ids)) ≡ filter (λ h. h.learned) (filter (λ h. nat_lt h.id s.mark) hs)
marked_stay s hs [] r a = refl
marked_stay s hs (i ∷ ids) r a = marked_stay s (without i hs) ids (rising_without i hs r) a.1 ∙ other_marked (λ b. b) false i (record s { held = hs }) refl (needless_hard hs i a.0) r

-- needless clauses are dropped, and nothing else changes
pub drops_met : (n : ℕ) (k l : Kernel) → rising k.store.held ≡ true → l ≡ record k { store = record k.store { held = l.store.held } } → Drops n k.store.held l.store.held → KeepsMet (state_of k) (state_of l)
drops_met n k l r e d =
    let hard : List (List OwnLit) = own_clauses k.maps (hard_of l.store.held) in
    let learned : List (List OwnLit) = own_clauses k.maps (learned_of l.store.held) in
    let marked : List (List OwnLit) = own_clauses k.maps (learned_of (filter (λ (h : Held). nat_lt h.id k.store.mark) l.store.held)) in
    let stay : marked ≡ (state_of k).marked_learned =
    ap (λ (hs : List Held). own_clauses k.maps (learned_of (filter (λ h. nat_lt h.id k.store.mark) hs))) d.left
    ∙ ap (λ (hs : List Held). own_clauses k.maps (map (λ h. h.lits) hs)) (marked_stay k.store k.store.held d.ids r d.needless) in
    subst (λ (z : Kernel). KeepsMet (state_of k) (state_of z)) (sym e)
    (keeps_trans (state_of k) (with_hard hard (state_of k)) (with_learned learned marked (with_hard hard (state_of k)))
    (with_hard-KeepsMet hard (state_of k) (subsumed_own k.maps k.store.held l.store.held (drops_covered n k.store.held l.store.held r d)))
    (with_learned-KeepsMet learned marked (with_hard hard (state_of k)) (λ log. subst (All (IsToldClause (with_hard hard (state_of k)) log)) (sym stay))))
