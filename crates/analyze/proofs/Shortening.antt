-- A clause without the literals that its others imply along chains of reasons.
use Rattle.std.proofs.Common.{◌≡◌, ◌<◌, ◌≤◌, ◌+◌, ℕ, Bool, true, false, cond, not, eqb, leb, ltb, ◌&&◌, ◌||◌, List, [], ◌∷◌, ◌++◌, length, filter, take, get_or, max, Option, Some, None, option_and_then, refl, sym, ap, subst, ◌∙◌, ⊎_elim, inl, inr, arith, append_assoc, eq-eqb, ltb-true, lt-ltb}
use Rattle.std.proofs.lemmas.Bool.{and_parts, and_from, or_cases, or_left, or_right, eqb-true, leb-true, le-leb, false≢true, true≢false, both_ways, not-true, not_from_false, false_from_ne_true, cases_lt}
use Rattle.std.proofs.lemmas.List.Folds.{list_all_more, list_any_kept, list_any_more}
use Rattle.std.specs.List.{list_any, list_all}
use Rattle.sat_lits.specs.InLits.{same_lit, opposite}
use Rattle.sat_lits.specs.ListLaws.{all_or_any, any_mono, all_mono, all_any_mono, both_all, all_filter}
use Rattle.sat_lits.specs.Truth.{clause_value}
use Rattle.sat_lits.specs.declared.literal.InLit.{InLit}
use Rattle.sat_lits.specs.declared.literal.ClauseId.{ClauseId}
use Rattle.trail.specs.declared.trail.Step.{Step}
use Rattle.trail.specs.Trail.{Assignment, false_in, level_in, level_of, step_in, reason_in, shaped, shaped_step}
use Rattle.trail.specs.Laws.{levels_low, level_up, opposite_var, filter_any, false_set}
use Rattle.clause_store.specs.Store.{Held, clause_at, is_live}
use Rattle.propagate.specs.Units.{gives}
use Rattle.propagate.specs.Reasons.{names, passes, has_reason, reasoned, lit_value, held_value}
use Rattle.propagate.specs.Laws.{named_all, names_live}
use Rattle.analyze.specs.declared.walk.Walk.{Walk}
use Rattle.analyze.specs.Falsity.{false_at, false_by, false_under}
use Rattle.analyze.specs.LearnedClauses.{ClauseFollows, IsLearned, has_each_once}
use Rattle.analyze.specs.Marking.{is_marked, is_root, level_or, IsGreatest}
use Rattle.analyze.specs.Met.{lits_met}
use Rattle.analyze.specs.Walks.{AtEnd}
use Rattle.analyze.specs.Chains.{either, is_settled, leaves_settled, AreImplied}
use Rattle.analyze.specs.FalsityLaws.{only_level}
use Rattle.analyze.proofs.Entailing.{same_lit_value, opposite_value, roots}
use Rattle.analyze.proofs.Tracking.{level_all}
use Rattle.analyze.proofs.Rests.{Split, split_parts}
use Rattle.analyze.proofs.Marked.{level_set}

-- a reason is live
pub reason_live : (held : List Held) (t : List Step) (v : ℕ) (id : ClauseId) → reasoned held t ≡ true → reason_in t v ≡ Some id → is_live held id.0 ≡ true
reason_live held [] v id r e = absurd (cc)
reason_live held (s ∷ older) v id r e =
    let q : (has_reason held older s s.reason ≡ true) × (reasoned held older ≡ true) = and_parts _ _ r in
    go (eqb s.lit.var.0 v) e q.0 (λ (f : reason_in older v ≡ Some id). reason_live held older v id q.1 f)
  where
    go : (b : Bool) → option_and_then (λ (k : Step). k.reason) (cond b (Some s) (step_in older v)) ≡ Some id → has_reason held older s s.reason ≡ true → (reason_in older v ≡ Some id → is_live held id.0 ≡ true) → is_live held id.0 ≡ true
    go true f h more = names_live held id (gives older s.lit) (subst (λ (o : Option ClauseId). has_reason held older s o ≡ true) f h)
    go false f h more = more f

-- an id that names a clause by two tests names one that passes both
names_both : (held : List Held) (id : ClauseId) (p q : List InLit → Bool) → names held id p ≡ true → names held id q ≡ true → names held id (λ c. p c && q c) ≡ true
names_both held id p q a b = go (clause_at held id.0) a b
  where
    go : (o : Option Held) → passes p o ≡ true → passes q o ≡ true → passes (λ c. p c && q c) o ≡ true
    go None f g = f
    go (Some h) f g = and_from _ _ f g

-- what is implied holds
pub holds : (a b : Bool) → (not a || b) ≡ true → a ≡ true → b ≡ true
holds true b e f = e
holds false b e f = absurd (false≢true f)

twice : (b : Bool) → not (not b) ≡ true → b ≡ true
twice true e = refl
twice false e = absurd (false≢true e)

-- whether a step is true, if it is marked and below a level
abbrev low_true : (ℕ → Bool) → (ℕ → Bool) → ℕ → Step → Bool
low_true w seen k s = not (seen s.lit.var.0 && ltb s.level k) || lit_value w s.lit

-- a settled literal that is false by older steps is false where the marked ones among these are true
settled_false : (w : ℕ → Bool) (held : List Held) (t older : List Step) (seen : ℕ → Bool) (k n : ℕ) (q : InLit) → held_value w held ≡ true → shaped t ≡ true → reasoned held t ≡ true → n < k → list_all (λ s. leb s.level n) older ≡ true
    → list_all (low_true w seen k) older ≡ true → is_settled seen t q ≡ true → false_in older q ≡ true → false_in t q ≡ true → lit_value w q ≡ false
settled_false w held t older seen k n q v sound r h low i st f ft =
    ⊎_elim
    (λ (a : seen q.var.0 ≡ true).
    all_or_any (λ (s : Step). low_true w seen k s && leb s.level n) (λ (s : Step). opposite s.lit q) (lit_value w q ≡ false) older
    (both_all (low_true w seen k) (λ (s : Step). leb s.level n) (λ (s : Step). low_true w seen k s && leb s.level n) (λ s x y. and_from _ _ x y) older i low) f
    (λ s x o. let p : (low_true w seen k s ≡ true) × (leb s.level n ≡ true) = and_parts _ _ x in
    let l : s.level ≤ n = leb-true _ _ p.1 in
    opposite_value w s.lit q o ∙ ap not (holds (seen s.lit.var.0 && ltb s.level k) (lit_value w s.lit) p.0 (and_from _ _ (ap seen (opposite_var s.lit q o) ∙ a) (lt-ltb _ _ (omega arith))))))
    (λ (a : is_root t q.var.0 ≡ true).
    let e : level_in t q.var.0 ≡ Some 0 = level_set t q.var.0 (false_set t q ft) ∙ ap Some (eqb-true _ _ a) in
    all_or_any (λ (s : Step). (not (eqb s.level 0) || lit_value w s.lit) && (not (eqb s.lit.var.0 q.var.0) || eqb s.level 0)) (λ (s : Step). opposite s.lit q) (lit_value w q ≡ false) t
    (both_all (λ (s : Step). not (eqb s.level 0) || lit_value w s.lit) (λ (s : Step). not (eqb s.lit.var.0 q.var.0) || eqb s.level 0)
    (λ (s : Step). (not (eqb s.level 0) || lit_value w s.lit) && (not (eqb s.lit.var.0 q.var.0) || eqb s.level 0)) (λ s x y. and_from _ _ x y) t
    (roots w held t v sound r) (level_all t q.var.0 0 sound e)) ft
    (λ s x o. let p : ((not (eqb s.level 0) || lit_value w s.lit) ≡ true) × ((not (eqb s.lit.var.0 q.var.0) || eqb s.level 0) ≡ true) = and_parts _ _ x in
    opposite_value w s.lit q o ∙ ap not (holds (eqb s.level 0) (lit_value w s.lit) p.0 (holds (eqb s.lit.var.0 q.var.0) (eqb s.level 0) p.1 (eq-eqb _ _ (opposite_var s.lit q o))))))
    (or_cases _ _ st)

-- a literal whose reason is settled is true
settled_true : (w : ℕ → Bool) (held : List Held) (t older : List Step) (s : Step) (seen : ℕ → Bool) (k : ℕ) (o : Option ClauseId) → held_value w held ≡ true → shaped t ≡ true → reasoned held t ≡ true → Split held t s older → s.level < k
    → list_all (low_true w seen k) older ≡ true → leaves_settled held t seen o ≡ true → has_reason held older s o ≡ true → lit_value w s.lit ≡ true
settled_true w held t older s seen k None v sound r x l i st h = absurd (false≢true st)
settled_true w held t older s seen k (Some id) v sound r x l i st h =
    let e : (shaped_step older s ≡ true) × (shaped older ≡ true) = and_parts _ _ x.is_shaped in
    let u : level_of older ≤ s.level = level_up older s e.0 in
    named_all (λ (h : Held). clause_value (lit_value w) h.lits) (λ c. gives older s.lit c && list_all (is_settled seen t) c) held id (lit_value w s.lit ≡ true) (names_both held id (gives older s.lit) (list_all (is_settled seen t)) h st) v
    (λ h a g.
    let p : (gives older s.lit h.lits ≡ true) × (list_all (is_settled seen t) h.lits ≡ true) = and_parts _ _ g in
    let q : (list_any (same_lit s.lit) h.lits ≡ true) × (list_all (λ m. same_lit s.lit m || false_in older m) h.lits ≡ true) = and_parts _ _ p.0 in
    all_or_any (λ (m : InLit). (same_lit s.lit m || false_in older m) && is_settled seen t m) (lit_value w) (lit_value w s.lit ≡ true) h.lits
    (both_all (λ (m : InLit). same_lit s.lit m || false_in older m) (is_settled seen t) (λ (m : InLit). (same_lit s.lit m || false_in older m) && is_settled seen t m) (λ m y z. and_from _ _ y z) h.lits q.1 p.1) a
    (λ m y z. let j : ((same_lit s.lit m || false_in older m) ≡ true) × (is_settled seen t m ≡ true) = and_parts _ _ y in
    ⊎_elim (λ (b : same_lit s.lit m ≡ true). same_lit_value w s.lit m b ∙ z)
    (λ (b : false_in older m ≡ true).
    absurd (both_ways _ (settled_false w held t older seen k s.level m v sound r l (levels_low older s.level e.1 u) i j.1 b (x.found (λ c. opposite c.lit m) (or_right _ _ b))) z))
    (or_cases _ _ j.0)))

-- where no literal that is kept is true, the marked and the implied steps below the level are
pub low_all : (w : ℕ → Bool) (held : List Held) (t gone rest : List Step) (seen implied : ℕ → Bool) (k : ℕ) (others : List InLit) → held_value w held ≡ true → shaped t ≡ true → reasoned held t ≡ true → AreImplied held t seen implied
    → list_all (λ s. not (seen s.lit.var.0) || (eqb s.level k || list_any (opposite s.lit) others)) t ≡ true → list_all (λ l. implied l.var.0 || not (lit_value w l)) others ≡ true → t ≡ gone ++ rest → list_all (low_true w (either seen implied) k) rest ≡ true
low_all w held t gone [] seen implied k others v sound r j n a p = refl
low_all w held t gone (s ∷ older) seen implied k others v sound r j n a p =
    let x : Split held t s older = split_parts held t gone older s p sound r in
    let i : list_all (low_true w (either seen implied) k) older ≡ true = low_all w held t (gone ++ s ∷ []) older seen implied k others v sound r j n a (p ∙ sym (append_assoc gone (s ∷ []) older)) in
    let h : ((not (seen s.lit.var.0) || (eqb s.level k || list_any (opposite s.lit) others)) ≡ true) × (list_all (λ q. not (seen q.lit.var.0) || (eqb q.level k || list_any (opposite q.lit) others)) older ≡ true) =
    and_parts _ _ (x.within (λ q. not (seen q.lit.var.0) || (eqb q.level k || list_any (opposite q.lit) others)) n) in
    and_from _ _ (go (either seen implied s.lit.var.0 && ltb s.level k) refl x i h.0) i
  where
    by_reason : Split held t s older → list_all (low_true w (either seen implied) k) older ≡ true → s.level < k → implied s.lit.var.0 ≡ true → lit_value w s.lit ≡ true
    by_reason x i l c =
        let d : leaves_settled held t (either seen implied) s.reason ≡ true = subst (λ (z : Option ClauseId). leaves_settled held t (either seen implied) z ≡ true) x.reason (j s.lit.var.0 c) in
        let q : (has_reason held older s s.reason ≡ true) × (reasoned held older ≡ true) = and_parts _ _ x.is_reasoned in
        settled_true w held t older s (either seen implied) k s.reason v sound r x l i d q.0

    one : Split held t s older → list_all (low_true w (either seen implied) k) older ≡ true → s.level < k → (m : InLit) → opposite s.lit m ≡ true → (implied m.var.0 || not (lit_value w m)) ≡ true → lit_value w s.lit ≡ true
    one x i l m o b =
        ⊎_elim (λ (c : implied m.var.0 ≡ true). by_reason x i l (ap implied (opposite_var s.lit m o) ∙ c))
        (λ (c : not (lit_value w m) ≡ true). twice _ (ap not (sym (opposite_value w s.lit m o)) ∙ c))
        (or_cases _ _ b)

    go : (b : Bool) → (either seen implied s.lit.var.0 && ltb s.level k) ≡ b → Split held t s older → list_all (low_true w (either seen implied) k) older ≡ true → (not (seen s.lit.var.0) || (eqb s.level k || list_any (opposite s.lit) others)) ≡ true → (not b || lit_value w s.lit) ≡ true
    go false f x i h = refl
    go true f x i h =
        let c : (either seen implied s.lit.var.0 ≡ true) × (ltb s.level k ≡ true) = and_parts _ _ f in
        let l : s.level < k = ltb-true _ _ c.1 in
        ⊎_elim
        (λ (e : seen s.lit.var.0 ≡ true).
        ⊎_elim (λ (y : eqb s.level k ≡ true). absurd (let z : s.level ≡ k = eqb-true _ _ y in omega arith))
        (λ (y : list_any (opposite s.lit) others ≡ true). all_or_any (λ (m : InLit). implied m.var.0 || not (lit_value w m)) (opposite s.lit) (lit_value w s.lit ≡ true) others a y (λ m b o. one x i l m o b))
        (or_cases _ _ (holds _ _ h e)))
        (λ (e : implied s.lit.var.0 ≡ true). by_reason x i l e)
        (or_cases _ _ c.0)

none_kept : (p q : InLit → Bool) (xs : List InLit) → list_any q (filter (λ l. not (p l)) xs) ≡ false → list_all (λ l. p l || not (q l)) xs ≡ true
none_kept p q [] e = refl
none_kept p q (x ∷ xs) e = go (p x) (q x) refl refl e (λ (f : list_any q (filter (λ l. not (p l)) xs) ≡ false). none_kept p q xs f)
  where
    go : (a b : Bool) → p x ≡ a → q x ≡ b → list_any q (cond (not a) (x ∷ filter (λ l. not (p l)) xs) (filter (λ l. not (p l)) xs)) ≡ false → (list_any q (filter (λ l. not (p l)) xs) ≡ false → list_all (λ l. p l || not (q l)) xs ≡ true)
        → ((a || not b) && list_all (λ l. p l || not (q l)) xs) ≡ true
    go true b f g h r = r h
    go false true f g h r = absurd (true≢false (sym (ap (λ (z : Bool). z || list_any q (filter (λ l. not (p l)) xs)) g) ∙ h))
    go false false f g h r = r (sym (ap (λ (z : Bool). z || list_any q (filter (λ l. not (p l)) xs)) g) ∙ h)

-- the clause follows without the literals that are implied
pub shortened : (held : List Held) (t : List Step) (seen implied : ℕ → Bool) (k : ℕ) (first : InLit) (others : List InLit) → shaped t ≡ true → reasoned held t ≡ true → AreImplied held t seen implied
    → list_all (λ s. not (seen s.lit.var.0) || (eqb s.level k || list_any (opposite s.lit) others)) t ≡ true → list_all (false_under t k) others ≡ true → list_all (λ l. seen l.var.0) others ≡ true → ClauseFollows held (first ∷ others)
    → ClauseFollows held (first ∷ filter (λ l. not (implied l.var.0)) others)
shortened held t seen implied k first others sound r j n under too follows w v = go (clause_value (lit_value w) (filter (λ l. not (implied l.var.0)) others)) refl
  where
    others_false : list_any (lit_value w) (filter (λ l. not (implied l.var.0)) others) ≡ false → list_any (lit_value w) others ≡ true → ⊥
    others_false f a =
        let low : list_all (low_true w (either seen implied) k) t ≡ true = low_all w held t [] t seen implied k others v sound r j n (none_kept (λ (l : InLit). implied l.var.0) (lit_value w) others f) refl in
        all_or_any (λ (l : InLit). false_under t k l && seen l.var.0) (lit_value w) ⊥ others (both_all (false_under t k) (λ (l : InLit). seen l.var.0) (λ (l : InLit). false_under t k l && seen l.var.0) (λ l x y. and_from _ _ x y) others under too) a
        (λ l x y. let p : (false_under t k l ≡ true) × (seen l.var.0 ≡ true) = and_parts _ _ x in
        all_or_any (low_true w (either seen implied) k) (λ (s : Step). opposite s.lit l && ltb s.level k) ⊥ t low p.0
        (λ s b c. let q : (opposite s.lit l ≡ true) × (ltb s.level k ≡ true) = and_parts _ _ c in
        both_ways _ (opposite_value w s.lit l q.0 ∙ ap not (holds (either seen implied s.lit.var.0 && ltb s.level k) (lit_value w s.lit) b (and_from _ _ (or_left _ _ (ap seen (opposite_var s.lit l q.0) ∙ p.1)) q.1))) y))

    go : (b : Bool) → clause_value (lit_value w) (filter (λ l. not (implied l.var.0)) others) ≡ b → (lit_value w first || b) ≡ true
    go true f = or_right _ _ refl
    go false f = ⊎_elim (λ (a : lit_value w first ≡ true). or_left _ _ a) (λ (a : list_any (lit_value w) others ≡ true). absurd (others_false f a)) (or_cases _ _ (follows w v))

-- a literal that is false under a level is so by its own level
under_at : (t : List Step) (k : ℕ) (l : InLit) → shaped t ≡ true → false_under t k l ≡ true → list_any (λ s. opposite s.lit l && (ltb s.level k && eqb s.level (level_or t l.var.0))) t ≡ true
under_at t k l e u =
    let f : false_in t l ≡ true = any_mono (λ (s : Step). opposite s.lit l && ltb s.level k) (λ (s : Step). opposite s.lit l) (λ s o. (and_parts (opposite s.lit l) (ltb s.level k) o).0) t u in
    all_any_mono (λ (s : Step). not (eqb s.lit.var.0 l.var.0) || eqb s.level (level_or t l.var.0)) (λ (s : Step). opposite s.lit l && ltb s.level k) (λ (s : Step). opposite s.lit l && (ltb s.level k && eqb s.level (level_or t l.var.0)))
    (λ s x y. let p : (opposite s.lit l ≡ true) × (ltb s.level k ≡ true) = and_parts _ _ y in and_from _ _ p.0 (and_from _ _ p.1 (holds _ _ x (eq-eqb _ _ (opposite_var s.lit l p.0))))) t (level_all t l.var.0 (level_or t l.var.0) e (level_set t l.var.0 (false_set t l f))) u

under_level : (t : List Step) (k : ℕ) (l : InLit) → shaped t ≡ true → false_under t k l ≡ true → level_or t l.var.0 < k
under_level t k l e u =
    all_or_any (λ (s : Step). true) (λ (s : Step). opposite s.lit l && (ltb s.level k && eqb s.level (level_or t l.var.0))) (level_or t l.var.0 < k) t (all_of t) (under_at t k l e u)
    (λ s x y. let p : (opposite s.lit l ≡ true) × ((ltb s.level k && eqb s.level (level_or t l.var.0)) ≡ true) = and_parts _ _ y in
    let q : (ltb s.level k ≡ true) × (eqb s.level (level_or t l.var.0) ≡ true) = and_parts _ _ p.1 in
    let a : s.level < k = ltb-true _ _ q.0 in let b : s.level ≡ level_or t l.var.0 = eqb-true _ _ q.1 in omega arith)
  where
    all_of : (xs : List Step) → list_all (λ (s : Step). true) xs ≡ true
    all_of [] = refl
    all_of (x ∷ xs) = all_of xs

under_exact : (t : List Step) (k : ℕ) (l : InLit) → shaped t ≡ true → false_under t k l ≡ true → false_at t (level_or t l.var.0) l ≡ true
under_exact t k l e u =
    any_mono (λ (s : Step). opposite s.lit l && (ltb s.level k && eqb s.level (level_or t l.var.0))) (λ (s : Step). opposite s.lit l && eqb s.level (level_or t l.var.0))
    (λ s y. let p : (opposite s.lit l ≡ true) × ((ltb s.level k && eqb s.level (level_or t l.var.0)) ≡ true) = and_parts _ _ y in and_from _ _ p.0 (and_parts (ltb s.level k) (eqb s.level (level_or t l.var.0)) p.1).1) t (under_at t k l e u)

by_level : (t : List Step) (n back : ℕ) (l : InLit) → n ≤ back → false_at t n l ≡ true → false_by t back l ≡ true
by_level t n back l h e =
    any_mono (λ (s : Step). opposite s.lit l && eqb s.level n) (λ (s : Step). opposite s.lit l && leb s.level back)
    (λ s y. let p : (opposite s.lit l ≡ true) × (eqb s.level n ≡ true) = and_parts _ _ y in let v : s.level ≡ n = eqb-true _ _ p.1 in and_from _ _ p.0 (le-leb s.level back (omega arith))) t e

once_filter : (p : InLit → Bool) (xs : List InLit) → has_each_once xs ≡ true → has_each_once (filter p xs) ≡ true
once_filter p [] e = refl
once_filter p (x ∷ xs) e =
    let a : (not (list_any (λ k. eqb x.var.0 k.var.0) xs) ≡ true) × (has_each_once xs ≡ true) = and_parts _ _ e in
    go (p x) a.0 (once_filter p xs a.1)
  where
    go : (b : Bool) → not (list_any (λ k. eqb x.var.0 k.var.0) xs) ≡ true → has_each_once (filter p xs) ≡ true → has_each_once (cond b (x ∷ filter p xs) (filter p xs)) ≡ true
    go true f r = and_from _ _ (not_from_false _ (false_from_ne_true _ (λ (g : list_any (λ k. eqb x.var.0 k.var.0) (filter p xs) ≡ true). both_ways _ (not-true _ f) (fewer xs g)))) r
      where
        fewer : (ys : List InLit) → list_any (λ k. eqb x.var.0 k.var.0) (filter p ys) ≡ true → list_any (λ k. eqb x.var.0 k.var.0) ys ≡ true
        fewer ys g = any_mono (λ (k : InLit). eqb x.var.0 k.var.0 && p k) (λ (k : InLit). eqb x.var.0 k.var.0) (λ k c. (and_parts (eqb x.var.0 k.var.0) (p k) c).0) ys (filter_any (λ (k : InLit). eqb x.var.0 k.var.0) p ys g)
    go false f r = r

-- the clause at the end of the walk, with its level, is learned
pub learned : (held : List Held) (trail : Assignment) (walk : Walk) (implied : ℕ → Bool) (first : InLit) (lits kept : List InLit) (back : ℕ) → reasoned held trail.steps ≡ true → AtEnd held trail walk first → AreImplied held trail.steps (is_marked walk.marks) implied
    → kept ≡ filter (λ l. not (implied l.var.0)) walk.others.items → lits ≡ first ∷ kept → IsGreatest trail.steps kept back → IsLearned held trail.steps lits back
learned held trail walk implied first lits kept back r x j e p g =
    let t : List Step = trail.steps in
    let sound : shaped trail.steps ≡ true = x.stands.kept.sound in
    let under : list_all (false_under trail.steps (level_of trail.steps)) kept ≡ true =
    subst (λ (z : List InLit). list_all (false_under trail.steps (level_of trail.steps)) z ≡ true) (sym e)
    (all_filter (false_under trail.steps (level_of trail.steps)) (λ (l : InLit). not (implied l.var.0)) (false_under trail.steps (level_of trail.steps)) (λ l a b. a) walk.others.items x.stands.tracks.under) in
    record {
      first = first;
      others = kept;
      parts = p;
      follows =
          subst (λ (z : List InLit). ClauseFollows held z) (sym p)
          (subst (λ (z : List InLit). ClauseFollows held (first ∷ z)) (sym e)
          (shortened held trail.steps (is_marked walk.marks) implied (level_of trail.steps) first walk.others.items sound r j x.stands.tracks.named x.stands.tracks.under x.stands.tracks.seen_too x.follows));
      first_false = x.first_false;
      others_false =
          both_all (false_under trail.steps (level_of trail.steps)) (λ (l : InLit). leb (level_or trail.steps l.var.0) back) (false_by trail.steps back)
          (λ l a b. by_level trail.steps (level_or trail.steps l.var.0) back l (leb-true _ _ b) (under_exact trail.steps (level_of trail.steps) l sound a)) kept under g.each;
      below =
          ⊎_elim (λ (a : back ≡ 0). let b : 0 < level_of trail.steps = x.above in omega arith)
          (λ (a : list_any (λ l. eqb (level_or trail.steps l.var.0) back) kept ≡ true).
          all_or_any (false_under trail.steps (level_of trail.steps)) (λ (l : InLit). eqb (level_or trail.steps l.var.0) back) (back < level_of trail.steps) kept under a
          (λ l b c. let d : level_or trail.steps l.var.0 < level_of trail.steps = under_level trail.steps (level_of trail.steps) l sound b in let q : level_or trail.steps l.var.0 ≡ back = eqb-true _ _ c in omega arith))
          g.attained;
      attained =
          ⊎_elim (λ (a : back ≡ 0). inl a)
          (λ (a : list_any (λ l. eqb (level_or trail.steps l.var.0) back) kept ≡ true).
          inr (all_any_mono (false_under trail.steps (level_of trail.steps)) (λ (l : InLit). eqb (level_or trail.steps l.var.0) back) (false_at trail.steps back)
          (λ l b c. subst (λ (n : ℕ). false_at trail.steps n l ≡ true) (eqb-true _ _ c) (under_exact trail.steps (level_of trail.steps) l sound b)) kept under a))
          g.attained;
      once =
          subst (λ (z : List InLit). has_each_once z ≡ true) (sym p)
          (and_from _ _
          (not_from_false _ (false_from_ne_true _ (λ (a : list_any (λ l. eqb first.var.0 l.var.0) kept ≡ true).
          all_or_any (false_under trail.steps (level_of trail.steps)) (λ (l : InLit). eqb first.var.0 l.var.0) ⊥ kept under a
          (λ l b c. all_or_any (λ (s : Step). not (eqb s.lit.var.0 first.var.0) || eqb s.level (level_of trail.steps)) (λ (s : Step). opposite s.lit l && ltb s.level (level_of trail.steps)) ⊥ trail.steps
          (only_level trail.steps (level_of trail.steps) first sound x.first_false) b
          (λ s d f. let q : (opposite s.lit l ≡ true) × (ltb s.level (level_of trail.steps) ≡ true) = and_parts _ _ f in
          let i : s.level < level_of trail.steps = ltb-true _ _ q.1 in
          let j : s.level ≡ level_of trail.steps = eqb-true _ _ (holds _ _ d (eq-eqb _ _ (opposite_var s.lit l q.0 ∙ sym (eqb-true _ _ c)))) in
          absurd (omega arith))))))
          (subst (λ (z : List InLit). has_each_once z ≡ true) (sym e) (once_filter (λ l. not (implied l.var.0)) walk.others.items x.stands.tracks.once)));
    }

-- and the variables of that clause are marked
pub learned_met : (held : List Held) (trail : Assignment) (walk : Walk) (implied : ℕ → Bool) (first : InLit) (lits kept : List InLit) → AtEnd held trail walk first
    → kept ≡ filter (λ l. not (implied l.var.0)) walk.others.items → lits ≡ first ∷ kept → lits_met walk.marks.vars lits ≡ true
learned_met held trail walk implied first lits kept x e p =
    subst (λ (z : List InLit). lits_met walk.marks.vars z ≡ true) (sym p)
    (and_from _ _ x.first_met
    (subst (λ (z : List InLit). lits_met walk.marks.vars z ≡ true) (sym e)
    (all_filter (λ (l : InLit). is_marked walk.marks l.var.0) (λ (l : InLit). not (implied l.var.0)) (λ (l : InLit). is_marked walk.marks l.var.0) (λ l a b. a) walk.others.items x.stands.tracks.seen_too)))

-- no literal has level 0 as the greatest
pub greatest_none : (t : List Step) → IsGreatest t [] 0
greatest_none t = record { each = refl; attained = inl refl }

-- one literal more
pub greatest_more : (t : List Step) (c : List InLit) (i : ℕ) (d : InLit) (g n : ℕ) → i < length c → n ≡ level_or t (get_or c i d).var.0 → IsGreatest t (take i c) g → IsGreatest t (take (i + 1) c) (max g n)
greatest_more t c i d g n h e a = record {
  each =
      list_all_more (λ l. leb (level_or t l.var.0) (max g n)) c i d h
      ∙ and_from _ _ (all_mono (λ (l : InLit). leb (level_or t l.var.0) g) (λ (l : InLit). leb (level_or t l.var.0) (max g n)) (λ l b. let j : level_or t l.var.0 ≤ g = leb-true _ _ b in le-leb (level_or t l.var.0) (max g n) (omega arith)) (take i c) a.each) (le-leb (level_or t (get_or c i d).var.0) (max g n) (omega arith));
  attained = ⊎_elim (λ (b : g < n). inr (list_any_more (λ l. eqb (level_or t l.var.0) (max g n)) c i d h ∙ or_right _ _ (eq-eqb (level_or t (get_or c i d).var.0) (max g n) (omega arith))))
      (λ (b : n ≤ g). let m : max g n ≡ g = omega arith in
      ⊎_elim (λ (z : g ≡ 0). inl (omega arith))
      (λ (z : list_any (λ l. eqb (level_or t l.var.0) g) (take i c) ≡ true). inr (subst (λ (k : ℕ). list_any (λ l. eqb (level_or t l.var.0) k) (take (i + 1) c) ≡ true) (sym m) (list_any_kept (λ l. eqb (level_or t l.var.0) g) c i z)))
      a.attained)
      (cases_lt g n);
}
