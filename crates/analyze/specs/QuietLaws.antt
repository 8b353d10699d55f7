-- What is learned is unit after the way back and new, and what a search keeps below its level. Every crate above may cite these facts.
use Rattle.std.proofs.Common.{◌≡◌, ◌<◌, ◌≤◌, ◌+◌, ◌-◌, ℕ, Bool, true, false, cond, not, eqb, leb, ◌&&◌, ◌||◌, List, [], ◌∷◌, ◌++◌, Some, refl, sym, ap, subst, ◌∙◌, ⊎_elim, arith, eq-eqb}
use Rattle.std.proofs.lemmas.Bool.{and_parts, and_from, or_cases, or_left, or_right, eqb-true, leb-true, leb-false, le-leb, false≢true, true≢false, not-true, not_from_false, both_ways, false_from_ne_true, cases_lt}
use Rattle.std.proofs.lemmas.List.Folds.{list_all-append}
use Rattle.std.specs.List.{list_any, list_all}
use Rattle.sat_lits.specs.InLits.{same_lit, opposite, is_distinct}
use Rattle.sat_lits.specs.ListLaws.{all_or_any, any_mono, all_mono, all_any_mono}
use Rattle.sat_lits.specs.declared.literal.InLit.{InLit}
use Rattle.sat_lits.specs.declared.literal.ClauseId.{ClauseId}
use Rattle.trail.specs.declared.trail.Step.{Step}
use Rattle.trail.specs.Trail.{true_in, false_in, set_in, unset_in, level_of, shaped, shaped_step, back_to}
use Rattle.trail.specs.Laws.{levels_low, back_nowhere, back_past, same_var, same_lit_self, same_lit_eq, false_set, true_back, consistent, back_twice}
use Rattle.clause_store.specs.Store.{Held, clause_at}
use Rattle.propagate.specs.Units.{unit_by, false_clause, quiet_clause, all_quiet}
use Rattle.propagate.specs.Reasons.{names, passes}
use Rattle.analyze.specs.Falsity.{false_at, false_by, has_present}
use Rattle.analyze.specs.LearnedClauses.{IsLearned, has_each_once, unit_by_first}
use Rattle.analyze.specs.Quiet.{QuietBelow, is_contained, is_new}
use Rattle.analyze.specs.FalsityLaws.{by_false, at_false, false_back, gone_unset}

-- a clause in which no variable stands twice has no literal twice
pub once_distinct : (lits : List InLit) → has_each_once lits ≡ true → is_distinct lits ≡ true
once_distinct [] e = refl
once_distinct (l ∷ ls) e =
    let p : (not (list_any (λ k. eqb l.var.0 k.var.0) ls) ≡ true) × (has_each_once ls ≡ true) = and_parts _ _ e in
    and_from _ _ (not_from_false _ (false_from_ne_true _ (λ (a : list_any (same_lit l) ls ≡ true). both_ways _ (not-true _ p.0) (any_mono (same_lit l) (λ (k : InLit). eqb l.var.0 k.var.0) (λ k b. eq-eqb _ _ (same_var l k b)) ls a))))
    (once_distinct ls p.1)

-- a clause that is false by one literal of the present level is unit after the way back to the level of the others
pub unit_after : (t : List Step) (back : ℕ) (first : InLit) (others : List InLit) → shaped t ≡ true → false_at t (level_of t) first ≡ true → list_all (false_by t back) others ≡ true → back < level_of t → unit_by (back_to back t) first (first ∷ others) ≡ true
unit_after t back first others e f o h =
    and_from _ _ (not_from_false _ (gone_unset t (level_of t) back first e f h))
    (and_from _ _ (or_left _ _ (same_lit_self first))
    (and_from _ _ (or_left _ _ (same_lit_self first))
    (all_mono (false_by t back) (λ (m : InLit). same_lit first m || false_in (back_to back t) m) (λ m g. or_right _ _ (false_back t back m g)) others o)))

-- the learned clause is
pub learned_unit : (held : List Held) (t : List Step) (c : List InLit) (back : ℕ) → shaped t ≡ true → (l : IsLearned held t c back) → unit_by (back_to back t) l.first c ≡ true
learned_unit held t c back e l = subst (λ (d : List InLit). unit_by (back_to back t) l.first d ≡ true) (sym l.parts) (unit_after t back l.first l.others e l.first_false l.others_false l.below)

-- by its first literal
pub learned_unit_by_first : (held : List Held) (t : List Step) (c : List InLit) (back : ℕ) → shaped t ≡ true → IsLearned held t c back → unit_by_first (back_to back t) c ≡ true
learned_unit_by_first held t c back e l = subst (λ (d : List InLit). unit_by_first (back_to back t) d ≡ true) (sym l.parts) (unit_after t back l.first l.others e l.first_false l.others_false l.below)

-- no clause that was quiet below the present level is within a clause that is false by one literal of that level
not_within : (t : List Step) (b : ℕ) (first : InLit) (others h : List InLit) → shaped t ≡ true → false_in t first ≡ true → list_all (false_by t b) others ≡ true → quiet_clause (back_to b t) h ≡ true → is_contained h (first ∷ others) ≡ true → ⊥
not_within t b first others h e f o q s =
    ⊎_elim
    (λ (a : list_any (true_in (back_to b t)) h ≡ true). all_or_any (λ (m : InLit). list_any (same_lit m) (first ∷ others)) (true_in (back_to b t)) ⊥ h s a
    (λ m x y. consistent t m e (true_back t b m y) (within_false m x)))
    (λ (a : list_any (λ l. unset_in (back_to b t) l && list_any (λ m. unset_in (back_to b t) m && not (same_lit l m)) h) h ≡ true).
    all_or_any (λ (m : InLit). list_any (same_lit m) (first ∷ others)) (λ (l : InLit). unset_in (back_to b t) l && list_any (λ m. unset_in (back_to b t) m && not (same_lit l m)) h) ⊥ h s a
    (λ l x y. let p : (unset_in (back_to b t) l ≡ true) × (list_any (λ m. unset_in (back_to b t) m && not (same_lit l m)) h ≡ true) = and_parts _ _ y in
    all_or_any (λ (m : InLit). list_any (same_lit m) (first ∷ others)) (λ (m : InLit). unset_in (back_to b t) m && not (same_lit l m)) ⊥ h s p.1
    (λ m u v. let r : (unset_in (back_to b t) m ≡ true) × (not (same_lit l m) ≡ true) = and_parts _ _ v in
    both_ways _ (not-true _ r.1) (subst (λ (z : InLit). same_lit l z ≡ true) (unset_first l x p.0 ∙ sym (unset_first m u r.0)) (same_lit_self l)))))
    (or_cases _ _ q)
  where
    within_false : (m : InLit) → list_any (same_lit m) (first ∷ others) ≡ true → false_in t m ≡ true
    within_false m x = ⊎_elim (λ (a : same_lit m first ≡ true). subst (λ (z : InLit). false_in t z ≡ true) (sym (same_lit_eq m first a)) f)
        (λ (a : list_any (same_lit m) others ≡ true). all_or_any (false_by t b) (same_lit m) (false_in t m ≡ true) others o a (λ l c d. subst (λ (z : InLit). false_in t z ≡ true) (sym (same_lit_eq m l d)) (by_false t b l c))) (or_cases _ _ x)

    unset_first : (m : InLit) → list_any (same_lit m) (first ∷ others) ≡ true → unset_in (back_to b t) m ≡ true → m ≡ first
    unset_first m x u = ⊎_elim (λ (a : same_lit m first ≡ true). same_lit_eq m first a)
        (λ (a : list_any (same_lit m) others ≡ true). all_or_any (false_by t b) (same_lit m) (m ≡ first) others o a
        (λ l c d. absurd (both_ways _ (not-true _ u) (false_set (back_to b t) m (subst (λ (z : InLit). false_in (back_to b t) z ≡ true) (sym (same_lit_eq m l d)) (false_back t b l c)))))) (or_cases _ _ x)

-- what is learned is new where nothing was false or unit below the present level
pub learned_new : (held : List Held) (t : List Step) (c : List InLit) (back : ℕ) → shaped t ≡ true → QuietBelow held t → IsLearned held t c back → is_new held c ≡ true
learned_new held t c back e q l =
    all_mono (λ (h : Held). quiet_clause (back_to back t) h.lits) (λ (h : Held). not (is_contained h.lits c))
    (λ h x. not_from_false _ (false_from_ne_true _ (λ (y : is_contained h.lits c ≡ true).
    not_within t back l.first l.others h.lits e (at_false t (level_of t) l.first l.first_false) l.others_false x (subst (λ (d : List InLit). is_contained h.lits d ≡ true) l.parts y))))
    held (q back l.below)

-- below its own back level the learned clause is quiet: its first literal and one of that level are unset
quiet_below_back : (t : List Step) (back b : ℕ) (first : InLit) (others : List InLit) → shaped t ≡ true → false_at t (level_of t) first ≡ true → back < level_of t → list_any (false_at t back) others ≡ true → b < back → quiet_clause (back_to b t) (first ∷ others) ≡ true
quiet_below_back t back b first others e f l a h =
    or_right _ _ (or_left _ _ (and_from _ _ (unset first (level_of t) f (omega arith))
    (or_right _ _ (any_mono (false_at t back) (λ (m : InLit). unset_in (back_to b t) m && not (same_lit first m)) (λ m g. and_from _ _ (unset m back g h) (not_from_false _ (differ m g))) others a))))
  where
    unset : (m : InLit) (k : ℕ) → false_at t k m ≡ true → b < k → unset_in (back_to b t) m ≡ true
    unset m k g i = not_from_false _ (gone_unset t k b m e g i)

    differ : (m : InLit) → false_at t back m ≡ true → same_lit first m ≡ false
    differ m g = false_from_ne_true _ (λ (s : same_lit first m ≡ true).
        let x : set_in (back_to back t) first.var.0 ≡ false = gone_unset t (level_of t) back first e f l in
        let y : set_in (back_to back t) m.var.0 ≡ true = false_set (back_to back t) m (false_back t back m (any_mono (λ (r : Step). opposite r.lit m && eqb r.level back) (λ (r : Step). opposite r.lit m && leb r.level back)
        (λ r o. let p : (opposite r.lit m ≡ true) × (eqb r.level back ≡ true) = and_parts _ _ o in let q : r.level ≡ back = eqb-true _ _ p.1 in and_from _ _ p.0 (le-leb r.level back (omega arith))) t g)) in
        both_ways _ x (ap (set_in (back_to back t)) (same_var first m s) ∙ y))

pub learned_quiet : (held : List Held) (t : List Step) (c : List InLit) (back b : ℕ) → shaped t ≡ true → IsLearned held t c back → b < back → quiet_clause (back_to b t) c ≡ true
learned_quiet held t c back b e l h =
    subst (λ (d : List InLit). quiet_clause (back_to b t) d ≡ true) (sym l.parts)
    (⊎_elim (λ (z : back ≡ 0). absurd (omega arith)) (λ (z : list_any (false_at t back) l.others ≡ true). quiet_below_back t back b l.first l.others e l.first_false l.below z h) l.attained)

-- a decision on a quiet trail keeps all quiet below its level
pub decide_keeps : (held : List Held) (t : List Step) (d : Step) → shaped (d ∷ t) ≡ true → d.level ≡ level_of t + 1 → all_quiet t held ≡ true → QuietBelow held t → QuietBelow held (d ∷ t)
decide_keeps held t d e l q h b i =
    let p : (shaped_step t d ≡ true) × (shaped t ≡ true) = and_parts _ _ e in
    subst (λ (z : List Step). all_quiet z held ≡ true) (sym (back_past t d b i))
    (⊎_elim (λ (y : b < level_of t). h b y) (λ (y : level_of t ≤ b). subst (λ (z : List Step). all_quiet z held ≡ true) (sym (back_nowhere t b p.1 y)) q) (cases_lt b (level_of t)))

-- a literal of the present level does
pub assign_keeps : (held : List Held) (t : List Step) (s : Step) → s.level ≡ level_of t → QuietBelow held t → QuietBelow held (s ∷ t)
assign_keeps held t s l h b i = subst (λ (z : List Step). all_quiet z held ≡ true) (sym (back_past t s b i)) (h b (omega arith))

-- the way back does
pub back_keeps : (held : List Held) (t : List Step) (k : ℕ) → k ≤ level_of t → level_of (back_to k t) ≤ k → QuietBelow held t → QuietBelow held (back_to k t)
back_keeps held t k h l q b i = subst (λ (z : List Step). all_quiet z held ≡ true) (sym (back_twice t b k (omega arith))) (q b (omega arith))

-- and a conflict does, with the learned clause too: the way back to its level, and its first literal there
pub conflict_keeps : (held : List Held) (t : List Step) (more : Held) (back : ℕ) (s : Step) → shaped t ≡ true → IsLearned held t more.lits back → s.level ≡ back → QuietBelow held t → QuietBelow (held ++ more ∷ []) (s ∷ back_to back t)
conflict_keeps held t more back s e l v q b h =
    subst (λ (z : List Step). all_quiet z (held ++ more ∷ []) ≡ true) (sym (back_past (back_to back t) s b h))
    (subst (λ (z : List Step). all_quiet z (held ++ more ∷ []) ≡ true) (sym (back_twice t b back (omega arith))) both)
  where
    old : all_quiet (back_to b t) held ≡ true
    old = let z : back < level_of t = l.below in q b (omega arith)

    both : all_quiet (back_to b t) (held ++ more ∷ []) ≡ true
    both =
        list_all-append (λ (h : Held). quiet_clause (back_to b t) h.lits) held (more ∷ [])
        ∙ and_from _ _ old (and_from _ _ (learned_quiet held t more.lits back b e l (omega arith)) refl)

-- where every clause passes one test and a named clause another, that clause passes both
names_and : (q : Held → Bool) (p r : List InLit → Bool) (held : List Held) (id : ClauseId) → ((h : Held) → q h ≡ true → p h.lits ≡ true → r h.lits ≡ true) → list_all q held ≡ true → names held id p ≡ true → names held id r ≡ true
names_and q p r [] id k a e = absurd (false≢true e)
names_and q p r (h ∷ rest) id k a e =
    let b : (q h ≡ true) × (list_all q rest ≡ true) = and_parts _ _ a in
    go (eqb h.id id.0) e b.0 (λ (f : names rest id p ≡ true). names_and q p r rest id k b.1 f)
  where
    go : (x : Bool) → passes p (cond x (Some h) (clause_at rest id.0)) ≡ true → q h ≡ true → (names rest id p ≡ true → names rest id r ≡ true) → passes r (cond x (Some h) (clause_at rest id.0)) ≡ true
    go true f g more = k h g f
    go false f g more = more f

any_without : {X : Type 0} (p q : X → Bool) (xs : List X) → list_any p xs ≡ true → list_any (λ x. p x && q x) xs ≡ false → list_any (λ x. p x && not (q x)) xs ≡ true
any_without p q [] e f = absurd (false≢true e)
any_without p q (x ∷ xs) e f = go (p x) (q x) e f (any_without p q xs)
  where
    go : (a b : Bool) → (a || list_any p xs) ≡ true → ((a && b) || list_any (λ y. p y && q y) xs) ≡ false → (list_any p xs ≡ true → list_any (λ y. p y && q y) xs ≡ false → list_any (λ y. p y && not (q y)) xs ≡ true)
        → ((a && not b) || list_any (λ y. p y && not (q y)) xs) ≡ true
    go true true e f r = absurd (true≢false f)
    go true false e f r = refl
    go false b e f r = r e f

-- a false literal that the way back unsets is false by the level that it takes back
unset_present : (t : List Step) (b : ℕ) (l : InLit) → shaped t ≡ true → b + 1 ≡ level_of t → false_in t l ≡ true → unset_in (back_to b t) l ≡ true → false_at t (level_of t) l ≡ true
unset_present t b l e h f u =
    let n : false_by t b l ≡ false = false_from_ne_true _ (λ (a : false_by t b l ≡ true). both_ways _ (not-true _ u) (false_set (back_to b t) l (false_back t b l a))) in
    all_any_mono (λ (s : Step). leb s.level (level_of t)) (λ (s : Step). opposite s.lit l && not (leb s.level b)) (λ (s : Step). opposite s.lit l && eqb s.level (level_of t))
    (λ s x y. let p : (opposite s.lit l ≡ true) × (not (leb s.level b) ≡ true) = and_parts _ _ y in
    let i : s.level ≤ level_of t = leb-true _ _ x in
    let j : b < s.level = leb-false _ _ (not-true _ p.1) in
    and_from _ _ p.0 (eq-eqb _ _ (omega arith)))
    t (levels_low t (level_of t) e (omega arith)) (any_without (λ (s : Step). opposite s.lit l) (λ (s : Step). leb s.level b) t f n)

-- a false clause that was quiet below the present level holds a literal of it
quiet_present : (t : List Step) (b : ℕ) (c : List InLit) → shaped t ≡ true → b + 1 ≡ level_of t → quiet_clause (back_to b t) c ≡ true → false_clause t c ≡ true → has_present t c ≡ true
quiet_present t b c e h q f =
    ⊎_elim
    (λ (a : list_any (true_in (back_to b t)) c ≡ true). all_or_any (false_in t) (true_in (back_to b t)) (has_present t c ≡ true) c f a (λ l x y. absurd (consistent t l e (true_back t b l y) x)))
    (λ (a : list_any (λ l. unset_in (back_to b t) l && list_any (λ m. unset_in (back_to b t) m && not (same_lit l m)) c) c ≡ true).
    all_any_mono (false_in t) (λ (l : InLit). unset_in (back_to b t) l && list_any (λ m. unset_in (back_to b t) m && not (same_lit l m)) c) (false_at t (level_of t))
    (λ l x y. unset_present t b l e h x (and_parts (unset_in (back_to b t) l) (list_any (λ m. unset_in (back_to b t) m && not (same_lit l m)) c) y).0) c f a)
    (or_cases _ _ q)

pub conflict_present : (held : List Held) (t : List Step) (id : ClauseId) → shaped t ≡ true → 0 < level_of t → QuietBelow held t → names held id (false_clause t) ≡ true → names held id (has_present t) ≡ true
conflict_present held t id e h q n =
    let b : level_of t - 1 + 1 ≡ level_of t = omega arith in
    names_and (λ (k : Held). quiet_clause (back_to (level_of t - 1) t) k.lits) (false_clause t) (has_present t) held id (λ k x y. quiet_present t (level_of t - 1) k.lits e b x y) (q (level_of t - 1) (omega arith)) n
