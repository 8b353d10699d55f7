-- What marking, passing and taking a literal do to the counts of a walk.
use Rattle.std.proofs.Common.{◌≡◌, ◌<◌, ◌≤◌, ◌+◌, ℕ, suc, Bool, true, false, cond, not, eqb, ltb, ◌&&◌, ◌||◌, List, [], ◌∷◌, ◌++◌, length, Some, None, option_map, refl, sym, ap, subst, ◌∙◌, ⊎_elim, arith, eq-eqb, ne_eqb, ltb-true, lt-ltb}
use Rattle.std.proofs.lemmas.Bool.{and_parts, and_from, or_cases, or_left, or_right, or_from, eqb-true, true≢false, false≢true, not-true, not_from_false, both_ways, false_from_ne_true, cases_lt}
use Rattle.std.proofs.lemmas.List.Folds.{list_any-append, list_all-append}
use Rattle.std.specs.List.{list_any, list_all}
use Rattle.sat_lits.specs.InLits.{opposite}
use Rattle.sat_lits.specs.ListLaws.{all_or_any, any_mono, all_mono, all_any_mono, both_all}
use Rattle.sat_lits.specs.Truth.{clause_value}
use Rattle.sat_lits.specs.declared.literal.InLit.{InLit}
use Rattle.trail.specs.declared.trail.Step.{Step}
use Rattle.trail.specs.Trail.{false_in, set_in, step_in, level_in, level_of, shaped, shaped_step}
use Rattle.trail.specs.Laws.{step_new, level_up, opposite_var, false_set, none_elsewhere, only_opposite}
use Rattle.clause_store.specs.Store.{Held}
use Rattle.propagate.specs.Reasons.{has_reason, lit_value}
use Rattle.analyze.specs.Falsity.{false_under}
use Rattle.analyze.specs.LearnedClauses.{ClauseFollows, has_each_once}
use Rattle.analyze.specs.Walks.{denied, covered, marked, Tracks, Denies}
use Rattle.analyze.proofs.Entailing.{opposite_value}

-- the marks with one variable more
abbrev pub with_mark : (ℕ → Bool) → ℕ → ℕ → Bool
with_mark seen v n = eqb n v || seen n

-- each step of a variable stands at its level
pub level_all : (t : List Step) (v l : ℕ) → shaped t ≡ true → level_in t v ≡ Some l → list_all (λ s. not (eqb s.lit.var.0 v) || eqb s.level l) t ≡ true
level_all [] v l e f = refl
level_all (s ∷ older) v l e f =
    let p : (shaped_step older s ≡ true) × (shaped older ≡ true) = and_parts _ _ e in
    go (eqb s.lit.var.0 v) refl f (step_new older s p.0) (λ (g : level_in older v ≡ Some l). level_all older v l p.1 g)
  where
    go : (b : Bool) → eqb s.lit.var.0 v ≡ b → option_map (λ (r : Step). r.level) (cond b (Some s) (step_in older v)) ≡ Some l → set_in older s.lit.var.0 ≡ false
        → (level_in older v ≡ Some l → list_all (λ r. not (eqb r.lit.var.0 v) || eqb r.level l) older ≡ true) → ((not (eqb s.lit.var.0 v) || eqb s.level l) && list_all (λ r. not (eqb r.lit.var.0 v) || eqb r.level l) older) ≡ true
    go true e f n r =
        let x : s.level ≡ l = cc in
        let y : set_in older v ≡ false = ap (set_in older) (sym (eqb-true _ _ e)) ∙ n in
        and_from _ _ (or_right _ _ (eq-eqb _ _ x)) (none_elsewhere (λ (r : Step). eqb r.level l) older v y)
    go false e f n r = and_from _ _ (or_left _ _ (not_from_false _ e)) (r f)

-- no variable is above the present level
pub level_top : (t : List Step) (v l : ℕ) → shaped t ≡ true → level_in t v ≡ Some l → l ≤ level_of t
level_top [] v l e f = absurd (cc)
level_top (s ∷ older) v l e f =
    let p : (shaped_step older s ≡ true) × (shaped older ≡ true) = and_parts _ _ e in
    let u : level_of older ≤ s.level = level_up older s p.0 in
    go (eqb s.lit.var.0 v) f u (λ (g : level_in older v ≡ Some l). level_top older v l p.1 g)
  where
    go : (b : Bool) → option_map (λ (r : Step). r.level) (cond b (Some s) (step_in older v)) ≡ Some l → level_of older ≤ s.level → (level_in older v ≡ Some l → l ≤ level_of older) → l ≤ s.level
    go true g u r = let x : s.level ≡ l = cc in omega arith
    go false g u r = let x : l ≤ level_of older = r g in omega arith

pub shaped_rest : (gone rest : List Step) → shaped (gone ++ rest) ≡ true → shaped rest ≡ true
shaped_rest [] rest e = e
shaped_rest (s ∷ gone) rest e = shaped_rest gone rest (and_parts (shaped_step (gone ++ rest) s) (shaped (gone ++ rest)) e).1

pub all_rest : (p : Step → Bool) (gone rest : List Step) → list_all p (gone ++ rest) ≡ true → list_all p rest ≡ true
all_rest p gone rest e = (and_parts (list_all p gone) (list_all p rest) (sym (list_all-append p gone rest) ∙ e)).1

pub any_rest : (p : Step → Bool) (gone rest : List Step) → list_any p rest ≡ true → list_any p (gone ++ rest) ≡ true
any_rest p gone rest e = list_any-append p gone rest ∙ or_right _ _ e

-- a literal that is false by a marked step is covered
pub covered_seen : (seen : ℕ → Bool) (t : List Step) (m : InLit) → seen m.var.0 ≡ true → false_in t m ≡ true → covered seen t m ≡ true
covered_seen seen t m e f =
    any_mono (λ (s : Step). opposite s.lit m) (λ (s : Step). opposite s.lit m && (seen s.lit.var.0 || eqb s.level 0))
    (λ s o. and_from _ _ o (or_left _ _ (ap seen (opposite_var s.lit m o) ∙ e))) t f

-- and so is one of level 0
pub covered_root : (seen : ℕ → Bool) (t : List Step) (m : InLit) → list_all (λ s. not (eqb s.lit.var.0 m.var.0) || eqb s.level 0) t ≡ true → false_in t m ≡ true → covered seen t m ≡ true
covered_root seen t m a f =
    all_any_mono (λ (s : Step). not (eqb s.lit.var.0 m.var.0) || eqb s.level 0) (λ (s : Step). opposite s.lit m) (λ (s : Step). opposite s.lit m && (seen s.lit.var.0 || eqb s.level 0))
    (λ s g o. and_from _ _ o (or_right _ _ (⊎_elim (λ (x : not (eqb s.lit.var.0 m.var.0) ≡ true). absurd (both_ways _ (not-true _ x) (eq-eqb _ _ (opposite_var s.lit m o)))) (λ (x : eqb s.level 0 ≡ true). x) (or_cases _ _ g)))) t a f

-- more marks cover no less
pub covered_more : (seen more : ℕ → Bool) (t : List Step) (m : InLit) → ((v : ℕ) → seen v ≡ true → more v ≡ true) → covered seen t m ≡ true → covered more t m ≡ true
covered_more seen more t m h e =
    any_mono (λ (s : Step). opposite s.lit m && (seen s.lit.var.0 || eqb s.level 0)) (λ (s : Step). opposite s.lit m && (more s.lit.var.0 || eqb s.level 0))
    (λ s o. let p : (opposite s.lit m ≡ true) × ((seen s.lit.var.0 || eqb s.level 0) ≡ true) = and_parts _ _ o in
    and_from _ _ p.0 (⊎_elim (λ (x : seen s.lit.var.0 ≡ true). or_left _ _ (h s.lit.var.0 x)) (λ (x : eqb s.level 0 ≡ true). or_right _ _ x) (or_cases _ _ p.1))) t e

mark_elsewhere : (k : ℕ) (seen : ℕ → Bool) (v : ℕ) (t : List Step) → set_in t v ≡ false → marked k (with_mark seen v) t ≡ marked k seen t
mark_elsewhere k seen v [] e = refl
mark_elsewhere k seen v (s ∷ older) e = go (eqb s.lit.var.0 v) refl e (λ (f : set_in older v ≡ false). mark_elsewhere k seen v older f)
  where
    go : (b : Bool) → eqb s.lit.var.0 v ≡ b → (b || set_in older v) ≡ false → (set_in older v ≡ false → marked k (with_mark seen v) older ≡ marked k seen older)
        → cond {A = ℕ} ((eqb s.lit.var.0 v || seen s.lit.var.0) && eqb s.level k) 1 0 + marked k (with_mark seen v) older ≡ cond {A = ℕ} (seen s.lit.var.0 && eqb s.level k) 1 0 + marked k seen older
    go true f g r = absurd (true≢false g)
    go false f g r = rw (f, r g) refl

-- one more mark at the level that is counted
mark_counts : (k : ℕ) (seen : ℕ → Bool) (v : ℕ) (t : List Step) → shaped t ≡ true → set_in t v ≡ true → list_all (λ s. not (eqb s.lit.var.0 v) || eqb s.level k) t ≡ true → seen v ≡ false → marked k (with_mark seen v) t ≡ suc (marked k seen t)
mark_counts k seen v [] h e a n = absurd (false≢true e)
mark_counts k seen v (s ∷ older) h e a n =
    let p : (shaped_step older s ≡ true) × (shaped older ≡ true) = and_parts _ _ h in
    let q : ((not (eqb s.lit.var.0 v) || eqb s.level k) ≡ true) × (list_all (λ s. not (eqb s.lit.var.0 v) || eqb s.level k) older ≡ true) = and_parts _ _ a in
    go (eqb s.lit.var.0 v) refl e (step_new older s p.0) q.0 (λ (f : set_in older v ≡ true). mark_counts k seen v older p.1 f q.1 n)
  where
    go : (b : Bool) → eqb s.lit.var.0 v ≡ b → (b || set_in older v) ≡ true → set_in older s.lit.var.0 ≡ false → (not b || eqb s.level k) ≡ true → (set_in older v ≡ true → marked k (with_mark seen v) older ≡ suc (marked k seen older))
        → cond {A = ℕ} ((eqb s.lit.var.0 v || seen s.lit.var.0) && eqb s.level k) 1 0 + marked k (with_mark seen v) older ≡ suc (cond {A = ℕ} (seen s.lit.var.0 && eqb s.level k) 1 0 + marked k seen older)
    go true f g new l r =
        let x : s.lit.var.0 ≡ v = eqb-true _ _ f in
        let y : set_in older v ≡ false = ap (set_in older) (sym x) ∙ new in
        let z : seen s.lit.var.0 ≡ false = ap seen x ∙ n in
        rw (f, l, z, mark_elsewhere k seen v older y) (omega arith)
    go false f g new l r = rw (f, r g) (omega arith)

-- a mark at another level
mark_counts_not : (k : ℕ) (seen : ℕ → Bool) (v : ℕ) (t : List Step) → list_all (λ s. not (eqb s.lit.var.0 v) || not (eqb s.level k)) t ≡ true → marked k (with_mark seen v) t ≡ marked k seen t
mark_counts_not k seen v [] a = refl
mark_counts_not k seen v (s ∷ older) a =
    let q : ((not (eqb s.lit.var.0 v) || not (eqb s.level k)) ≡ true) × (list_all (λ s. not (eqb s.lit.var.0 v) || not (eqb s.level k)) older ≡ true) = and_parts _ _ a in
    go (eqb s.lit.var.0 v) (eqb s.level k) refl refl q.0 (mark_counts_not k seen v older q.1)
  where
    go : (b d : Bool) → eqb s.lit.var.0 v ≡ b → eqb s.level k ≡ d → (not b || not d) ≡ true → marked k (with_mark seen v) older ≡ marked k seen older
        → cond {A = ℕ} ((eqb s.lit.var.0 v || seen s.lit.var.0) && eqb s.level k) 1 0 + marked k (with_mark seen v) older ≡ cond {A = ℕ} (seen s.lit.var.0 && eqb s.level k) 1 0 + marked k seen older
    go true true f g e r = absurd (false≢true e)
    go true false f g e r = rw (f, g, r) (drop_and (seen s.lit.var.0))
      where
        drop_and : (x : Bool) → 0 + marked k seen older ≡ cond {A = ℕ} (x && false) 1 0 + marked k seen older
        drop_and true = refl
        drop_and false = refl
    go false d f g e r = rw (f, r) refl

-- one literal more, of a variable that none had
once_more : (seen : ℕ → Bool) (others : List InLit) (m : InLit) → has_each_once others ≡ true → list_all (λ l. seen l.var.0) others ≡ true → seen m.var.0 ≡ false → has_each_once (others ++ m ∷ []) ≡ true
once_more seen [] m d a n = refl
once_more seen (l ∷ others) m d a n =
    let p : (not (list_any (λ k. eqb l.var.0 k.var.0) others) ≡ true) × (has_each_once others ≡ true) = and_parts _ _ d in
    let q : (seen l.var.0 ≡ true) × (list_all (λ k. seen k.var.0) others ≡ true) = and_parts _ _ a in
    let differ : eqb l.var.0 m.var.0 ≡ false = false_from_ne_true _ (λ (s : eqb l.var.0 m.var.0 ≡ true). both_ways _ n (ap seen (sym (eqb-true _ _ s)) ∙ q.0)) in
    and_from _ _ (not_from_false _ (list_any-append (λ k. eqb l.var.0 k.var.0) others (m ∷ []) ∙ or_from _ _ (not-true _ p.0) (or_from _ _ differ refl))) (once_more seen others m p.1 q.1 n)

-- a mark at the present level
pub mark_present : (k : ℕ) (t gone rest : List Step) (seen : ℕ → Bool) (pending : ℕ) (others : List InLit) (m : InLit) → t ≡ gone ++ rest → shaped t ≡ true → level_in t m.var.0 ≡ Some k → false_in rest m ≡ true → seen m.var.0 ≡ false
    → Tracks k t seen rest pending others → Tracks k t (with_mark seen m.var.0) rest (suc pending) others
mark_present k t gone rest seen pending others m p e l f n h =
    let a : list_all (λ s. not (eqb s.lit.var.0 m.var.0) || eqb s.level k) t ≡ true = level_all t m.var.0 k e l in
    let b : list_all (λ s. not (eqb s.lit.var.0 m.var.0) || eqb s.level k) rest ≡ true =
    all_rest (λ s. not (eqb s.lit.var.0 m.var.0) || eqb s.level k) gone rest (subst (λ (z : List Step). list_all (λ s. not (eqb s.lit.var.0 m.var.0) || eqb s.level k) z ≡ true) p a) in
    let er : shaped rest ≡ true = shaped_rest gone rest (subst (λ (z : List Step). shaped z ≡ true) p e) in
    record {
      count = ap suc h.count ∙ sym (mark_counts k seen m.var.0 rest er (false_set rest m f) b n);
      named =
          both_all (λ (s : Step). not (eqb s.lit.var.0 m.var.0) || eqb s.level k) (λ (s : Step). not (seen s.lit.var.0) || (eqb s.level k || list_any (opposite s.lit) others))
          (λ (s : Step). not (with_mark seen m.var.0 s.lit.var.0) || (eqb s.level k || list_any (opposite s.lit) others))
          (λ s x y. one (eqb s.lit.var.0 m.var.0) (seen s.lit.var.0) (eqb s.level k) (list_any (opposite s.lit) others) x y) t a h.named;
      under = h.under;
      seen_too = all_mono (λ (l : InLit). seen l.var.0) (λ (l : InLit). with_mark seen m.var.0 l.var.0) (λ l x. or_right _ _ x) others h.seen_too;
      once = h.once;
    }
  where
    one : (b s d o : Bool) → (not b || d) ≡ true → (not s || (d || o)) ≡ true → (not (b || s) || (d || o)) ≡ true
    one true s d o x y = or_left d o x
    one false s d o x y = y

-- a mark below the present level
pub mark_under : (k l : ℕ) (t gone rest : List Step) (seen : ℕ → Bool) (pending : ℕ) (others : List InLit) (m : InLit) → t ≡ gone ++ rest → shaped t ≡ true → level_in t m.var.0 ≡ Some l → l < k → false_in rest m ≡ true → seen m.var.0 ≡ false
    → Tracks k t seen rest pending others → Tracks k t (with_mark seen m.var.0) rest pending (others ++ m ∷ [])
mark_under k l t gone rest seen pending others m p e i j f n h =
    let at : list_all (λ s. not (eqb s.lit.var.0 m.var.0) || eqb s.level l) t ≡ true = level_all t m.var.0 l e i in
    let a : list_all (λ s. not (eqb s.lit.var.0 m.var.0) || eqb s.level l) rest ≡ true =
    all_rest (λ s. not (eqb s.lit.var.0 m.var.0) || eqb s.level l) gone rest (subst (λ (z : List Step). list_all (λ s. not (eqb s.lit.var.0 m.var.0) || eqb s.level l) z ≡ true) p at) in
    let b : list_all (λ s. not (eqb s.lit.var.0 m.var.0) || not (eqb s.level k)) rest ≡ true =
    all_mono (λ (s : Step). not (eqb s.lit.var.0 m.var.0) || eqb s.level l) (λ (s : Step). not (eqb s.lit.var.0 m.var.0) || not (eqb s.level k))
    (λ s x. ⊎_elim (λ (y : not (eqb s.lit.var.0 m.var.0) ≡ true). or_left _ _ y)
    (λ (y : eqb s.level l ≡ true). or_right _ _ (not_from_false _ (ne_eqb s.level k (λ (z : s.level ≡ k). let u : s.level ≡ l = eqb-true _ _ y in omega arith)))) (or_cases _ _ x)) rest a in
    let ft : false_in t m ≡ true = subst (λ (z : List Step). false_in z m ≡ true) (sym p) (any_rest (λ s. opposite s.lit m) gone rest f) in
    record {
      count = h.count ∙ sym (mark_counts_not k seen m.var.0 rest b);
      named =
          both_all (λ (s : Step). not (eqb s.lit.var.0 m.var.0) || opposite s.lit m) (λ (s : Step). not (seen s.lit.var.0) || (eqb s.level k || list_any (opposite s.lit) others))
          (λ (s : Step). not (with_mark seen m.var.0 s.lit.var.0) || (eqb s.level k || list_any (opposite s.lit) (others ++ m ∷ [])))
          (λ s x y. subst (λ (z : Bool). (not (eqb s.lit.var.0 m.var.0 || seen s.lit.var.0) || (eqb s.level k || z)) ≡ true) (sym (list_any-append (opposite s.lit) others (m ∷ [])))
          (one (eqb s.lit.var.0 m.var.0) (seen s.lit.var.0) (eqb s.level k) (list_any (opposite s.lit) others) (opposite s.lit m) x y)) t (only_opposite t m e ft) h.named;
      under =
          list_all-append (false_under t k) others (m ∷ [])
          ∙ and_from _ _ h.under
          (and_from _ _
          (all_any_mono (λ (s : Step). not (eqb s.lit.var.0 m.var.0) || eqb s.level l) (λ (s : Step). opposite s.lit m) (λ (s : Step). opposite s.lit m && ltb s.level k)
          (λ s x y. and_from _ _ y
          (⊎_elim (λ (z : not (eqb s.lit.var.0 m.var.0) ≡ true). absurd (both_ways _ (not-true _ z) (eq-eqb _ _ (opposite_var s.lit m y))))
          (λ (z : eqb s.level l ≡ true). let u : s.level ≡ l = eqb-true _ _ z in lt-ltb s.level k (omega arith)) (or_cases _ _ x))) t at ft)
          refl);
      seen_too =
          list_all-append (λ l. with_mark seen m.var.0 l.var.0) others (m ∷ [])
          ∙ and_from _ _ (all_mono (λ (l : InLit). seen l.var.0) (λ (l : InLit). with_mark seen m.var.0 l.var.0) (λ l x. or_right _ _ x) others h.seen_too) (and_from _ _ (or_left _ _ (eq-eqb m.var.0 m.var.0 refl)) refl);
      once = once_more seen others m h.once h.seen_too n;
    }
  where
    one : (b s d o x : Bool) → (not b || x) ≡ true → (not s || (d || o)) ≡ true → (not (b || s) || (d || (o || (x || false)))) ≡ true
    one true s true o x f g = refl
    one true s false true x f g = refl
    one true s false false true f g = refl
    one true s false false false f g = f
    one false true true o x f g = refl
    one false true false true x f g = refl
    one false true false false x f g = absurd (false≢true g)
    one false false d o x f g = refl

-- an unmarked literal is passed over
pub pass_tracks : (k : ℕ) (t older : List Step) (s : Step) (seen : ℕ → Bool) (pending : ℕ) (others : List InLit) → seen s.lit.var.0 ≡ false → Tracks k t seen (s ∷ older) pending others → Tracks k t seen older pending others
pass_tracks k t older s seen pending others n h =
    let c : pending ≡ cond {A = ℕ} (seen s.lit.var.0 && eqb s.level k) 1 0 + marked k seen older = h.count in
    let d : pending ≡ 0 + marked k seen older = rw n at c in
    record { count = omega arith; named = h.named; under = h.under; seen_too = h.seen_too; once = h.once }

-- a marked one of the present level is taken
pub take_tracks : (k : ℕ) (t older : List Step) (s : Step) (seen : ℕ → Bool) (pending : ℕ) (others : List InLit) → seen s.lit.var.0 ≡ true → s.level ≡ k → Tracks k t seen (s ∷ older) (suc pending) others → Tracks k t seen older pending others
take_tracks k t older s seen pending others n l h =
    let c : suc pending ≡ cond {A = ℕ} (seen s.lit.var.0 && eqb s.level k) 1 0 + marked k seen older = h.count in
    let e : eqb s.level k ≡ true = eq-eqb s.level k l in
    let d : suc pending ≡ 1 + marked k seen older = rw e at (rw n at c) in
    record { count = omega arith; named = h.named; under = h.under; seen_too = h.seen_too; once = h.once }

-- nothing is marked at a level above the present one
marked_none : (k : ℕ) (seen : ℕ → Bool) (t : List Step) → shaped t ≡ true → level_of t < k → marked k seen t ≡ 0
marked_none k seen [] e h = refl
marked_none k seen (s ∷ older) e h =
    let p : (shaped_step older s ≡ true) × (shaped older ≡ true) = and_parts _ _ e in
    let u : level_of older ≤ s.level = level_up older s p.0 in
    let r : marked k seen older ≡ 0 = marked_none k seen older p.1 (omega arith) in
    let n : eqb s.level k ≡ false = ne_eqb s.level k (λ (z : s.level ≡ k). omega arith) in
    go (seen s.lit.var.0) n r
  where
    go : (b : Bool) → eqb s.level k ≡ false → marked k seen older ≡ 0 → cond {A = ℕ} (b && eqb s.level k) 1 0 + marked k seen older ≡ 0
    go true n r = rw (n, r) (omega arith)
    go false n r = rw r (omega arith)

-- so the newest literal of a rest with marked ones is of that level
pub pending_level : (k : ℕ) (seen : ℕ → Bool) (s : Step) (older : List Step) → shaped (s ∷ older) ≡ true → s.level ≤ k → 0 < marked k seen (s ∷ older) → s.level ≡ k
pending_level k seen s older e h m = ⊎_elim (λ (a : s.level < k). absurd (let z : marked k seen (s ∷ older) ≡ 0 = marked_none k seen (s ∷ older) e a in omega arith)) (λ (a : k ≤ s.level). omega arith) (cases_lt s.level k)

-- and where another is left, it has a reason
pub pending_reason : (k : ℕ) (seen : ℕ → Bool) (held : List Held) (s : Step) (older : List Step) → shaped (s ∷ older) ≡ true → s.level ≤ k → 0 < marked k seen older → has_reason held older s None ≡ true → ⊥
pending_reason k seen held s older e h m r =
    let p : (shaped_step older s ≡ true) × (shaped older ≡ true) = and_parts _ _ e in
    let l : level_of older < s.level = ltb-true _ _ r in
    let z : marked k seen older ≡ 0 = marked_none k seen older p.1 (omega arith) in
    omega arith

-- where a marked literal of the level is left, the count says so
pub marked_some : (k : ℕ) (seen : ℕ → Bool) (t : List Step) → list_any (λ s. seen s.lit.var.0 && eqb s.level k) t ≡ true → 0 < marked k seen t
marked_some k seen [] e = absurd (false≢true e)
marked_some k seen (s ∷ older) e = go (seen s.lit.var.0 && eqb s.level k) e (λ (f : list_any (λ r. seen r.lit.var.0 && eqb r.level k) older ≡ true). marked_some k seen older f)
  where
    go : (b : Bool) → (b || list_any (λ r. seen r.lit.var.0 && eqb r.level k) older) ≡ true → (list_any (λ r. seen r.lit.var.0 && eqb r.level k) older ≡ true → 0 < marked k seen older) → 0 < cond {A = ℕ} b 1 0 + marked k seen older
    go true f r = omega arith
    go false f r = let i : 0 < marked k seen older = r f in omega arith

-- there are no more of them than literals
pub marked_small : (k : ℕ) (seen : ℕ → Bool) (t : List Step) → marked k seen t ≤ length t
marked_small k seen [] = omega arith
marked_small k seen (s ∷ older) = go (seen s.lit.var.0 && eqb s.level k) (marked_small k seen older)
  where
    go : (b : Bool) → marked k seen older ≤ length older → cond {A = ℕ} b 1 0 + marked k seen older ≤ suc (length older)
    go true h = omega arith
    go false h = omega arith

-- more marks count no less
pub marked_mono : (k : ℕ) (seen more : ℕ → Bool) (t : List Step) → ((v : ℕ) → seen v ≡ true → more v ≡ true) → marked k seen t ≤ marked k more t
marked_mono k seen more [] h = omega arith
marked_mono k seen more (s ∷ older) h = go (seen s.lit.var.0) (more s.lit.var.0) (eqb s.level k) (h s.lit.var.0) (marked_mono k seen more older h)
  where
    go : (a b c : Bool) → (a ≡ true → b ≡ true) → marked k seen older ≤ marked k more older → cond {A = ℕ} (a && c) 1 0 + marked k seen older ≤ cond {A = ℕ} (b && c) 1 0 + marked k more older
    go false true true f i = omega arith
    go false true false f i = omega arith
    go false false c f i = omega arith
    go true true c f i = omega arith
    go true false c f i = absurd (false≢true (f refl))

-- none is marked where nothing is
pub marked_nothing : (k : ℕ) (t : List Step) → 0 ≡ marked k (λ v. false) t
marked_nothing k [] = refl
marked_nothing k (s ∷ older) = let i : 0 ≡ marked k (λ v. false) older = marked_nothing k older in omega arith

no_count : (k : ℕ) (seen : ℕ → Bool) (t : List Step) → marked k seen t ≡ 0 → list_all (λ s. not (seen s.lit.var.0) || not (eqb s.level k)) t ≡ true
no_count k seen [] e = refl
no_count k seen (s ∷ older) e = go (seen s.lit.var.0) (eqb s.level k) refl refl e (λ (f : marked k seen older ≡ 0). no_count k seen older f)
  where
    go : (a b : Bool) → seen s.lit.var.0 ≡ a → eqb s.level k ≡ b → cond {A = ℕ} (a && b) 1 0 + marked k seen older ≡ 0 → (marked k seen older ≡ 0 → list_all (λ r. not (seen r.lit.var.0) || not (eqb r.level k)) older ≡ true)
        → ((not a || not b) && list_all (λ r. not (seen r.lit.var.0) || not (eqb r.level k)) older) ≡ true
    go true true f g h r = absurd (omega arith)
    go true false f g h r = r (omega arith)
    go false b f g h r = r (omega arith)

-- the walk ends at the last marked literal: its negation and the others follow
pub end_follows : (held : List Held) (k : ℕ) (t older : List Step) (s : Step) (seen : ℕ → Bool) (first : InLit) (others : List InLit) → ((p : Step → Bool) → list_all p t ≡ true → list_all p older ≡ true) → opposite s.lit first ≡ true
    → Denies held seen (s ∷ older) → Tracks k t seen older 0 others → ClauseFollows held (first ∷ others)
end_follows held k t older s seen first others within neg o h w a =
    ⊎_elim
    (λ (f : (seen s.lit.var.0 && not (lit_value w s.lit)) ≡ true). or_left _ _ (opposite_value w s.lit first neg ∙ (and_parts (seen s.lit.var.0) (not (lit_value w s.lit)) f).1))
    (λ (f : denied seen w older ≡ true). or_right _ _
    (all_or_any (λ (r : Step). (not (seen r.lit.var.0) || (eqb r.level k || list_any (opposite r.lit) others)) && (not (seen r.lit.var.0) || not (eqb r.level k))) (λ (r : Step). seen r.lit.var.0 && not (lit_value w r.lit)) (clause_value (lit_value w) others ≡ true) older
    (both_all (λ (r : Step). not (seen r.lit.var.0) || (eqb r.level k || list_any (opposite r.lit) others)) (λ (r : Step). not (seen r.lit.var.0) || not (eqb r.level k))
    (λ (r : Step). (not (seen r.lit.var.0) || (eqb r.level k || list_any (opposite r.lit) others)) && (not (seen r.lit.var.0) || not (eqb r.level k))) (λ r x y. and_from _ _ x y) older
    (within (λ r. not (seen r.lit.var.0) || (eqb r.level k || list_any (opposite r.lit) others)) h.named) (no_count k seen older (sym h.count)))
    f
    (λ r x y. let p : ((not (seen r.lit.var.0) || (eqb r.level k || list_any (opposite r.lit) others)) ≡ true) × ((not (seen r.lit.var.0) || not (eqb r.level k)) ≡ true) = and_parts _ _ x in
    let q : (seen r.lit.var.0 ≡ true) × (not (lit_value w r.lit) ≡ true) = and_parts _ _ y in
    any_mono (opposite r.lit) (lit_value w) (λ m z. opposite_value w r.lit m z ∙ q.1) others (pick (seen r.lit.var.0) (eqb r.level k) (list_any (opposite r.lit) others) p.0 p.1 q.0))))
    (or_cases _ _ (o w a))
  where
    pick : (a b c : Bool) → (not a || (b || c)) ≡ true → (not a || not b) ≡ true → a ≡ true → c ≡ true
    pick true true c x y z = absurd (false≢true y)
    pick true false c x y z = x
    pick false b c x y z = absurd (false≢true z)
