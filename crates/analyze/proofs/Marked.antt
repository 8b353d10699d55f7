-- What one mark does to a walk.
use Rattle.std.proofs.Common.{◌≡◌, ◌<◌, ◌≤◌, ◌+◌, ◌-◌, ◌^◌, ℕ, suc, Bool, true, false, cond, not, eqb, ◌||◌, List, [], ◌∷◌, ◌++◌, length, take, get_or, Option, Some, None, option_map, unwrap_or, refl, sym, ap, subst, ◌∙◌, ⊎_elim, arith, eq-eqb}
use Rattle.std.proofs.Math.Path.{fun_ext}
use Rattle.std.proofs.lemmas.Bool.{and_parts, and_from, or_cases, or_left, or_right, eqb-true, false≢true, true≢false, both_ways, cases_lt, false_from_ne_true}
use Rattle.std.proofs.lemmas.List.Folds.{list_any-append, list_all-append, list_all_more}
use Rattle.std.specs.Option.{is_some}
use Rattle.std.specs.List.{list_any, list_all}
use Rattle.sat_lits.specs.InLits.{opposite}
use Rattle.sat_lits.specs.ListLaws.{all_mono, all_at}
use Rattle.sat_lits.specs.declared.literal.InLit.{InLit}
use Rattle.sat_lits.specs.declared.literal.Inner.{Inner}
use Rattle.trail.specs.declared.trail.Step.{Step}
use Rattle.trail.specs.Trail.{Assignment, IsKept, false_in, set_in, step_in, level_in, level_of, shaped}
use Rattle.trail.specs.Laws.{steps_within, false_set, set_in-step_in}
use Rattle.smallvec.specs.SmallVec.{SmallVec}
use Rattle.analyze.specs.declared.walk.Walk.{Walk}
use Rattle.analyze.specs.Marking.{Marking, is_marked, is_root, level_or}
use Rattle.analyze.specs.Walks.{covered, marked, rest_of, Tracks, IsWalkOn, MarkedAll, may_mark}
use Rattle.analyze.proofs.Tracking.{with_mark, level_all, level_top, all_rest, any_rest, covered_seen, covered_root, covered_more, mark_present, mark_under, marked_small}
use Rattle.analyze.proofs.Rests.{rest_parts, rest_length}

flip : (a b : ℕ) (x : Bool) → eqb a b ≡ x → eqb b a ≡ x
flip a b true e = eq-eqb b a (sym (eqb-true a b e))
flip a b false e = false_from_ne_true _ (λ (f : eqb b a ≡ true). both_ways _ e (eq-eqb a b (sym (eqb-true b a f))))

-- one more variable is marked
pub is_marked-push : (vars : List Inner) (room : ℕ) (v : Inner) → is_marked (record { vars = vars ++ v ∷ []; room = room }) ≡ with_mark (is_marked (record { vars = vars; room = room })) v.0
is_marked-push vars room v = fun_ext (λ n. list_any-append (λ (w : Inner). eqb w.0 n) vars (v ∷ []) ∙ swap (list_any (λ (w : Inner). eqb w.0 n) vars) (eqb v.0 n) (eqb n v.0) (flip v.0 n (eqb v.0 n) refl))
  where
    swap : (a b c : Bool) → c ≡ b → (a || (b || false)) ≡ (c || a)
    swap true true c e = rw e refl
    swap true false c e = rw e refl
    swap false true c e = rw e refl
    swap false false c e = rw e refl

-- a set variable has a level
pub level_set : (t : List Step) (v : ℕ) → set_in t v ≡ true → level_in t v ≡ Some (level_or t v)
level_set [] v e = absurd (false≢true e)
level_set (s ∷ older) v e = go (eqb s.lit.var.0 v) e (λ (f : set_in older v ≡ true). level_set older v f)
  where
    go : (b : Bool) → (b || set_in older v) ≡ true → (set_in older v ≡ true → level_in older v ≡ Some (level_or older v))
        → option_map (λ (r : Step). r.level) (cond b (Some s) (step_in older v)) ≡ Some (unwrap_or (option_map (λ (r : Step). r.level) (cond b (Some s) (step_in older v))) 0)
    go true f r = refl
    go false f r = r f

-- a literal that is false in the rest of a walk is false
pub rest_false : (t : List Step) (n : ℕ) (l : InLit) → false_in (rest_of n t) l ≡ true → false_in t l ≡ true
rest_false t n l e = subst (λ (z : List Step). false_in z l ≡ true) (sym (rest_parts t n)) (any_rest (λ s. opposite s.lit l) (take (length t - n) t) (rest_of n t) e)

-- a literal whose variable is marked or of level 0 is covered where it is false
pub settled_covered : (t : List Step) (n : ℕ) (seen : ℕ → Bool) (l : InLit) → shaped t ≡ true → (seen l.var.0 || is_root t l.var.0) ≡ true → false_in (rest_of n t) l ≡ true → covered seen (rest_of n t) l ≡ true
settled_covered t n seen l e s f = ⊎_elim (λ (a : seen l.var.0 ≡ true). covered_seen seen (rest_of n t) l a f) (λ (a : is_root t l.var.0 ≡ true). root a) (or_cases _ _ s)
  where
    root : is_root t l.var.0 ≡ true → covered seen (rest_of n t) l ≡ true
    root a =
        let i : level_in t l.var.0 ≡ Some 0 = level_set t l.var.0 (false_set t l (rest_false t n l f)) ∙ ap Some (eqb-true _ _ a) in
        covered_root seen (rest_of n t) l
        (all_rest (λ s. not (eqb s.lit.var.0 l.var.0) || eqb s.level 0) (take (length t - n) t) (rest_of n t)
        (subst (λ (z : List Step). list_all (λ s. not (eqb s.lit.var.0 l.var.0) || eqb s.level 0) z ≡ true) (rest_parts t n) (level_all t l.var.0 0 e i))) f

implied_or : (a b : Bool) → (a ≡ true → b ≡ true) → (not a || b) ≡ true
implied_or true b h = h refl
implied_or false b h = refl

-- one literal is covered where its variable is settled
one_covered : (t : List Step) (n : ℕ) (seen : ℕ → Bool) (l : InLit) → shaped t ≡ true → (seen l.var.0 || is_root t l.var.0) ≡ true → list_all (λ k. not (false_in (rest_of n t) k) || covered seen (rest_of n t) k) (l ∷ []) ≡ true
one_covered t n seen l e s = and_from _ _ (implied_or _ _ (λ f. settled_covered t n seen l e s f)) refl

-- a literal that was marked before, or is of level 0
pub marked_before : (trail : Assignment) (l : InLit) (walk : Walk) (marks : Marking) → IsWalkOn trail walk → marks ≡ walk.marks → (is_marked walk.marks l.var.0 || is_root trail.steps l.var.0) ≡ true → MarkedAll trail (l ∷ []) walk (record walk { marks = marks })
marked_before trail l walk marks h m s =
    subst (λ (z : Marking). MarkedAll trail (l ∷ []) walk (record walk { marks = z })) (sym m)
    (record { stands = record { kept = h.kept; room = h.room; level = h.level; left = h.left; met = h.met; tracks = h.tracks }; still = refl; grows = λ v e. e; covers = one_covered trail.steps walk.left (is_marked walk.marks) l h.kept.sound s })

or_known : (a b : Bool) → (a || b) ≡ true → a ≡ false → b ≡ true
or_known true b e f = absurd (true≢false f)
or_known false b e f = e

-- a variable that has a level is set
pub level_is_set : (t : List Step) (v level : ℕ) → level_in t v ≡ Some level → set_in t v ≡ true
level_is_set t v level e = set_in-step_in t v ∙ go (step_in t v) e
  where
    go : (o : Option Step) → option_map (λ (s : Step). s.level) o ≡ Some level → is_some o ≡ true
    go None f = absurd (cc)
    go (Some s) f = refl

-- one more variable is marked, and the counts follow
marked_now : (trail : Assignment) (l : InLit) (walk : Walk) (marks : Marking) (pending : ℕ) (others : SmallVec InLit) (level : ℕ) → IsWalkOn trail walk → level_in trail.steps l.var.0 ≡ Some level → marks ≡ record walk.marks { vars = walk.marks.vars ++ l.var ∷ [] }
    → Tracks (level_of trail.steps) trail.steps (with_mark (is_marked walk.marks) l.var.0) (rest_of walk.left trail.steps) pending others.items
    → MarkedAll trail (l ∷ []) walk (record walk { marks = marks; pending = pending; others = others })
marked_now trail l walk marks pending others level h i m k =
    subst (λ (z : Marking). MarkedAll trail (l ∷ []) walk (record walk { marks = z; pending = pending; others = others })) (sym m)
    (record {
      stands =
          record {
            kept = h.kept;
            room = h.room;
            level = h.level;
            left = h.left;
            met = list_all-append (λ (v : Inner). set_in trail.steps v.0) walk.marks.vars (l.var ∷ []) ∙ and_from _ _ h.met (and_from _ _ (level_is_set trail.steps l.var.0 level i) refl);
            tracks = subst (λ (f : ℕ → Bool). Tracks (level_of trail.steps) trail.steps f (rest_of walk.left trail.steps) pending others.items) (sym e) k;
          };
      still = refl;
      grows = λ v g. subst (λ (f : ℕ → Bool). f v ≡ true) (sym e) (or_right (eqb v l.var.0) (is_marked walk.marks v) g);
      covers =
          one_covered trail.steps walk.left (is_marked (record walk.marks { vars = walk.marks.vars ++ l.var ∷ [] })) l h.kept.sound
          (or_left _ _ (subst (λ (f : ℕ → Bool). f l.var.0 ≡ true) (sym e) (or_left (eqb l.var.0 l.var.0) (is_marked walk.marks l.var.0) (eq-eqb l.var.0 l.var.0 refl))));
    })
  where
    e : is_marked (record walk.marks { vars = walk.marks.vars ++ l.var ∷ [] }) ≡ with_mark (is_marked walk.marks) l.var.0
    e = is_marked-push walk.marks.vars walk.marks.room l.var

present_tracks : (trail : Assignment) (l : InLit) (walk : Walk) (level : ℕ) → IsWalkOn trail walk → may_mark trail.steps walk l ≡ true → is_marked walk.marks l.var.0 ≡ false → level_in trail.steps l.var.0 ≡ Some level → level ≡ walk.level
    → Tracks (level_of trail.steps) trail.steps (with_mark (is_marked walk.marks) l.var.0) (rest_of walk.left trail.steps) (suc walk.pending) walk.others.items
present_tracks trail l walk level h k n i e =
    mark_present (level_of trail.steps) trail.steps (take (length trail.steps - walk.left) trail.steps) (rest_of walk.left trail.steps) (is_marked walk.marks) walk.pending walk.others.items l (rest_parts trail.steps walk.left) h.kept.sound
    (i ∙ ap Some (e ∙ h.level)) (or_known _ _ k n) n h.tracks

-- a trail has fewer literals than a variable has numbers
pub few_steps : (trail : Assignment) → IsKept trail → length trail.steps < 2 ^ 32
few_steps trail k = let a : length trail.steps ≤ trail.reserved = steps_within trail.steps trail.reserved k.sound k.known in omega (arith, a, k.few)

-- there is room for one more pending
pub pending_room : (trail : Assignment) (l : InLit) (walk : Walk) (level : ℕ) → IsWalkOn trail walk → may_mark trail.steps walk l ≡ true → is_marked walk.marks l.var.0 ≡ false → level_in trail.steps l.var.0 ≡ Some level → level ≡ walk.level
    → walk.pending + 1 < 2 ^ 32
pending_room trail l walk level h k n i e =
    let c : suc walk.pending ≡ marked (level_of trail.steps) (with_mark (is_marked walk.marks) l.var.0) (rest_of walk.left trail.steps) = (present_tracks trail l walk level h k n i e).count in
    let a : marked (level_of trail.steps) (with_mark (is_marked walk.marks) l.var.0) (rest_of walk.left trail.steps) ≤ length (rest_of walk.left trail.steps) = marked_small (level_of trail.steps) (with_mark (is_marked walk.marks) l.var.0) (rest_of walk.left trail.steps) in
    let b : length (rest_of walk.left trail.steps) ≤ walk.left = rest_length trail.steps walk.left in
    omega (arith, c, a, b, h.left, few_steps trail h.kept)

-- a mark at the present level
pub marked_present : (trail : Assignment) (l : InLit) (walk : Walk) (marks : Marking) (level : ℕ) → IsWalkOn trail walk → may_mark trail.steps walk l ≡ true → marks ≡ record walk.marks { vars = walk.marks.vars ++ l.var ∷ [] }
    → is_marked walk.marks l.var.0 ≡ false → level_in trail.steps l.var.0 ≡ Some level → level ≡ walk.level → MarkedAll trail (l ∷ []) walk (record walk { marks = marks; pending = walk.pending + 1 })
marked_present trail l walk marks level h k m n i e =
    let p : suc walk.pending ≡ walk.pending + 1 = omega arith in
    marked_now trail l walk marks (walk.pending + 1) walk.others level h i m
    (subst (λ (z : ℕ). Tracks (level_of trail.steps) trail.steps (with_mark (is_marked walk.marks) l.var.0) (rest_of walk.left trail.steps) z walk.others.items) p (present_tracks trail l walk level h k n i e))

-- a mark below it
pub marked_lower : (trail : Assignment) (l : InLit) (walk : Walk) (marks : Marking) (others : SmallVec InLit) (level : ℕ) → IsWalkOn trail walk → may_mark trail.steps walk l ≡ true → marks ≡ record walk.marks { vars = walk.marks.vars ++ l.var ∷ [] }
    → is_marked walk.marks l.var.0 ≡ false → level_in trail.steps l.var.0 ≡ Some level → (level ≡ walk.level → ⊥) → others.items ≡ walk.others.items ++ l ∷ [] → MarkedAll trail (l ∷ []) walk (record walk { marks = marks; others = others })
marked_lower trail l walk marks others level h k m n i e o =
    let u : level ≤ level_of trail.steps = level_top trail.steps l.var.0 level h.kept.sound i in
    let w : walk.level ≡ level_of trail.steps = h.level in
    let d : level < level_of trail.steps = ⊎_elim (λ (a : level < level_of trail.steps). a) (λ (a : level_of trail.steps ≤ level). absurd (e (omega arith))) (cases_lt level (level_of trail.steps)) in
    marked_now trail l walk marks walk.pending others level h i m
    (subst (λ (z : List InLit). Tracks (level_of trail.steps) trail.steps (with_mark (is_marked walk.marks) l.var.0) (rest_of walk.left trail.steps) walk.pending z) (sym o)
    (mark_under (level_of trail.steps) level trail.steps (take (length trail.steps - walk.left) trail.steps) (rest_of walk.left trail.steps) (is_marked walk.marks) walk.pending walk.others.items l (rest_parts trail.steps walk.left) h.kept.sound
    i d (or_known _ _ k n) n h.tracks))

-- no literal so far
pub marked_none : (trail : Assignment) (walk : Walk) → IsWalkOn trail walk → MarkedAll trail [] walk walk
marked_none trail walk h = record { stands = h; still = refl; grows = λ v e. e; covers = refl }

-- the next literal may be marked too
pub may_mark_next : (trail : Assignment) (c : List InLit) (i : ℕ) (d : InLit) (old mid : Walk) → i < length c → list_all (may_mark trail.steps old) c ≡ true → MarkedAll trail (take i c) old mid → may_mark trail.steps mid (get_or c i d) ≡ true
may_mark_next trail c i d old mid h a m =
    ⊎_elim (λ (x : is_marked old.marks (get_or c i d).var.0 ≡ true). or_left _ _ (m.grows (get_or c i d).var.0 x))
    (λ (x : false_in (rest_of old.left trail.steps) (get_or c i d) ≡ true). or_right _ _ (subst (λ (n : ℕ). false_in (rest_of n trail.steps) (get_or c i d) ≡ true) (sym m.still) x))
    (or_cases _ _ (all_at (may_mark trail.steps old) c i d h a))

-- one literal more
pub marked_more : (trail : Assignment) (c : List InLit) (i : ℕ) (d : InLit) (old mid new : Walk) → i < length c → MarkedAll trail (take i c) old mid → MarkedAll trail (get_or c i d ∷ []) mid new → MarkedAll trail (take (i + 1) c) old new
marked_more trail c i d old mid new h a b =
    record {
      stands = b.stands;
      still = b.still ∙ a.still;
      grows = λ v e. b.grows v (a.grows v e);
      covers =
          list_all_more (λ k. not (false_in (rest_of old.left trail.steps) k) || covered (is_marked new.marks) (rest_of old.left trail.steps) k) c i d h
          ∙ and_from _ _
          (all_mono (λ (k : InLit). not (false_in (rest_of old.left trail.steps) k) || covered (is_marked mid.marks) (rest_of old.left trail.steps) k)
          (λ (k : InLit). not (false_in (rest_of old.left trail.steps) k) || covered (is_marked new.marks) (rest_of old.left trail.steps) k)
          (λ k e. ⊎_elim (λ (x : not (false_in (rest_of old.left trail.steps) k) ≡ true). or_left _ _ x)
          (λ (x : covered (is_marked mid.marks) (rest_of old.left trail.steps) k ≡ true). or_right _ _ (covered_more (is_marked mid.marks) (is_marked new.marks) (rest_of old.left trail.steps) k b.grows x)) (or_cases _ _ e)) (take i c) a.covers)
          (subst (λ (n : ℕ). (not (false_in (rest_of n trail.steps) (get_or c i d)) || covered (is_marked new.marks) (rest_of n trail.steps) (get_or c i d)) ≡ true) a.still (and_parts _ _ b.covers).0);
    }
