-- The walk back: its start at a conflict, each literal that it passes, and its end.
use Rattle.std.proofs.Common.{◌≡◌, ◌<◌, ◌≤◌, ◌+◌, ◌-◌, ℕ, suc, Bool, true, false, not, eqb, leb, ◌&&◌, ◌||◌, List, [], ◌∷◌, length, get_or, Option, Some, None, refl, sym, ap, subst, ◌∙◌, ⊎_elim, arith, eq-eqb}
use Rattle.std.specs.Bool.{beq}
use Rattle.std.proofs.lemmas.Bool.{and_parts, and_from, or_cases, or_left, or_right, eqb-true, leb-true, false≢true, both_ways, not-true, cases_lt}
use Rattle.std.specs.List.{list_any, list_all}
use Rattle.sat_lits.specs.InLits.{same_lit, opposite}
use Rattle.sat_lits.specs.ListLaws.{all_mono, all_or_any, all_any_mono, both_all}
use Rattle.sat_lits.specs.declared.literal.InLit.{InLit}
use Rattle.sat_lits.specs.declared.literal.Inner.{Inner}
use Rattle.sat_lits.specs.declared.literal.ClauseId.{ClauseId}
use Rattle.trail.specs.declared.trail.Step.{Step}
use Rattle.trail.specs.Trail.{Assignment, IsKept, false_in, level_of, reason_in, lits_of, shaped, shaped_step}
use Rattle.trail.specs.Laws.{levels_low, opposite_var, same_var, length-lits_of}
use Rattle.clause_store.specs.Store.{Held, is_live}
use Rattle.propagate.specs.Units.{false_clause, gives}
use Rattle.propagate.specs.Reasons.{names, has_reason, reasoned}
use Rattle.analyze.specs.declared.walk.Walk.{Walk}
use Rattle.analyze.specs.Falsity.{false_at, has_present}
use Rattle.analyze.specs.Marking.{is_marked, IsFresh}
use Rattle.analyze.specs.Met.{are_set}
use Rattle.analyze.specs.Walks.{covered, marked, rest_of, Tracks, Denies, IsWalkOn, IsStart, MarkedAll, AtWalk, IsTaken, AtEnd, may_mark}
use Rattle.analyze.specs.FalsityLaws.{only_level}
use Rattle.analyze.proofs.Entailing.{lits_at, names_lits, read_value, roots, conflict_denied, pass_denied, resolve_denied}
use Rattle.analyze.proofs.Tracking.{pass_tracks, take_tracks, pending_level, pending_reason, marked_some, marked_mono, marked_nothing, end_follows}
use Rattle.analyze.proofs.Rests.{IsNext, next_step, rest_all, rest_none, Split, split}
use Rattle.propagate.specs.Laws.{names_live}

-- the start: nothing is marked
pub start_stands : (trail : Assignment) (walk : Walk) → IsKept trail → IsFresh trail.reserved walk.marks → walk.level ≡ level_of trail.steps → walk.left ≡ length trail.steps → walk.pending ≡ 0 → walk.others.items ≡ [] → IsStart trail walk
start_stands trail walk k f l n p o =
    record {
      stands =
          record {
            kept = k;
            room = f.enough;
            level = l;
            left = omega arith;
            met = ap (are_set trail.steps) f.none;
            tracks =
                subst (λ (z : ℕ → Bool). Tracks (level_of trail.steps) trail.steps z (rest_of walk.left trail.steps) walk.pending walk.others.items) (sym unmarked)
                (subst (λ (z : List InLit). Tracks (level_of trail.steps) trail.steps (λ v. false) (rest_of walk.left trail.steps) walk.pending z) (sym o)
                (record { count = p ∙ marked_nothing (level_of trail.steps) (rest_of walk.left trail.steps); named = unnamed trail.steps; under = refl; seen_too = refl; once = refl }));
          };
      whole = n;
    }
  where
    unmarked : is_marked walk.marks ≡ (λ v. false)
    unmarked = ap {B = ℕ → Bool} (λ (z : List Inner). λ (v : ℕ). list_any (λ (w : Inner). eqb w.0 v) z) f.none

    unnamed : (xs : List Step) → list_all (λ s. true || (eqb s.level (level_of trail.steps) || list_any (opposite s.lit) [])) xs ≡ true
    unnamed [] = refl
    unnamed (s ∷ xs) = unnamed xs

-- the literals of a false clause may be marked
pub start_known : (trail : Assignment) (walk : Walk) (c : List InLit) → IsStart trail walk → false_clause trail.steps c ≡ true → list_all (may_mark trail.steps walk) c ≡ true
start_known trail walk c s f =
    all_mono (false_in trail.steps) (may_mark trail.steps walk) (λ m e. or_right _ _ (subst (λ (z : List Step). false_in z m ≡ true) (sym (rest_all trail.steps walk.left s.whole)) e)) c f

covered_all : (t : List Step) (seen : ℕ → Bool) (c : List InLit) → false_clause t c ≡ true → list_all (λ m. not (false_in t m) || covered seen t m) c ≡ true → list_all (covered seen t) c ≡ true
covered_all t seen c f a =
    both_all (false_in t) (λ (m : InLit). not (false_in t m) || covered seen t m) (covered seen t)
    (λ m x y. ⊎_elim (λ (z : not (false_in t m) ≡ true). absurd (both_ways _ (not-true _ z) x)) (λ (z : covered seen t m ≡ true). z) (or_cases _ _ y)) c f a

-- a clause that holds a literal of a level above 0 has one that is marked there
start_some : (k : ℕ) (seen : ℕ → Bool) (t : List Step) (c : List InLit) → shaped t ≡ true → 0 < k → list_all (covered seen t) c ≡ true → list_any (false_at t k) c ≡ true → 0 < marked k seen t
start_some k seen t c e h a f =
    marked_some k seen t
    (all_or_any (covered seen t) (false_at t k) (list_any (λ s. seen s.lit.var.0 && eqb s.level k) t ≡ true) c a f
    (λ m x y. all_any_mono (λ (s : Step). not (eqb s.lit.var.0 m.var.0) || eqb s.level k) (λ (s : Step). opposite s.lit m && (seen s.lit.var.0 || eqb s.level 0)) (λ (s : Step). seen s.lit.var.0 && eqb s.level k)
    (λ s u w. let p : (opposite s.lit m ≡ true) × ((seen s.lit.var.0 || eqb s.level 0) ≡ true) = and_parts _ _ w in
    let l : eqb s.level k ≡ true = ⊎_elim (λ (z : not (eqb s.lit.var.0 m.var.0) ≡ true). absurd (both_ways _ (not-true _ z) (eq-eqb _ _ (opposite_var s.lit m p.0)))) (λ (z : eqb s.level k ≡ true). z) (or_cases _ _ u) in
    and_from _ _ (⊎_elim (λ (z : seen s.lit.var.0 ≡ true). z) (λ (z : eqb s.level 0 ≡ true). absurd (let i : s.level ≡ 0 = eqb-true _ _ z in let j : s.level ≡ k = eqb-true _ _ l in omega arith)) (or_cases _ _ p.1)) l)
    t (only_level t k m e y) x))

-- the walk begins when the conflict is marked
pub start_walk : (held : List Held) (trail : Assignment) (walk new : Walk) (id : ClauseId) (c : List InLit) → IsStart trail walk → lits_at held id ≡ Some c → reasoned held trail.steps ≡ true → false_clause trail.steps c ≡ true → has_present trail.steps c ≡ true
    → 0 < level_of trail.steps → MarkedAll trail c walk new → AtWalk held trail new
start_walk held trail walk new id c s g r f p h m =
    let q : rest_of walk.left trail.steps ≡ trail.steps = rest_all trail.steps walk.left s.whole in
    let n : rest_of new.left trail.steps ≡ trail.steps = ap (λ (z : ℕ). rest_of z trail.steps) m.still ∙ q in
    let a : list_all (covered (is_marked new.marks) trail.steps) c ≡ true =
    covered_all trail.steps (is_marked new.marks) c f (subst (λ (z : List Step). list_all (λ l. not (false_in z l) || covered (is_marked new.marks) z l) c ≡ true) q m.covers) in
    let x : 0 < marked (level_of trail.steps) (is_marked new.marks) trail.steps = start_some (level_of trail.steps) (is_marked new.marks) trail.steps c s.stands.kept.sound h a p in
    let y : new.pending ≡ marked (level_of trail.steps) (is_marked new.marks) trail.steps = m.stands.tracks.count ∙ ap (marked (level_of trail.steps) (is_marked new.marks)) n in
    record {
      stands = m.stands;
      denies = subst (λ (z : List Step). Denies held (is_marked new.marks) z) (sym n)
          (λ w v. conflict_denied (is_marked new.marks) w trail.steps c (roots w held trail.steps v s.stands.kept.sound r) a (read_value w held id c g v));
      some = omega (arith, x, y);
    }

-- something is left to walk
pub walk_left : (held : List Held) (trail : Assignment) (walk : Walk) → AtWalk held trail walk → 0 < walk.left
walk_left held trail walk w =
    ⊎_elim (λ (a : 0 < walk.left). a)
    (λ (a : walk.left ≤ 0). let z : walk.left ≡ 0 = omega arith in
    let e : rest_of walk.left trail.steps ≡ [] = ap (λ (n : ℕ). rest_of n trail.steps) z ∙ rest_none trail.steps in
    let c : walk.pending ≡ 0 = w.stands.tracks.count ∙ ap (marked (level_of trail.steps) (is_marked walk.marks)) e in
    absurd (omega (arith, w.some, c)))
    (cases_lt 0 walk.left)

-- the newest literal of the rest
pub record Head (held : List Held) (trail : Assignment) (walk : Walk) (left : ℕ) (s : Step) : Type 0 where
  pub next : IsNext trail.steps left s
  pub inside : left < length trail.steps
  pub parts : Split held trail.steps s (rest_of left trail.steps)
  pub level : s.level ≡ level_of trail.steps
  pub stands : IsWalkOn trail walk
  pub tracks : Tracks (level_of trail.steps) trail.steps (is_marked walk.marks) (s ∷ rest_of left trail.steps) walk.pending walk.others.items
  pub denies : Denies held (is_marked walk.marks) (s ∷ rest_of left trail.steps)

pub head : (held : List Held) (trail : Assignment) (walk : Walk) (left : ℕ) → walk.left ≡ left + 1 → reasoned held trail.steps ≡ true → AtWalk held trail walk → (s : Step) × Head held trail walk left s
head held trail walk left e r w = go (next_step trail.steps left (let i : walk.left ≤ length trail.steps = w.stands.left in omega arith))
  where
    go : (s : Step) × IsNext trail.steps left s → (s : Step) × Head held trail walk left s
    go (s, n) =
        let h : rest_of walk.left trail.steps ≡ s ∷ rest_of left trail.steps = ap (λ (z : ℕ). rest_of z trail.steps) e ∙ n.here in
        let x : Split held trail.steps s (rest_of left trail.steps) = split held trail.steps left s n.here w.stands.kept.sound r in
        let m : Tracks (level_of trail.steps) trail.steps (is_marked walk.marks) (s ∷ rest_of left trail.steps) walk.pending walk.others.items =
        subst (λ (z : List Step). Tracks (level_of trail.steps) trail.steps (is_marked walk.marks) z walk.pending walk.others.items) h w.stands.tracks in
        let l : (leb s.level (level_of trail.steps) ≡ true) × (list_all (λ q. leb q.level (level_of trail.steps)) (rest_of left trail.steps) ≡ true) =
        and_parts _ _ (x.within (λ q. leb q.level (level_of trail.steps)) (levels_low trail.steps (level_of trail.steps) w.stands.kept.sound (omega arith))) in
        let c : walk.pending ≡ marked (level_of trail.steps) (is_marked walk.marks) (s ∷ rest_of left trail.steps) = m.count in (
          s,
          record {
            next = n;
            inside = let i : walk.left ≤ length trail.steps = w.stands.left in omega arith;
            parts = x;
            level = pending_level (level_of trail.steps) (is_marked walk.marks) s (rest_of left trail.steps) x.is_shaped (leb-true _ _ l.0) (omega (arith, c, w.some));
            stands = w.stands;
            tracks = m;
            denies = subst (λ (z : List Step). Denies held (is_marked walk.marks) z) h w.denies;
          },
        )

-- it is passed where it is not marked
pub head_passed : (held : List Held) (trail : Assignment) (walk : Walk) (left : ℕ) (s : Step) → Head held trail walk left s → is_marked walk.marks s.lit.var.0 ≡ false → 0 < walk.pending → AtWalk held trail (record walk { left = left })
head_passed held trail walk left s h f o =
    record {
      stands =
          record {
            kept = h.stands.kept;
            room = h.stands.room;
            level = h.stands.level;
            left = let i : left < length trail.steps = h.inside in omega arith;
            met = h.stands.met;
            tracks = pass_tracks (level_of trail.steps) trail.steps (rest_of left trail.steps) s (is_marked walk.marks) walk.pending walk.others.items f h.tracks;
          };
      denies = λ w v. pass_denied (is_marked walk.marks) w s (rest_of left trail.steps) f (h.denies w v);
      some = o;
    }

head_stands : (held : List Held) (trail : Assignment) (walk : Walk) (left less : ℕ) (s : Step) → Head held trail walk left s → is_marked walk.marks s.lit.var.0 ≡ true → walk.pending ≡ suc less → IsWalkOn trail (record walk { left = left; pending = less })
head_stands held trail walk left less s h f e =
    record {
      kept = h.stands.kept;
      room = h.stands.room;
      level = h.stands.level;
      left = let i : left < length trail.steps = h.inside in omega arith;
      met = h.stands.met;
      tracks =
          take_tracks (level_of trail.steps) trail.steps (rest_of left trail.steps) s (is_marked walk.marks) less walk.others.items f h.level
          (subst (λ (z : ℕ). Tracks (level_of trail.steps) trail.steps (is_marked walk.marks) (s ∷ rest_of left trail.steps) z walk.others.items) e h.tracks);
    }

-- it is taken where it is marked and another is left
pub head_taken : (held : List Held) (trail : Assignment) (walk : Walk) (left less : ℕ) (s : Step) (l : InLit) → Head held trail walk left s → s.lit ≡ l → is_marked walk.marks l.var.0 ≡ true → walk.pending ≡ suc less → 0 < less
    → IsTaken held trail (record walk { left = left; pending = less }) l
head_taken held trail walk left less s l h i f e o =
    record {
      step = s;
      here = h.next.here;
      inside = h.inside;
      is_lit = i;
      seen = f;
      stands = head_stands held trail walk left less s h (subst (λ (z : InLit). is_marked walk.marks z.var.0 ≡ true) (sym i) f) e;
      denies = h.denies;
      some = o;
    }

other_sign : (a : Bool) → not (beq a (not a)) ≡ true
other_sign true = refl
other_sign false = refl

negated_opposite : (l : InLit) → opposite l (record { var = l.var; negative = not l.negative }) ≡ true
negated_opposite l = and_from _ _ (eq-eqb l.var.0 l.var.0 refl) (other_sign l.negative)

-- the walk ends where no other is left
pub head_end : (held : List Held) (trail : Assignment) (walk : Walk) (left : ℕ) (s : Step) (l : InLit) → Head held trail walk left s → s.lit ≡ l → is_marked walk.marks l.var.0 ≡ true → walk.pending ≡ 1 → 0 < level_of trail.steps
    → AtEnd held trail (record walk { left = left; pending = 0 }) (record { var = l.var; negative = not l.negative })
head_end held trail walk left s l h i f e o =
    let g : is_marked walk.marks s.lit.var.0 ≡ true = subst (λ (z : InLit). is_marked walk.marks z.var.0 ≡ true) (sym i) f in
    let a : IsWalkOn trail (record walk { left = left; pending = 0 }) = head_stands held trail walk left 0 s h g e in
    let n : opposite s.lit (record { var = l.var; negative = not l.negative }) ≡ true = subst (λ (z : InLit). opposite z (record { var = l.var; negative = not l.negative }) ≡ true) (sym i) (negated_opposite l) in
    record {
      stands = a;
      above = o;
      first_false = h.parts.found (λ q. opposite q.lit (record { var = l.var; negative = not l.negative }) && eqb q.level (level_of trail.steps)) (or_left _ _ (and_from _ _ n (eq-eqb _ _ h.level)));
      first_met = f;
      follows =
          end_follows held (level_of trail.steps) trail.steps (rest_of left trail.steps) s (is_marked walk.marks) (record { var = l.var; negative = not l.negative }) walk.others.items
          (λ p q. (and_parts (p s) (list_all p (rest_of left trail.steps)) (h.parts.within p q)).1) n h.denies a.tracks;
    }

taken_split : (held : List Held) (trail : Assignment) (walk : Walk) (l : InLit) → reasoned held trail.steps ≡ true → (x : IsTaken held trail walk l) → Split held trail.steps x.step (rest_of walk.left trail.steps)
taken_split held trail walk l r x = split held trail.steps walk.left x.step x.here x.stands.kept.sound r

taken_reason : (held : List Held) (trail : Assignment) (walk : Walk) (l : InLit) → reasoned held trail.steps ≡ true → (x : IsTaken held trail walk l) → x.step.reason ≡ reason_in trail.steps l.var.0
taken_reason held trail walk l r x = sym (taken_split held trail walk l r x).reason ∙ ap (λ (z : InLit). reason_in trail.steps z.var.0) x.is_lit

-- a taken literal has a reason
pub taken_some : (held : List Held) (trail : Assignment) (walk : Walk) (l : InLit) → reasoned held trail.steps ≡ true → IsTaken held trail walk l → reason_in trail.steps l.var.0 ≡ None → ⊥
taken_some held trail walk l r x n =
    let p : Split held trail.steps x.step (rest_of walk.left trail.steps) = taken_split held trail walk l r x in
    let q : (has_reason held (rest_of walk.left trail.steps) x.step x.step.reason ≡ true) × (reasoned held (rest_of walk.left trail.steps) ≡ true) = and_parts _ _ p.is_reasoned in
    let k : (leb x.step.level (level_of trail.steps) ≡ true) × (list_all (λ s. leb s.level (level_of trail.steps)) (rest_of walk.left trail.steps) ≡ true) =
    and_parts _ _ (p.within (λ s. leb s.level (level_of trail.steps)) (levels_low trail.steps (level_of trail.steps) x.stands.kept.sound (omega arith))) in
    let c : walk.pending ≡ marked (level_of trail.steps) (is_marked walk.marks) (rest_of walk.left trail.steps) = x.stands.tracks.count in
    pending_reason (level_of trail.steps) (is_marked walk.marks) held x.step (rest_of walk.left trail.steps) p.is_shaped (leb-true _ _ k.0) (omega (arith, c, x.some))
    (subst (λ (o : Option ClauseId). has_reason held (rest_of walk.left trail.steps) x.step o ≡ true) (taken_reason held trail walk l r x ∙ n) q.0)

taken_gives : (held : List Held) (trail : Assignment) (walk : Walk) (l : InLit) (id : ClauseId) → reasoned held trail.steps ≡ true → (x : IsTaken held trail walk l) → reason_in trail.steps l.var.0 ≡ Some id → names held id (gives (rest_of walk.left trail.steps) x.step.lit) ≡ true
taken_gives held trail walk l id r x n =
    let p : Split held trail.steps x.step (rest_of walk.left trail.steps) = taken_split held trail walk l r x in
    let q : (has_reason held (rest_of walk.left trail.steps) x.step x.step.reason ≡ true) × (reasoned held (rest_of walk.left trail.steps) ≡ true) = and_parts _ _ p.is_reasoned in
    subst (λ (o : Option ClauseId). has_reason held (rest_of walk.left trail.steps) x.step o ≡ true) (taken_reason held trail walk l r x ∙ n) q.0

-- the reason is live
pub taken_live : (held : List Held) (trail : Assignment) (walk : Walk) (l : InLit) (id : ClauseId) → reasoned held trail.steps ≡ true → IsTaken held trail walk l → reason_in trail.steps l.var.0 ≡ Some id → is_live held id.0 ≡ true
taken_live held trail walk l id r x n = names_live held id (gives (rest_of walk.left trail.steps) x.step.lit) (taken_gives held trail walk l id r x n)

taken_others : (held : List Held) (trail : Assignment) (walk : Walk) (l : InLit) (id : ClauseId) (c : List InLit) → reasoned held trail.steps ≡ true → (x : IsTaken held trail walk l) → reason_in trail.steps l.var.0 ≡ Some id → lits_at held id ≡ Some c
    → list_all (λ m. same_lit x.step.lit m || false_in (rest_of walk.left trail.steps) m) c ≡ true
taken_others held trail walk l id c r x n g =
    (and_parts (list_any (same_lit x.step.lit) c) (list_all (λ m. same_lit x.step.lit m || false_in (rest_of walk.left trail.steps) m) c)
    (names_lits held id (gives (rest_of walk.left trail.steps) x.step.lit) c g (taken_gives held trail walk l id r x n))).1

-- its literals may be marked
pub taken_known : (held : List Held) (trail : Assignment) (walk : Walk) (l : InLit) (id : ClauseId) (c : List InLit) → reasoned held trail.steps ≡ true → IsTaken held trail walk l → reason_in trail.steps l.var.0 ≡ Some id → lits_at held id ≡ Some c
    → list_all (may_mark trail.steps walk) c ≡ true
taken_known held trail walk l id c r x n g =
    all_mono (λ (m : InLit). same_lit x.step.lit m || false_in (rest_of walk.left trail.steps) m) (may_mark trail.steps walk)
    (λ m y. ⊎_elim (λ (z : same_lit x.step.lit m ≡ true). or_left _ _ (subst (λ (v : ℕ). is_marked walk.marks v ≡ true) (ap (λ (k : InLit). k.var.0) (sym x.is_lit) ∙ same_var x.step.lit m z) x.seen))
    (λ (z : false_in (rest_of walk.left trail.steps) m ≡ true). or_right _ _ z) (or_cases _ _ y)) c (taken_others held trail walk l id c r x n g)

-- and the walk goes on when they are
pub resolved : (held : List Held) (trail : Assignment) (walk new : Walk) (l : InLit) (id : ClauseId) (c : List InLit) → reasoned held trail.steps ≡ true → IsTaken held trail walk l → reason_in trail.steps l.var.0 ≡ Some id → lits_at held id ≡ Some c
    → MarkedAll trail c walk new → AtWalk held trail new
resolved held trail walk new l id c r x n g m =
    let p : Split held trail.steps x.step (rest_of walk.left trail.steps) = taken_split held trail walk l r x in
    let e : (shaped_step (rest_of walk.left trail.steps) x.step ≡ true) × (shaped (rest_of walk.left trail.steps) ≡ true) = and_parts _ _ p.is_shaped in
    let q : (has_reason held (rest_of walk.left trail.steps) x.step x.step.reason ≡ true) × (reasoned held (rest_of walk.left trail.steps) ≡ true) = and_parts _ _ p.is_reasoned in
    let k : rest_of new.left trail.steps ≡ rest_of walk.left trail.steps = ap (λ (z : ℕ). rest_of z trail.steps) m.still in
    let covers : list_all (λ y. same_lit x.step.lit y || covered (is_marked new.marks) (rest_of walk.left trail.steps) y) c ≡ true =
    both_all (λ (y : InLit). same_lit x.step.lit y || false_in (rest_of walk.left trail.steps) y) (λ (y : InLit). not (false_in (rest_of walk.left trail.steps) y) || covered (is_marked new.marks) (rest_of walk.left trail.steps) y)
    (λ (y : InLit). same_lit x.step.lit y || covered (is_marked new.marks) (rest_of walk.left trail.steps) y)
    (λ y a b. join (same_lit x.step.lit y) (false_in (rest_of walk.left trail.steps) y) (covered (is_marked new.marks) (rest_of walk.left trail.steps) y) a b) c (taken_others held trail walk l id c r x n g) m.covers in
    record {
      stands = m.stands;
      denies =
          subst (λ (z : List Step). Denies held (is_marked new.marks) z) (sym k)
          (λ w v. resolve_denied (is_marked walk.marks) (is_marked new.marks) w x.step (rest_of walk.left trail.steps) c m.grows (roots w held (rest_of walk.left trail.steps) v e.1 q.1) (read_value w held id c g v) covers (x.denies w v));
      some =
          let a : walk.pending ≡ marked (level_of trail.steps) (is_marked walk.marks) (rest_of walk.left trail.steps) = x.stands.tracks.count in
          let b : new.pending ≡ marked (level_of trail.steps) (is_marked new.marks) (rest_of walk.left trail.steps) = m.stands.tracks.count ∙ ap (marked (level_of trail.steps) (is_marked new.marks)) k in
          let d : marked (level_of trail.steps) (is_marked walk.marks) (rest_of walk.left trail.steps) ≤ marked (level_of trail.steps) (is_marked new.marks) (rest_of walk.left trail.steps) =
          marked_mono (level_of trail.steps) (is_marked walk.marks) (is_marked new.marks) (rest_of walk.left trail.steps) m.grows in
          omega (arith, a, b, d, x.some);
    }
  where
    join : (a b c : Bool) → (a || b) ≡ true → (not b || c) ≡ true → (a || c) ≡ true
    join true b c e f = refl
    join false true c e f = f
    join false false c e f = absurd (false≢true e)

-- the next literal, as the code reads it
walk_head : (held : List Held) (trail : Assignment) (walk : Walk) (lits : List InLit) (d : InLit) → reasoned held trail.steps ≡ true → AtWalk held trail walk → lits ≡ lits_of trail.steps
    → (s : Step) × Head held trail walk (walk.left - 1) s × (s.lit ≡ get_or lits (walk.left - 1) d)
walk_head held trail walk lits d r w e = go (head held trail walk (walk.left - 1) (let a : 0 < walk.left = walk_left held trail walk w in omega arith) r w)
  where
    go : (s : Step) × Head held trail walk (walk.left - 1) s → (s : Step) × Head held trail walk (walk.left - 1) s × (s.lit ≡ get_or lits (walk.left - 1) d)
    go (s, h) = (s, h, sym (ap (λ (z : List InLit). get_or z (walk.left - 1) d) e ∙ h.next.at d))

-- it is passed
pub walk_passed : (held : List Held) (trail : Assignment) (walk : Walk) (lits : List InLit) (d : InLit) → reasoned held trail.steps ≡ true → AtWalk held trail walk → lits ≡ lits_of trail.steps → is_marked walk.marks (get_or lits (walk.left - 1) d).var.0 ≡ false
    → AtWalk held trail (record walk { left = walk.left - 1 })
walk_passed held trail walk lits d r w e f = go (walk_head held trail walk lits d r w e)
  where
    go : (s : Step) × Head held trail walk (walk.left - 1) s × (s.lit ≡ get_or lits (walk.left - 1) d) → AtWalk held trail (record walk { left = walk.left - 1 })
    go (s, h, i) = head_passed held trail walk (walk.left - 1) s h (subst (λ (z : InLit). is_marked walk.marks z.var.0 ≡ false) (sym i) f) w.some

-- it is taken
pub walk_taken : (held : List Held) (trail : Assignment) (walk : Walk) (lits : List InLit) (d : InLit) → reasoned held trail.steps ≡ true → AtWalk held trail walk → lits ≡ lits_of trail.steps → is_marked walk.marks (get_or lits (walk.left - 1) d).var.0 ≡ true
    → (walk.pending - 1 ≡ 0 → ⊥) → IsTaken held trail (record walk { left = walk.left - 1; pending = walk.pending - 1 }) (get_or lits (walk.left - 1) d)
walk_taken held trail walk lits d r w e f n = go (walk_head held trail walk lits d r w e)
  where
    go : (s : Step) × Head held trail walk (walk.left - 1) s × (s.lit ≡ get_or lits (walk.left - 1) d) → IsTaken held trail (record walk { left = walk.left - 1; pending = walk.pending - 1 }) (get_or lits (walk.left - 1) d)
    go (s, h, i) =
        head_taken held trail walk (walk.left - 1) (walk.pending - 1) s (get_or lits (walk.left - 1) d) h i f (let a : 0 < walk.pending = w.some in omega arith)
        (⊎_elim (λ (a : 0 < walk.pending - 1). a) (λ (a : walk.pending - 1 ≤ 0). absurd (n (omega arith))) (cases_lt 0 (walk.pending - 1)))

-- the walk ends at it
pub walk_end : (held : List Held) (trail : Assignment) (walk : Walk) (lits : List InLit) (d : InLit) → reasoned held trail.steps ≡ true → AtWalk held trail walk → lits ≡ lits_of trail.steps → is_marked walk.marks (get_or lits (walk.left - 1) d).var.0 ≡ true
    → walk.pending - 1 ≡ 0 → 0 < level_of trail.steps
    → AtEnd held trail (record walk { left = walk.left - 1; pending = walk.pending - 1 }) (record { var = (get_or lits (walk.left - 1) d).var; negative = not (get_or lits (walk.left - 1) d).negative })
walk_end held trail walk lits d r w e f n o = go (walk_head held trail walk lits d r w e)
  where
    go : (s : Step) × Head held trail walk (walk.left - 1) s × (s.lit ≡ get_or lits (walk.left - 1) d)
        → AtEnd held trail (record walk { left = walk.left - 1; pending = walk.pending - 1 }) (record { var = (get_or lits (walk.left - 1) d).var; negative = not (get_or lits (walk.left - 1) d).negative })
    go (s, h, i) =
        subst (λ (z : ℕ). AtEnd held trail (record walk { left = walk.left - 1; pending = z }) (record { var = (get_or lits (walk.left - 1) d).var; negative = not (get_or lits (walk.left - 1) d).negative })) (sym n)
        (head_end held trail walk (walk.left - 1) s (get_or lits (walk.left - 1) d) h i f (let a : 0 < walk.pending = w.some in omega arith) o)

-- there is a literal to read
pub walk_inside : (held : List Held) (trail : Assignment) (walk : Walk) (lits : List InLit) → AtWalk held trail walk → lits ≡ lits_of trail.steps → walk.left - 1 < length lits
walk_inside held trail walk lits w e =
    let a : 0 < walk.left = walk_left held trail walk w in
    let b : length lits ≡ length trail.steps = ap length e ∙ length-lits_of trail.steps in
    let c : walk.left ≤ length trail.steps = w.stands.left in
    omega arith
