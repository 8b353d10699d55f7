-- The walk back from a false literal to decisions.
use Rattle.std.proofs.Common.{◌≡◌, ◌<◌, ◌≤◌, ◌+◌, ◌-◌, ℕ, zero, suc, Bool, true, false, not, eqb, leb, ltb, ◌&&◌, ◌||◌, List, [], ◌∷◌, ◌++◌, length, reverse, take, drop, get_or, append-nil, Option, Some, None, unwrap_or, refl, sym, ap, subst, ◌∙◌, ⊎_elim, arith, eq-eqb, ltb-true, lt-ltb}
use Rattle.std.proofs.lemmas.Bool.{and_parts, and_from, or_cases, or_left, or_right, leb-true, le-leb, false≢true, both_ways, not-true, false_from_ne_true}
use Rattle.std.proofs.lemmas.List.{reverse-append, drop_all, take_all}
use Rattle.std.proofs.lemmas.List.Folds.{list_any-append, list_all-append, list_all_more}
use Rattle.std.specs.List.{list_any, list_all, refill}
use Rattle.std.specs.List.Sorted.{IsStrictlyIncreasing}
use Rattle.sat_lits.specs.InLits.{same_lit}
use Rattle.sat_lits.specs.ListLaws.{all_mono, both_all}
use Rattle.sat_lits.specs.declared.literal.InLit.{InLit}
use Rattle.sat_lits.specs.declared.literal.Inner.{Inner}
use Rattle.sat_lits.specs.declared.literal.ClauseId.{ClauseId}
use Rattle.trail.specs.declared.trail.Step.{Step}
use Rattle.trail.specs.Trail.{Assignment, IsKept, false_in, level_of, reason_in, lits_of, decided, shaped, shaped_step}
use Rattle.trail.specs.Laws.{levels_low, level_up}
use Rattle.clause_store.specs.Store.{Held}
use Rattle.propagate.specs.Units.{gives}
use Rattle.propagate.specs.Reasons.{has_reason, reasoned, lit_value}
use Rattle.analyze.specs.FinalSets.{decisions_value, has_decision, IsFinalSet}
use Rattle.analyze.specs.Marking.{Marking, MarksNew, is_marked, is_root, level_or}
use Rattle.analyze.specs.Walks.{covered, denied, rest_of}
use Rattle.analyze.specs.Deciding.{is_named, DeniesWith, falls, AtDecisions, Covers}
use Rattle.analyze.proofs.Entailing.{lits_at, names_lits, read_value, roots, covered_denied, pass_denied, resolve_denied}
use Rattle.analyze.proofs.Shortening.{holds}
use Rattle.analyze.proofs.Rests.{rest_all, rest_none, IsNext, next_step, Split, split}
use Rattle.analyze.proofs.Marked.{is_marked-push, settled_covered}

-- after a mark its variable is settled
pub new_settled : (t : List Step) (v : Inner) (old new : Marking) (o : Option ℕ) → MarksNew t v old new o → (is_marked new v.0 || is_root t v.0) ≡ true
new_settled t v old new None m = subst (λ (z : Marking). (is_marked z v.0 || is_root t v.0) ≡ true) (sym m.0) m.1
new_settled t v old new (Some n) m =
    or_left _ _ (subst (λ (z : Marking). is_marked z v.0 ≡ true) (sym m.0) (subst (λ (f : ℕ → Bool). f v.0 ≡ true) (sym (is_marked-push old.vars old.room v)) (or_left (eqb v.0 v.0) (is_marked old v.0) (eq-eqb v.0 v.0 refl))))

-- no mark is lost
pub new_grows : (t : List Step) (v : Inner) (old new : Marking) (o : Option ℕ) → MarksNew t v old new o → (n : ℕ) → is_marked old n ≡ true → is_marked new n ≡ true
new_grows t v old new None m n e = subst (λ (z : Marking). is_marked z n ≡ true) (sym m.0) e
new_grows t v old new (Some k) m n e =
    subst (λ (z : Marking). is_marked z n ≡ true) (sym m.0) (subst (λ (f : ℕ → Bool). f n ≡ true) (sym (is_marked-push old.vars old.room v)) (or_right (eqb n v.0) (is_marked old n) e))

-- and no room
pub new_room : (t : List Step) (v : Inner) (old new : Marking) (o : Option ℕ) → MarksNew t v old new o → new.room ≡ old.room
new_room t v old new None m = ap (λ (z : Marking). z.room) m.0
new_room t v old new (Some k) m = ap (λ (z : Marking). z.room) m.0

-- one literal more is settled
pub covers_more : (trail : Assignment) (c : List InLit) (i : ℕ) (d : InLit) (old mid new : Marking) (o : Option ℕ) → i < length c → Covers trail (take i c) old mid → MarksNew trail.steps (get_or c i d).var mid new o → Covers trail (take (i + 1) c) old new
covers_more trail c i d old mid new o h a m =
    record {
      room = let e : new.room ≡ mid.room = new_room trail.steps (get_or c i d).var mid new o m in let f : trail.reserved ≤ mid.room = a.room in omega arith;
      grows = λ v e. new_grows trail.steps (get_or c i d).var mid new o m v (a.grows v e);
      all_settled =
          list_all_more (λ k. is_marked new k.var.0 || is_root trail.steps k.var.0) c i d h
          ∙ and_from _ _
          (all_mono (λ (k : InLit). is_marked mid k.var.0 || is_root trail.steps k.var.0) (λ (k : InLit). is_marked new k.var.0 || is_root trail.steps k.var.0)
          (λ k e. ⊎_elim (λ (x : is_marked mid k.var.0 ≡ true). or_left _ _ (new_grows trail.steps (get_or c i d).var mid new o m k.var.0 x)) (λ (x : is_root trail.steps k.var.0 ≡ true). or_right _ _ x) (or_cases _ _ e)) (take i c) a.all_settled)
          (new_settled trail.steps (get_or c i d).var mid new o m);
    }

-- the walk begins with the literal
pub decisions_start : (held : List Held) (trail : Assignment) (l : InLit) (old new : Marking) (o : Option ℕ) → IsKept trail → reasoned held trail.steps ≡ true → false_in trail.steps l ≡ true → trail.reserved ≤ old.room → MarksNew trail.steps l.var old new o
    → AtDecisions held trail l new (length trail.steps) []
decisions_start held trail l old new o k r f h m =
    record {
      kept = k;
      room = let e : new.room ≡ old.room = new_room trail.steps l.var old new o m in omega arith;
      inside = omega arith;
      denies =
          subst (λ (z : List Step). DeniesWith held trail.steps (is_named []) l (is_marked new) z) (sym a)
          (λ w v d t. covered_denied (is_marked new) w trail.steps l (roots w held trail.steps v k.sound r)
          (subst (λ (z : List Step). covered (is_marked new) z l ≡ true) a (settled_covered trail.steps (length trail.steps) (is_marked new) l k.sound (new_settled trail.steps l.var old new o m) (subst (λ (z : List Step). false_in z l ≡ true) (sym a) f))) t);
      decisions = refl;
      above = refl;
      falling = refl;
    }
  where
    a : rest_of (length trail.steps) trail.steps ≡ trail.steps
    a = rest_all trail.steps (length trail.steps) refl

-- the newest literal of the rest
record Top (held : List Held) (trail : Assignment) (marks : Marking) (left : ℕ) (l : InLit) (levels : List ℕ) (s : Step) : Type 0 where
  pub next : IsNext trail.steps left s
  pub inside : left < length trail.steps
  pub parts : Split held trail.steps s (rest_of left trail.steps)
  pub denies : DeniesWith held trail.steps (is_named levels) l (is_marked marks) (s ∷ rest_of left trail.steps)
  pub lower : list_all (λ level. ltb s.level level) levels ≡ true

top : (held : List Held) (trail : Assignment) (l : InLit) (marks : Marking) (left : ℕ) (levels : List ℕ) → 0 < left → reasoned held trail.steps ≡ true → AtDecisions held trail l marks left levels → (s : Step) × Top held trail marks (left - 1) l levels s
top held trail l marks left levels h r a = go (next_step trail.steps (left - 1) (let i : left ≤ length trail.steps = a.inside in omega arith))
  where
    go : (s : Step) × IsNext trail.steps (left - 1) s → (s : Step) × Top held trail marks (left - 1) l levels s
    go (s, n) =
        let e : left ≡ left - 1 + 1 = omega arith in
        let p : rest_of left trail.steps ≡ s ∷ rest_of (left - 1) trail.steps = ap (λ (z : ℕ). rest_of z trail.steps) e ∙ n.here in (
          s,
          record {
            next = n;
            inside = let i : left ≤ length trail.steps = a.inside in omega arith;
            parts = split held trail.steps (left - 1) s n.here a.kept.sound r;
            denies = subst (λ (z : List Step). DeniesWith held trail.steps (is_named levels) l (is_marked marks) z) p a.denies;
            lower = subst (λ (z : List Step). list_all (λ level. ltb (level_of z) level) levels ≡ true) p a.above;
          },
        )

-- the levels so far are above that of older steps
top_above : (held : List Held) (trail : Assignment) (marks : Marking) (left : ℕ) (l : InLit) (levels : List ℕ) (s : Step) → Top held trail marks left l levels s → list_all (λ level. ltb (level_of (rest_of left trail.steps)) level) levels ≡ true
top_above held trail marks left l levels s t =
    let e : (shaped_step (rest_of left trail.steps) s ≡ true) × (shaped (rest_of left trail.steps) ≡ true) = and_parts _ _ t.parts.is_shaped in
    let u : level_of (rest_of left trail.steps) ≤ s.level = level_up (rest_of left trail.steps) s e.0 in
    all_mono (λ (n : ℕ). ltb s.level n) (λ (n : ℕ). ltb (level_of (rest_of left trail.steps)) n) (λ n a. let b : s.level < n = ltb-true _ _ a in lt-ltb (level_of (rest_of left trail.steps)) n (omega arith)) levels t.lower

-- an unmarked literal is passed over
pub decisions_pass : (held : List Held) (trail : Assignment) (l : InLit) (marks : Marking) (left : ℕ) (levels : List ℕ) (lits : List InLit) (d : InLit) → 0 < left → reasoned held trail.steps ≡ true → lits ≡ lits_of trail.steps → is_marked marks (get_or lits (left - 1) d).var.0 ≡ false
    → AtDecisions held trail l marks left levels → AtDecisions held trail l marks (left - 1) levels
decisions_pass held trail l marks left levels lits d h r e f a = go (top held trail l marks left levels h r a)
  where
    go : (s : Step) × Top held trail marks (left - 1) l levels s → AtDecisions held trail l marks (left - 1) levels
    go (s, t) =
        let i : get_or lits (left - 1) d ≡ s.lit = ap (λ (z : List InLit). get_or z (left - 1) d) e ∙ t.next.at d in
        record {
          kept = a.kept;
          room = a.room;
          inside = let j : left - 1 < length trail.steps = t.inside in omega arith;
          denies = λ w v x y. pass_denied (is_marked marks) w s (rest_of (left - 1) trail.steps) (subst (λ (z : InLit). is_marked marks z.var.0 ≡ false) i f) (t.denies w v x y);
          decisions = a.decisions;
          above = top_above held trail marks (left - 1) l levels s t;
          falling = a.falling;
        }

-- a marked one with a reason gives way to the others of that
pub decisions_resolve : (held : List Held) (trail : Assignment) (l : InLit) (marks new : Marking) (left : ℕ) (levels : List ℕ) (lits c : List InLit) (d : InLit) (id : ClauseId) → 0 < left → reasoned held trail.steps ≡ true → lits ≡ lits_of trail.steps
    → reason_in trail.steps (get_or lits (left - 1) d).var.0 ≡ Some id → lits_at held id ≡ Some c → Covers trail c marks new → AtDecisions held trail l marks left levels → AtDecisions held trail l new (left - 1) levels
decisions_resolve held trail l marks new left levels lits c d id h r e n g m a = go (top held trail l marks left levels h r a)
  where
    join : (a b c : Bool) → (a || b) ≡ true → (b ≡ true → c ≡ true) → (a || c) ≡ true
    join true b c e f = refl
    join false b c e f = f e

    go : (s : Step) × Top held trail marks (left - 1) l levels s → AtDecisions held trail l new (left - 1) levels
    go (s, t) =
        let i : get_or lits (left - 1) d ≡ s.lit = ap (λ (z : List InLit). get_or z (left - 1) d) e ∙ t.next.at d in
        let o : s.reason ≡ Some id = sym t.parts.reason ∙ (ap (λ (z : InLit). reason_in trail.steps z.var.0) (sym i) ∙ n) in
        let p : (has_reason held (rest_of (left - 1) trail.steps) s s.reason ≡ true) × (reasoned held (rest_of (left - 1) trail.steps) ≡ true) = and_parts _ _ t.parts.is_reasoned in
        let q : (shaped_step (rest_of (left - 1) trail.steps) s ≡ true) × (shaped (rest_of (left - 1) trail.steps) ≡ true) = and_parts _ _ t.parts.is_shaped in
        let b : gives (rest_of (left - 1) trail.steps) s.lit c ≡ true = names_lits held id (gives (rest_of (left - 1) trail.steps) s.lit) c g (subst (λ (z : Option ClauseId). has_reason held (rest_of (left - 1) trail.steps) s z ≡ true) o p.0) in
        let x : list_all (λ y. same_lit s.lit y || covered (is_marked new) (rest_of (left - 1) trail.steps) y) c ≡ true =
        both_all (λ (y : InLit). same_lit s.lit y || false_in (rest_of (left - 1) trail.steps) y) (λ (y : InLit). is_marked new y.var.0 || is_root trail.steps y.var.0) (λ (y : InLit). same_lit s.lit y || covered (is_marked new) (rest_of (left - 1) trail.steps) y)
        (λ y u v. join (same_lit s.lit y) (false_in (rest_of (left - 1) trail.steps) y) (covered (is_marked new) (rest_of (left - 1) trail.steps) y) u (λ z. settled_covered trail.steps (left - 1) (is_marked new) y a.kept.sound v z)) c
        (and_parts (list_any (same_lit s.lit) c) (list_all (λ y. same_lit s.lit y || false_in (rest_of (left - 1) trail.steps) y) c) b).1 m.all_settled in
        record {
          kept = a.kept;
          room = m.room;
          inside = let j : left - 1 < length trail.steps = t.inside in omega arith;
          denies = λ w v y z. resolve_denied (is_marked marks) (is_marked new) w s (rest_of (left - 1) trail.steps) c m.grows (roots w held (rest_of (left - 1) trail.steps) v q.1 p.1) (read_value w held id c g v) x (t.denies w v y z);
          decisions = a.decisions;
          above = top_above held trail marks (left - 1) l levels s t;
          falling = a.falling;
        }

falls-push : (ns : List ℕ) (n : ℕ) → falls ns ≡ true → list_all (λ m. ltb n m) ns ≡ true → falls (ns ++ n ∷ []) ≡ true
falls-push [] n f a = refl
falls-push (m ∷ ns) n f a =
    let p : (list_all (λ k. ltb k m) ns ≡ true) × (falls ns ≡ true) = and_parts _ _ f in
    let q : (ltb n m ≡ true) × (list_all (λ k. ltb n k) ns ≡ true) = and_parts _ _ a in
    and_from _ _ (list_all-append (λ (k : ℕ). ltb k m) ns (n ∷ []) ∙ and_from _ _ p.0 (and_from _ _ q.0 refl)) (falls-push ns n p.1 q.1)

named_push : (levels : List ℕ) (n k : ℕ) → is_named levels k ≡ true → is_named (levels ++ n ∷ []) k ≡ true
named_push levels n k e = list_any-append (λ (m : ℕ). eqb m k) levels (n ∷ []) ∙ or_left _ _ e

fewer : (a n m v : Bool) → (n ≡ true → m ≡ true) → (not (a && m) || v) ≡ true → (not (a && n) || v) ≡ true
fewer false n m v f g = refl
fewer true false m v f g = refl
fewer true true true v f g = g
fewer true true false v f g = absurd (false≢true (f refl))

-- a marked decision is named
pub decisions_name : (held : List Held) (trail : Assignment) (l : InLit) (marks : Marking) (left level : ℕ) (levels more : List ℕ) (lits : List InLit) (d : InLit) → 0 < left → reasoned held trail.steps ≡ true → lits ≡ lits_of trail.steps
    → reason_in trail.steps (get_or lits (left - 1) d).var.0 ≡ None → level ≡ level_or trail.steps (get_or lits (left - 1) d).var.0 → more ≡ levels ++ level ∷ [] → AtDecisions held trail l marks left levels → AtDecisions held trail l marks (left - 1) more
decisions_name held trail l marks left level levels more lits d h r e n lv mr a = subst (λ (z : List ℕ). AtDecisions held trail l marks (left - 1) z) (sym mr) (go (top held trail l marks left levels h r a))
  where
    go : (s : Step) × Top held trail marks (left - 1) l levels s → AtDecisions held trail l marks (left - 1) (levels ++ level ∷ [])
    go (s, t) =
        let i : get_or lits (left - 1) d ≡ s.lit = ap (λ (z : List InLit). get_or z (left - 1) d) e ∙ t.next.at d in
        let o : s.reason ≡ None = sym t.parts.reason ∙ (ap (λ (z : InLit). reason_in trail.steps z.var.0) (sym i) ∙ n) in
        let p : (has_reason held (rest_of (left - 1) trail.steps) s s.reason ≡ true) × (reasoned held (rest_of (left - 1) trail.steps) ≡ true) = and_parts _ _ t.parts.is_reasoned in
        let b : level_of (rest_of (left - 1) trail.steps) < s.level = ltb-true _ _ (subst (λ (z : Option ClauseId). has_reason held (rest_of (left - 1) trail.steps) s z ≡ true) o p.0) in
        let k : level ≡ s.level = lv ∙ (ap (λ (z : InLit). level_or trail.steps z.var.0) i ∙ ap (λ (z : Option ℕ). unwrap_or z 0) t.parts.level) in
        let w : list_all (λ q. leb q.level (level_of trail.steps)) (s ∷ rest_of (left - 1) trail.steps) ≡ true = t.parts.within (λ q. leb q.level (level_of trail.steps)) (levels_low trail.steps (level_of trail.steps) a.kept.sound (omega arith)) in
        let u : s.level ≤ level_of trail.steps = leb-true _ _ (and_parts (leb s.level (level_of trail.steps)) (list_all (λ q. leb q.level (level_of trail.steps)) (rest_of (left - 1) trail.steps)) w).0 in
        let dec : decided s.reason ≡ true = ap decided o in
        record {
          kept = a.kept;
          room = a.room;
          inside = let j : left - 1 < length trail.steps = t.inside in omega arith;
          denies = λ x v y z. named s t dec k x v y z;
          decisions =
              list_all-append (has_decision trail.steps) levels (level ∷ [])
              ∙ and_from _ _ a.decisions
              (and_from _ _
              (and_from _ _ (and_from _ _ (le-leb 1 level (omega arith)) (le-leb level (level_of trail.steps) (omega arith))) (t.parts.found (λ q. decided q.reason && eqb q.level level) (or_left _ _ (and_from _ _ dec (eq-eqb _ _ (sym k))))))
              refl);
          above = list_all-append (λ (m : ℕ). ltb (level_of (rest_of (left - 1) trail.steps)) m) levels (level ∷ []) ∙ and_from _ _ (top_above held trail marks (left - 1) l levels s t) (and_from _ _ (lt-ltb _ _ (omega arith)) refl);
          falling = falls-push levels level a.falling (subst (λ (z : ℕ). list_all (λ m. ltb z m) levels ≡ true) (sym k) t.lower);
        }
      where
        named : (s : Step) → Top held trail marks (left - 1) l levels s → decided s.reason ≡ true → level ≡ s.level → DeniesWith held trail.steps (is_named (levels ++ level ∷ [])) l (is_marked marks) (rest_of (left - 1) trail.steps)
        named s t dec k x v y z =
            let f : decisions_value x (is_named levels) trail.steps ≡ true =
            all_mono (λ (q : Step). not (decided q.reason && is_named (levels ++ level ∷ []) q.level) || lit_value x q.lit) (λ (q : Step). not (decided q.reason && is_named levels q.level) || lit_value x q.lit)
            (λ q c. fewer (decided q.reason) (is_named levels q.level) (is_named (levels ++ level ∷ []) q.level) (lit_value x q.lit) (named_push levels level q.level) c) trail.steps y in
            let g : (not (decided s.reason && is_named (levels ++ level ∷ []) s.level) || lit_value x s.lit) ≡ true =
            (and_parts (not (decided s.reason && is_named (levels ++ level ∷ []) s.level) || lit_value x s.lit) (list_all (λ q. not (decided q.reason && is_named (levels ++ level ∷ []) q.level) || lit_value x q.lit) (rest_of (left - 1) trail.steps))
            (t.parts.within (λ q. not (decided q.reason && is_named (levels ++ level ∷ []) q.level) || lit_value x q.lit) y)).0 in
            let m : is_named (levels ++ level ∷ []) s.level ≡ true = list_any-append (λ (j : ℕ). eqb j s.level) levels (level ∷ []) ∙ or_right _ _ (or_left _ _ (eq-eqb level s.level k)) in
            let i : lit_value x s.lit ≡ true = holds (decided s.reason && is_named (levels ++ level ∷ []) s.level) (lit_value x s.lit) g (and_from _ _ dec m) in
            ⊎_elim (λ (b : (is_marked marks s.lit.var.0 && not (lit_value x s.lit)) ≡ true). absurd (both_ways _ (not-true _ (and_parts (is_marked marks s.lit.var.0) (not (lit_value x s.lit)) b).1) i))
            (λ (b : denied (is_marked marks) x (rest_of (left - 1) trail.steps) ≡ true). b) (or_cases _ _ (t.denies x v f z))

all-reverse : (p : ℕ → Bool) (ns : List ℕ) → list_all p ns ≡ true → list_all p (reverse ns) ≡ true
all-reverse p [] e = refl
all-reverse p (n ∷ ns) e =
    let a : (p n ≡ true) × (list_all p ns ≡ true) = and_parts _ _ e in
    ap (list_all p) (reverse-append (n ∷ []) ns) ∙ (list_all-append p (reverse ns) (n ∷ []) ∙ and_from _ _ (all-reverse p ns a.1) (and_from _ _ a.0 refl))

-- whether each number is less than those after it
abbrev rises : List ℕ → Bool
rises [] = true
rises (n ∷ ns) = list_all (λ m. ltb n m) ns && rises ns

rises-push : (ns : List ℕ) (n : ℕ) → rises ns ≡ true → list_all (λ m. ltb m n) ns ≡ true → rises (ns ++ n ∷ []) ≡ true
rises-push [] n f a = refl
rises-push (m ∷ ns) n f a =
    let p : (list_all (λ k. ltb m k) ns ≡ true) × (rises ns ≡ true) = and_parts _ _ f in
    let q : (ltb m n ≡ true) × (list_all (λ k. ltb k n) ns ≡ true) = and_parts _ _ a in
    and_from _ _ (list_all-append (λ (k : ℕ). ltb m k) ns (n ∷ []) ∙ and_from _ _ p.0 (and_from _ _ q.0 refl)) (rises-push ns n p.1 q.1)

rises-reverse : (ns : List ℕ) → falls ns ≡ true → rises (reverse ns) ≡ true
rises-reverse [] e = refl
rises-reverse (n ∷ ns) e =
    let a : (list_all (λ m. ltb m n) ns ≡ true) × (falls ns ≡ true) = and_parts _ _ e in
    ap rises (reverse-append (n ∷ []) ns) ∙ rises-push (reverse ns) n (rises-reverse ns a.1) (all-reverse (λ m. ltb m n) ns a.0)

increasing : (ns : List ℕ) → rises ns ≡ true → IsStrictlyIncreasing ns
increasing [] e k h = absurd (omega arith)
increasing (n ∷ []) e k h = absurd (omega arith)
increasing (n ∷ m ∷ ns) e zero h =
    let a : ((ltb n m && list_all (λ j. ltb n j) ns) ≡ true) × (rises (m ∷ ns) ≡ true) = and_parts _ _ e in
    ltb-true _ _ (and_parts (ltb n m) (list_all (λ j. ltb n j) ns) a.0).0
increasing (n ∷ m ∷ ns) e (suc k) h =
    let i : suc k + 1 ≡ suc (k + 1) = omega arith in
    let r : get_or (m ∷ ns) k 0 < get_or (m ∷ ns) (k + 1) 0 = increasing (m ∷ ns) (and_parts (list_all (λ j. ltb n j) (m ∷ ns)) (rises (m ∷ ns)) e).1 k (omega arith) in
    subst (λ (j : ℕ). get_or (m ∷ ns) k 0 < get_or (n ∷ m ∷ ns) j 0) (sym i) r

any-reverse : (p : ℕ → Bool) (ns : List ℕ) → list_any p ns ≡ true → list_any p (reverse ns) ≡ true
any-reverse p [] e = e
any-reverse p (n ∷ ns) e =
    ap (list_any p) (reverse-append (n ∷ []) ns)
    ∙ (list_any-append p (reverse ns) (n ∷ [])
    ∙ ⊎_elim (λ (a : p n ≡ true). or_right _ _ (or_left _ _ a)) (λ (a : list_any p ns ≡ true). or_left _ _ (any-reverse p ns a)) (or_cases _ _ e))

-- a list of as many numbers replaces all
pub refilled : (ns ms : List ℕ) → length ms ≡ length ns → refill (length ns) ns ms ≡ ms
refilled ns ms e =
    let a : drop (length ms) ns ≡ [] = drop_all (length ms) ns (omega arith) in
    ap (λ (z : List ℕ). take (length ns) (ms ++ z)) a ∙ (ap (take (length ns)) (append-nil ms) ∙ take_all (length ns) ms (omega arith))

-- the levels at the end of the walk, turned round
pub decisions_end : (held : List Held) (trail : Assignment) (l : InLit) (marks : Marking) (levels rising : List ℕ) → AtDecisions held trail l marks 0 levels → rising ≡ reverse levels → IsFinalSet held trail.steps l rising
decisions_end held trail l marks levels rising a e = subst (λ (z : List ℕ). IsFinalSet held trail.steps l z) (sym e) (record {
  rising = increasing (reverse levels) (rises-reverse levels a.falling);
  decisions = all-reverse (has_decision trail.steps) levels a.decisions;
  derived = λ w v d. false_from_ne_true _ (λ (t : lit_value w l ≡ true).
      let f : decisions_value w (is_named levels) trail.steps ≡ true =
      all_mono (λ (q : Step). not (decided q.reason && is_named (reverse levels) q.level) || lit_value w q.lit) (λ (q : Step). not (decided q.reason && is_named levels q.level) || lit_value w q.lit)
      (λ q c. fewer (decided q.reason) (is_named levels q.level) (is_named (reverse levels) q.level) (lit_value w q.lit) (any-reverse (λ n. eqb n q.level) levels) c) trail.steps d in
      false≢true (subst (λ (z : List Step). denied (is_marked marks) w z ≡ true) (rest_none trail.steps) (a.denies w v f t)));
})
