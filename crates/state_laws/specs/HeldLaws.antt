-- Stored clauses that are added and dropped.
use Rattle.std.proofs.Common.{◌≡◌, ℕ, ◌<◌, ◌≤◌, ◌==◌, Bool, true, false, cond, not, ltb, leb, ◌||◌, List, [], ◌∷◌, ◌++◌, refl, sym, ap, ap₂, subst, ◌∙◌, arith, filter, map, Option, Some, None, is_some, ltb-true, eqb-true, eq-eqb, ne_eqb, append-nil, append_assoc}
use Rattle.std.proofs.lemmas.Bool.{and_parts, and_from, or_right, false≢true}
use Rattle.std.proofs.lemmas.List.{map-append}
use Rattle.std.proofs.lemmas.List.Folds.{list_any-append}
use Rattle.std.proofs.lemmas.List.Elements.{filter-append}
use Rattle.std.specs.List.{list_all}
use Rattle.sat_lits.specs.ListLaws.{all_mono, all_push, filter_all}
use Rattle.sat_lits.specs.declared.literal.ClauseId.{ClauseId}
use Rattle.clause_store.specs.Store.{Store, Held, IsKept, held_as, clause_at, is_live, without, rising, marked}
use Rattle.state_laws.specs.Held.{InClause, strip, numbers, has_id_among, Adds, ExtendsBy}

-- where no element passes, the filter leaves nothing
pub filter_none : {X : Type 0} (p : X → Bool) (xs : List X) → list_all (λ x. not (p x)) xs ≡ true → filter p xs ≡ []
filter_none p [] e = refl
filter_none p (x ∷ xs) e =
    let a : (not (p x) ≡ true) × (list_all (λ y. not (p y)) xs ≡ true) = and_parts _ _ e in
    go (p x) a.0 (filter_none p xs a.1)
  where
    go : (b : Bool) → not b ≡ true → filter p xs ≡ [] → cond b (x ∷ filter p xs) (filter p xs) ≡ []
    go true n r = absurd (false≢true n)
    go false n r = r

-- filters that agree at the elements that pass a test leave the same where all pass it
pub filter_agree : {X : Type 0} (q f g : X → Bool) → ((x : X) → q x ≡ true → f x ≡ g x) → (xs : List X) → list_all q xs ≡ true → filter f xs ≡ filter g xs
filter_agree q f g h [] e = refl
filter_agree q f g h (x ∷ xs) e =
    let p : (q x ≡ true) × (list_all q xs ≡ true) = and_parts _ _ e in
    ap₂ (λ b z. cond b (x ∷ z) z) (h x p.0) (filter_agree q f g h xs p.1)

-- a live id is that of a clause
pub found : (o : Option Held) → is_some o ≡ true → (h : Held) × (o ≡ Some h)
found None e = absurd (false≢true e)
found (Some h) e = (h, refl)

some_held : (x y : Held) → Some x ≡ Some y → x ≡ y
some_held x y q = cc

-- the clause of an id has it
pub id_found : (hs : List Held) (i : ℕ) (h : Held) → clause_at hs i ≡ Some h → h.id ≡ i
id_found [] i h e = cc
id_found (k ∷ hs) i h e = go (k.id == i) refl (id_found hs i h) e
  where
    go : (b : Bool) → (k.id == i) ≡ b → (clause_at hs i ≡ Some h → h.id ≡ i) → cond b (Some k) (clause_at hs i) ≡ Some h → h.id ≡ i
    go true f r q = ap (λ (z : Held). z.id) (sym (some_held k h q)) ∙ eqb-true _ _ f
    go false f r q = r q

-- it passes what all clauses pass
pub all_found : (p : Held → Bool) (hs : List Held) (i : ℕ) (h : Held) → clause_at hs i ≡ Some h → list_all p hs ≡ true → p h ≡ true
all_found p [] i h e a = cc
all_found p (k ∷ hs) i h e a = go (k.id == i) (all_found p hs i h) e
  where
    q : (p k ≡ true) × (list_all p hs ≡ true)
    q = and_parts _ _ a

    go : (b : Bool) → (clause_at hs i ≡ Some h → list_all p hs ≡ true → p h ≡ true) → cond b (Some k) (clause_at hs i) ≡ Some h → p h ≡ true
    go true r e = ap p (sym (some_held k h e)) ∙ q.0
    go false r e = r e q.1

-- a store without no ids is the same
pub without_none : (hs : List Held) → filter (λ h. not (has_id_among [] h)) hs ≡ hs
without_none [] = refl
without_none (h ∷ hs) = ap (λ z. h ∷ z) (without_none hs)

-- ids may be dropped one after another
pub without_more : (ids : List ℕ) (i : ℕ) (hs : List Held) → filter (λ h. not (has_id_among (ids ++ i ∷ []) h)) hs ≡ without i (filter (λ h. not (has_id_among ids h)) hs)
without_more ids i [] = refl
without_more ids i (h ∷ hs) = go (has_id_among ids h) (h.id == i) refl (list_any-append (λ (n : ℕ). h.id == n) ids (i ∷ [])) (without_more ids i hs)
  where
    go : (a b : Bool) → (h.id == i) ≡ b → has_id_among (ids ++ i ∷ []) h ≡ (a || ((h.id == i) || false)) → filter (λ k. not (has_id_among (ids ++ i ∷ []) k)) hs ≡ filter (λ k. not (k.id == i)) (filter (λ k. not (has_id_among ids k)) hs)
        → cond (not (has_id_among (ids ++ i ∷ []) h)) (h ∷ filter (λ k. not (has_id_among (ids ++ i ∷ []) k)) hs) (filter (λ k. not (has_id_among (ids ++ i ∷ []) k)) hs)
        ≡ filter (λ k. not (k.id == i)) (cond (not a) (h ∷ filter (λ k. not (has_id_among ids k)) hs) (filter (λ k. not (has_id_among ids k)) hs))
    go true b f e r = rw e r
    go false true f e r = rw (e, f) r
    go false false f e r = rw (e, f) (ap (λ z. h ∷ z) r)

-- an id that is not live is that of no clause
pub not_live : (hs : List Held) (i : ℕ) → is_live hs i ≡ false → without i hs ≡ hs
not_live [] i e = refl
not_live (h ∷ hs) i e = go (h.id == i) (not_live hs i) e
  where
    go : (b : Bool) → (is_live hs i ≡ false → without i hs ≡ hs) → is_some (cond b (Some h) (clause_at hs i)) ≡ false → cond (not b) (h ∷ without i hs) (without i hs) ≡ h ∷ hs
    go true r e = absurd (false≢true (sym e))
    go false r e = ap (λ z. h ∷ z) (r e)

below_none : (h : Held) (hs : List Held) (p : Held → Bool) → list_all (λ k. ltb h.id k.id) hs ≡ true → has_id_among (map (λ k. k.id) (filter p hs)) h ≡ false
below_none h [] p e = refl
below_none h (k ∷ hs) p e =
    let a : (ltb h.id k.id ≡ true) × (list_all (λ j. ltb h.id j.id) hs ≡ true) = and_parts _ _ e in
    go (p k) (ne_eqb h.id k.id (λ z. absurd (let l : h.id < k.id = ltb-true _ _ a.0 in omega arith))) (below_none h hs p a.1)
  where
    go : (b : Bool) → (h.id == k.id) ≡ false → has_id_among (map (λ j. j.id) (filter p hs)) h ≡ false → has_id_among (map (λ j. j.id) (cond b (k ∷ filter p hs) (filter p hs))) h ≡ false
    go true n r = rw n r
    go false n r = r

-- where ids rise, dropping the ids of the clauses that pass a test drops those clauses alone
pub drop_those : (p : Held → Bool) (hs : List Held) → rising hs ≡ true → filter (λ h. not (has_id_among (map (λ k. k.id) (filter p hs)) h)) hs ≡ filter (λ h. not (p h)) hs
drop_those p [] e = refl
drop_those p (h ∷ hs) e =
    let a : (list_all (λ k. ltb h.id k.id) hs ≡ true) × (rising hs ≡ true) = and_parts _ _ e in
    go (p h) a.0 (below_none h hs p a.0) (drop_those p hs a.1)
  where
    skip : list_all (λ k. ltb h.id k.id) hs ≡ true → filter (λ k. not (has_id_among (h.id ∷ map (λ j. j.id) (filter p hs)) k)) hs ≡ filter (λ k. not (has_id_among (map (λ j. j.id) (filter p hs)) k)) hs
    skip l =
        filter_agree (λ k. ltb h.id k.id) (λ k. not (has_id_among (h.id ∷ map (λ j. j.id) (filter p hs)) k)) (λ k. not (has_id_among (map (λ j. j.id) (filter p hs)) k))
        (λ k q. ap (λ b. not (b || has_id_among (map (λ j. j.id) (filter p hs)) k)) (ne_eqb k.id h.id (λ z. absurd (let l : h.id < k.id = ltb-true _ _ q in omega arith)))) hs l

    go : (b : Bool) → list_all (λ k. ltb h.id k.id) hs ≡ true → has_id_among (map (λ k. k.id) (filter p hs)) h ≡ false → filter (λ k. not (has_id_among (map (λ j. j.id) (filter p hs)) k)) hs ≡ filter (λ k. not (p k)) hs
        → filter (λ k. not (has_id_among (map (λ j. j.id) (cond b (h ∷ filter p hs) (filter p hs))) k)) (h ∷ hs) ≡ cond (not b) (h ∷ filter (λ k. not (p k)) hs) (filter (λ k. not (p k)) hs)
    go true l n r = rw (eq-eqb h.id h.id refl) (skip l ∙ r)
    go false l n r = rw n (ap (λ z. h ∷ z) r)

-- and keeps clauses of new ids
pub keep_news : (g : ℕ) (p : Held → Bool) (hs news : List Held) → list_all (λ h. ltb h.id g) hs ≡ true → list_all (λ h. leb g h.id) news ≡ true → filter (λ h. not (has_id_among (map (λ k. k.id) (filter p hs)) h)) news ≡ news
keep_news g p hs news l e = filter_all (λ h. not (has_id_among (map (λ k. k.id) (filter p hs)) h)) news (each news e)
  where
    apart : (n : Held) (hs : List Held) → leb g n.id ≡ true → list_all (λ h. ltb h.id g) hs ≡ true → has_id_among (map (λ k. k.id) (filter p hs)) n ≡ false
    apart n [] a l = refl
    apart n (h ∷ hs) a l =
        let q : (ltb h.id g ≡ true) × (list_all (λ k. ltb k.id g) hs ≡ true) = and_parts _ _ l in
        go (p h) (ne_eqb n.id h.id (λ z. clash n.id h.id g a q.0 z)) (apart n hs a q.1)
      where
        clash : (x y g : ℕ) → leb g x ≡ true → ltb y g ≡ true → x ≡ y → ⊥
        clash x y g l m z = absurd (grind arith)

        go : (b : Bool) → (n.id == h.id) ≡ false → has_id_among (map (λ j. j.id) (filter p hs)) n ≡ false → has_id_among (map (λ j. j.id) (cond b (h ∷ filter p hs) (filter p hs))) n ≡ false
        go true z r = rw z r
        go false z r = r

    each : (ns : List Held) → list_all (λ h. leb g h.id) ns ≡ true → list_all (λ h. not (has_id_among (map (λ k. k.id) (filter p hs)) h)) ns ≡ true
    each [] e = refl
    each (n ∷ ns) e =
        let q : (leb g n.id ≡ true) × (list_all (λ k. leb g k.id) ns ≡ true) = and_parts _ _ e in
        and_from _ _ (ap not (apart n hs q.0 l)) (each ns q.1)

le_leb : (x y : ℕ) → x ≤ y → leb x y ≡ true
le_leb x y l = grind arith

-- no clause was added yet
pub adds_none : (s : Store) → Adds s s [] []
adds_none s = record { news = []; held = sym (append-nil s.held); numbered = refl; contents = refl; fresh = refl; given = omega arith; mark = refl; marked = refl }

-- one clause more is added
pub adds_more : (s t u : Store) (ids ids2 : List ClauseId) (cs cs2 : List InClause) (id : ClauseId) (c : InClause) → t.given ≤ id.0 → id.0 < u.given → u.held ≡ t.held ++ held_as id.0 c.learned c.lits ∷ [] → u.mark ≡ t.mark → marked u ≡ marked t
    → ids2 ≡ ids ++ id ∷ [] → cs2 ≡ cs ++ c ∷ [] → Adds s t ids cs → Adds s u ids2 cs2
adds_more s t u ids ids2 cs cs2 id c l m h x y e f a =
    record {
      news = a.news ++ held_as id.0 c.learned c.lits ∷ [];
      held = h ∙ (ap (λ z. z ++ held_as id.0 c.learned c.lits ∷ []) a.held ∙ append_assoc s.held a.news (held_as id.0 c.learned c.lits ∷ []));
      numbered = map-append (λ (h : Held). h.id) a.news (held_as id.0 c.learned c.lits ∷ []) ∙ (ap (λ z. z ++ id.0 ∷ []) a.numbered ∙ (sym (map-append (λ (i : ClauseId). i.0) ids (id ∷ [])) ∙ ap numbers (sym e)));
      contents = map-append strip a.news (held_as id.0 c.learned c.lits ∷ []) ∙ (ap (λ z. z ++ c ∷ []) a.contents ∙ sym f);
      fresh = all_push (λ (h : Held). leb s.given h.id) a.news (held_as id.0 c.learned c.lits) a.fresh (le_leb s.given id.0 (omega (arith, a.given, l)));
      given = omega (arith, a.given, l, m);
      mark = x ∙ a.mark;
      marked = y ∙ a.marked;
    }

-- what was added extends the store
pub Adds-ExtendsBy : (s t : Store) (ids : List ClauseId) (cs : List InClause) → Adds s t ids cs → ExtendsBy s t cs
Adds-ExtendsBy s t ids cs a = record { news = a.news; held = a.held; contents = a.contents; fresh = a.fresh; mark = a.mark; marked = a.marked }

-- the old clauses are left where the new ones are dropped again
pub rolled_back : (s t : Store) (ids : List ClauseId) (cs : List InClause) → IsKept s → Adds s t ids cs → filter (λ h. not (has_id_among (numbers ids) h)) t.held ≡ s.held
rolled_back s t ids cs n a =
    ap (filter (λ (h : Held). not (has_id_among (numbers ids) h))) a.held
    ∙ (filter-append (λ (h : Held). not (has_id_among (numbers ids) h)) s.held a.news
    ∙ (ap₂ {C = List Held} ◌++◌ (filter_all (λ (h : Held). not (has_id_among (numbers ids) h)) s.held old) (filter_none (λ (h : Held). not (has_id_among (numbers ids) h)) a.news new) ∙ append-nil s.held))
  where
    above : (hs : List Held) (g : ℕ) → list_all (λ h. leb g h.id) hs ≡ true → list_all (λ (i : ℕ). leb g i) (map (λ h. h.id) hs) ≡ true
    above [] g e = refl
    above (h ∷ hs) g e = let p : (leb g h.id ≡ true) × (list_all (λ (k : Held). leb g k.id) hs ≡ true) = and_parts _ _ e in and_from _ _ p.0 (above hs g p.1)

    apart : (ns : List ℕ) (h : Held) → ltb h.id s.given ≡ true → list_all (λ (i : ℕ). leb s.given i) ns ≡ true → has_id_among ns h ≡ false
    apart [] h l e = refl
    apart (i ∷ ns) h l e =
        let p : (leb s.given i ≡ true) × (list_all (λ (k : ℕ). leb s.given k) ns ≡ true) = and_parts _ _ e in
        rw (ne_eqb h.id i (λ z. below h.id i s.given l p.0 z)) (apart ns h l p.1)
      where
        below : (x y g : ℕ) → ltb x g ≡ true → leb g y ≡ true → x ≡ y → ⊥
        below x y g l m z = absurd (grind arith)

    olds : (hs : List Held) → list_all (λ h. ltb h.id s.given) hs ≡ true → list_all (λ h. not (has_id_among (numbers ids) h)) hs ≡ true
    olds [] e = refl
    olds (h ∷ hs) e =
        let p : (ltb h.id s.given ≡ true) × (list_all (λ (k : Held). ltb k.id s.given) hs ≡ true) = and_parts _ _ e in
        and_from _ _ (ap not (apart (numbers ids) h p.0 (subst (λ (ns : List ℕ). list_all (λ (i : ℕ). leb s.given i) ns ≡ true) a.numbered (above a.news s.given a.fresh)))) (olds hs p.1)

    old : list_all (λ h. not (has_id_among (numbers ids) h)) s.held ≡ true
    old = olds s.held n.below

    selves : (hs : List Held) → list_all (has_id_among (map (λ h. h.id) hs)) hs ≡ true
    selves [] = refl
    selves (h ∷ hs) =
        and_from _ _ (ap (λ b. b || has_id_among (map (λ k. k.id) hs) h) (eq-eqb h.id h.id refl))
        (all_mono (has_id_among (map (λ k. k.id) hs)) (has_id_among (h.id ∷ map (λ k. k.id) hs)) (λ k q. or_right (k.id == h.id) (has_id_among (map (λ j. j.id) hs) k) q) hs (selves hs))

    new : list_all (λ h. not (not (has_id_among (numbers ids) h))) a.news ≡ true
    new = all_mono (has_id_among (numbers ids)) (λ h. not (not (has_id_among (numbers ids) h))) (λ k q. ap (λ b. not (not b)) q) a.news (subst (λ (ns : List ℕ). list_all (has_id_among ns) a.news ≡ true) a.numbered (selves a.news))
