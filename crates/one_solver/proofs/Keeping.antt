-- The oldest long learned clauses are dropped, one after another.
use Rattle.std.proofs.Common.{◌≡◌, ℕ, zero, suc, ◌&&◌, ◌+◌, ◌<◌, ◌≤◌, ◌==◌, Bool, true, false, cond, not, ltb, List, [], ◌∷◌, Some, refl, sym, ap, subst, ◌∙◌, arith, length, filter, drop, map, take, min, get_or, ◌++◌, ◌-◌, Option, option_map, option_to_list, unwrap_or, ltb-true, eqb-true, ne_eqb, eq-eqb, add-one, length-drop}
use Rattle.std.proofs.Math.Seq.{drop-cons}
use Rattle.std.proofs.lemmas.Bool.{and_parts, and_from}
use Rattle.std.proofs.lemmas.List.{get_or-map, get_or-take, get_or_default, map-append, length-map, length-take, append-nil}
use Rattle.std.proofs.lemmas.List.Elements.{filter-append}
use Rattle.std.specs.List.{list_all}
use Rattle.sat_lits.specs.InLits.{is_distinct}
use Rattle.sat_lits.specs.ListLaws.{all_mono, all_filter, filter_all}
use Rattle.sat_lits.specs.declared.literal.ClauseId.{ClauseId}
use Rattle.sat_lits.specs.declared.literal.InLit.{InLit}
use Rattle.clause_store.specs.Store.{Store, Held, IsKept, clause_at, is_live, before, without, contents, rising}
use Rattle.state_laws.specs.Kernel.{Kernel, IsLearnedId}
use Rattle.state_laws.specs.KernelLearnLaws.{dropped}
use Rattle.one_solver.specs.Learned.{is_long, is_long_at, HasForgotten, KeepsNewest}
use Rattle.one_solver.proofs.Walking.{live_clause}
use Rattle.one_solver.proofs.Forgetting.{forgot_one, forgot_none, forgot_more}

-- the id of an earlier clause is no later one's
later_ids : (id : ℕ) (held : List Held) → list_all (λ k. ltb id k.id) held ≡ true → list_all (λ k. not (k.id == id)) held ≡ true
later_ids id held a = all_mono (λ (k : Held). ltb id k.id) (λ k. not (k.id == id)) (λ k e. let l : id < k.id = ltb-true id k.id e in ap not (ne_eqb k.id id (λ same. omega arith))) held a

-- ids rise where some clauses are left out
rising_filter : (q : Held → Bool) (held : List Held) → rising held ≡ true → rising (filter q held) ≡ true
rising_filter q [] e = refl
rising_filter q (x ∷ xs) e =
    let a : (list_all (λ k. ltb x.id k.id) xs ≡ true) × (rising xs ≡ true) = and_parts _ _ e in
    go (q x) (and_from _ _ (all_filter (λ (k : Held). ltb x.id k.id) q (λ k. ltb x.id k.id) (λ k f g. f) xs a.0) (rising_filter q xs a.1)) (rising_filter q xs a.1)
  where
    go : (b : Bool) → rising (x ∷ filter q xs) ≡ true → rising (filter q xs) ≡ true → rising (cond b (x ∷ filter q xs) (filter q xs)) ≡ true
    go true f g = f
    go false f g = g

-- the first clause that passes a test is found by its id, and what is left without it
record IsFirst (p : Held → Bool) (h : Held) (rest held : List Held) : Type 0 where
  pub found : clause_at held h.id ≡ Some h
  pub passes : p h ≡ true
  pub left : filter p (without h.id held) ≡ rest
  pub others : filter (λ k. not (p k)) (without h.id held) ≡ filter (λ k. not (p k)) held

first_is : (p : Held → Bool) (h : Held) (rest held : List Held) → rising held ≡ true → filter p held ≡ h ∷ rest → IsFirst p h rest held
first_is p h rest [] r e = absurd cc
first_is p h rest (x ∷ xs) r e =
    let a : (list_all (λ k. ltb x.id k.id) xs ≡ true) × (rising xs ≡ true) = and_parts _ _ r in
    go (p x) refl a.0 (λ f. first_is p h rest xs a.1 f) e
  where
    -- the first clause of all
    here : p x ≡ true → list_all (λ k. ltb x.id k.id) xs ≡ true → x ≡ h → filter p xs ≡ rest → IsFirst p h rest (x ∷ xs)
    here t a same f =
        subst (λ (k : Held). IsFirst p k rest (x ∷ xs)) same
        (let itself : (x.id == x.id) ≡ true = eq-eqb x.id x.id refl in
        let left : without x.id (x ∷ xs) ≡ xs = ap (λ b. cond (not b) (x ∷ without x.id xs) (without x.id xs)) itself ∙ filter_all (λ k. not (k.id == x.id)) xs (later_ids x.id xs a) in
        record {
          found = ap (λ b. cond b (Some x) (clause_at xs x.id)) itself;
          passes = t;
          left = ap (filter p) left ∙ f;
          others = ap (filter (λ k. not (p k))) left ∙ sym (ap (λ b. cond (not b) (x ∷ filter (λ k. not (p k)) xs) (filter (λ k. not (p k)) xs)) t);
        })

    -- a later one
    there : p x ≡ false → list_all (λ k. ltb x.id k.id) xs ≡ true → filter p xs ≡ h ∷ rest → IsFirst p h rest xs → IsFirst p h rest (x ∷ xs)
    there t a f i =
        let above : list_all (λ k. ltb x.id k.id) (h ∷ rest) ≡ true = subst (λ (ks : List Held). list_all (λ k. ltb x.id k.id) ks ≡ true) f (all_filter (λ (k : Held). ltb x.id k.id) p (λ k. ltb x.id k.id) (λ k u v. u) xs a) in
        let l : x.id < h.id = ltb-true x.id h.id (and_parts _ _ above).0 in
        let other : (x.id == h.id) ≡ false = ne_eqb x.id h.id (λ same. omega arith) in
        let left : without h.id (x ∷ xs) ≡ x ∷ without h.id xs = ap (λ b. cond (not b) (x ∷ without h.id xs) (without h.id xs)) other in
        record {
          found = ap (λ b. cond b (Some x) (clause_at xs h.id)) other ∙ i.found;
          passes = i.passes;
          left = ap (filter p) left ∙ (ap (λ b. cond b (x ∷ filter p (without h.id xs)) (filter p (without h.id xs))) t ∙ i.left);
          others =
              ap (filter (λ k. not (p k))) left
              ∙ (ap (λ b. cond (not b) (x ∷ filter (λ k. not (p k)) (without h.id xs)) (filter (λ k. not (p k)) (without h.id xs))) t
              ∙ (ap (λ ks. x ∷ ks) i.others
              ∙ sym (ap (λ b. cond (not b) (x ∷ filter (λ k. not (p k)) xs) (filter (λ k. not (p k)) xs)) t)));
        }

    go : (b : Bool) → p x ≡ b → list_all (λ k. ltb x.id k.id) xs ≡ true → (filter p xs ≡ h ∷ rest → IsFirst p h rest xs) → cond b (x ∷ filter p xs) (filter p xs) ≡ h ∷ rest → IsFirst p h rest (x ∷ xs)
    go true t a r f = here t a (let same : x ≡ h = cc in same) (let same : filter p xs ≡ rest = cc in same)
    go false t a r f = there t a f (r f)

-- a store keeps what it keeps without a clause
kept_without : (id : ℕ) (s : Store) → IsKept s → IsKept (record s { held = without id s.held })
kept_without id s k =
    record {
      below = all_filter (λ (h : Held). ltb h.id s.given) (λ h. not (h.id == id)) (λ h. ltb h.id s.given) (λ h e f. e) s.held k.below;
      few = k.few;
      marked = k.marked;
      rises = rising_filter (λ h. not (h.id == id)) s.held k.rises;
      distinct = all_filter (λ (h : Held). is_distinct h.lits) (λ h. not (h.id == id)) (λ h. is_distinct h.lits) (λ h e f. e) s.held k.distinct;
    }

-- so many of the oldest long learned clauses were dropped, and nothing else was
pub record AtForgetting (first now : Kernel) (dropped : ℕ) : Type 0 where
  pub forgotten : HasForgotten first now
  pub kept : IsKept now.store
  pub long : filter is_long now.store.held ≡ drop dropped (filter is_long first.store.held)
  pub others : filter (λ k. not (is_long k)) now.store.held ≡ filter (λ k. not (is_long k)) first.store.held

-- at first none
pub forgetting_first : (k : Kernel) → IsKept k.store → AtForgetting k k 0
forgetting_first k s = record { forgotten = forgot_none k; kept = s; long = refl; others = refl }

-- the next one is found
next_first : (first now : Kernel) (i : ℕ) (h : Held) → AtForgetting first now i → i < length (filter is_long first.store.held) → h ≡ get_or (filter is_long first.store.held) i h
    → IsFirst is_long h (drop (i + 1) (filter is_long first.store.held)) now.store.held
next_first first now i h a l e =
    let next : drop i (filter is_long first.store.held) ≡ get_or (filter is_long first.store.held) i h ∷ drop (suc i) (filter is_long first.store.held) = drop-cons (filter is_long first.store.held) i h l in
    let here : drop i (filter is_long first.store.held) ≡ h ∷ drop (i + 1) (filter is_long first.store.held) = rw add-one (next ∙ ap (λ k. k ∷ drop (suc i) (filter is_long first.store.held)) (sym e)) in
    first_is is_long h (drop (i + 1) (filter is_long first.store.held)) now.store.held a.kept.rises (a.long ∙ here)

-- and it is a learned one
forgetting_learned : (first now : Kernel) (i : ℕ) (h : Held) → AtForgetting first now i → i < length (filter is_long first.store.held) → h ≡ get_or (filter is_long first.store.held) i h → IsLearnedId now h.id
forgetting_learned first now i h a l e =
    let f : IsFirst is_long h (drop (i + 1) (filter is_long first.store.held)) now.store.held = next_first first now i h a l e in
    ap (option_map (λ (k : Held). k.learned)) f.found ∙ ap Some (and_parts _ _ f.passes).0

-- it is dropped
forgetting_more : (first now next : Kernel) (i : ℕ) (h : Held) → AtForgetting first now i → i < length (filter is_long first.store.held) → h ≡ get_or (filter is_long first.store.held) i h → next ≡ dropped h.id now
    → AtForgetting first next (i + 1)
forgetting_more first now next i h a l e n =
    let f : IsFirst is_long h (drop (i + 1) (filter is_long first.store.held)) now.store.held = next_first first now i h a l e in
    let store : next.store ≡ record now.store { held = without h.id now.store.held } = ap (λ (k : Kernel). k.store) n in
    record {
      forgotten = forgot_more first now next a.forgotten (forgot_one now next h.id (forgetting_learned first now i h a l e) a.kept n);
      kept = subst IsKept (sym store) (kept_without h.id now.store a.kept);
      long = ap (λ (s : Store). filter is_long s.held) store ∙ f.left;
      others = ap (λ (s : Store). filter (λ k. not (is_long k)) s.held) store ∙ (f.others ∙ a.others);
    }

-- a clause that is found by an id has it
found_id : (held : List Held) (id : ℕ) (h : Held) → clause_at held id ≡ Some h → h.id ≡ id
found_id [] id h e = absurd cc
found_id (x ∷ xs) id h e = go (x.id == id) refl e (found_id xs id h)
  where
    go : (b : Bool) → (x.id == id) ≡ b → cond b (Some x) (clause_at xs id) ≡ Some h → (clause_at xs id ≡ Some h → h.id ≡ id) → h.id ≡ id
    go true t f r = let same : x ≡ h = cc in ap (λ (k : Held). k.id) (sym same) ∙ eqb-true x.id id t
    go false t f r = r f

-- a walk that keeps the ids of the long learned clauses takes one step more
pub walk_long : (held : List Held) (at : Option ClauseId) (id : ClauseId) (next : Option ClauseId) (ids new : List ClauseId) (long : Bool) → at ≡ Some id → is_live held id.0 ≡ true
    → before held next ≡ before held (Some id) ++ option_to_list (clause_at held id.0) → long ≡ is_long_at held id.0
    → map (λ i. i.0) ids ≡ map (λ h. h.id) (filter is_long (before held at)) → new ≡ cond long (ids ++ id ∷ []) ids → map (λ i. i.0) new ≡ map (λ h. h.id) (filter is_long (before held next))
walk_long held at id next ids new long e live step is so_far made =
    let (h, f) = live_clause held id.0 live in
    let same : long ≡ is_long h = is ∙ ap (λ (o : Option Held). unwrap_or (option_map is_long o) false) f in
    let old : map (λ (i : ClauseId). i.0) ids ≡ map (λ (k : Held). k.id) (filter is_long (before held (Some id))) = so_far ∙ ap (λ (o : Option ClauseId). map (λ (k : Held). k.id) (filter is_long (before held o))) e in
    let one : before held next ≡ before held (Some id) ++ h ∷ [] = step ∙ ap (λ (o : Option Held). before held (Some id) ++ option_to_list o) f in
    let parts : map (λ (k : Held). k.id) (filter is_long (before held next)) ≡ map (λ (k : Held). k.id) (filter is_long (before held (Some id))) ++ map (λ (k : Held). k.id) (filter is_long (h ∷ [])) =
    ap (λ (hs : List Held). map (λ (k : Held). k.id) (filter is_long hs)) one
    ∙ (ap (map (λ (k : Held). k.id)) (filter-append is_long (before held (Some id)) (h ∷ [])) ∙ map-append (λ (k : Held). k.id) (filter is_long (before held (Some id))) (filter is_long (h ∷ []))) in
    last h (found_id held id.0 h f) old parts (is_long h) refl (made ∙ ap (λ (b : Bool). cond b (ids ++ id ∷ []) ids) same)
  where
    last : (h : Held) → h.id ≡ id.0 → map (λ i. i.0) ids ≡ map (λ k. k.id) (filter is_long (before held (Some id)))
        → map (λ k. k.id) (filter is_long (before held next)) ≡ map (λ k. k.id) (filter is_long (before held (Some id))) ++ map (λ k. k.id) (filter is_long (h ∷ []))
        → (b : Bool) → is_long h ≡ b → new ≡ cond b (ids ++ id ∷ []) ids → map (λ i. i.0) new ≡ map (λ k. k.id) (filter is_long (before held next))
    last h n old parts true t m =
        ap (map (λ (i : ClauseId). i.0)) m
        ∙ (map-append (λ (i : ClauseId). i.0) ids (id ∷ [])
        ∙ (ap (λ (ns : List ℕ). ns ++ id.0 ∷ []) old
        ∙ (ap (λ (n : ℕ). map (λ (k : Held). k.id) (filter is_long (before held (Some id))) ++ n ∷ []) (sym n)
        ∙ sym (parts ∙ ap (λ (b : Bool). map (λ (k : Held). k.id) (filter is_long (before held (Some id))) ++ map (λ (k : Held). k.id) (cond b (h ∷ []) [])) t))))
    last h n old parts false t m =
        ap (map (λ (i : ClauseId). i.0)) m
        ∙ (old
        ∙ sym (parts ∙ (ap (λ (b : Bool). map (λ (k : Held). k.id) (filter is_long (before held (Some id))) ++ map (λ (k : Held). k.id) (cond b (h ∷ []) [])) t ∙ append-nil (map (λ (k : Held). k.id) (filter is_long (before held (Some id)))))))

-- the id at a place is that of the long learned clause there
record IsPlaced (longs : List Held) (ids : List ClauseId) (n i : ℕ) : Type 0 where
  pub within : i < length longs
  pub id : (get_or (take n ids) i (record { 0 = 0 })).0 ≡ (get_or longs i (record { id = 0; learned = true; lits = [] })).id

placed : (longs : List Held) (ids : List ClauseId) (n i : ℕ) → map (λ k. k.0) ids ≡ map (λ h. h.id) longs → i < length (take n ids) → IsPlaced longs ids n i
placed longs ids n i e l =
    let none : Held = record { id = 0; learned = true; lits = [] } in
    let same : length ids ≡ length longs = sym (length-map ids (λ (k : ClauseId). k.0)) ∙ (ap length e ∙ length-map longs (λ (h : Held). h.id)) in
    let below : i < min n (length ids) = subst (λ (m : ℕ). i < m) (length-take n ids) l in
    let few : i < n = omega arith in
    let within : i < length ids = omega arith in
    let there : i < length longs = omega arith in
    record {
      within = there;
      id =
          ap (λ (k : ClauseId). k.0) (get_or-take n ids i (record { 0 = 0 }) few)
          ∙ (sym (get_or-map (λ (k : ClauseId). k.0) ids i (record { 0 = 0 }) 0 within) ∙ (ap (λ (ns : List ℕ). get_or ns i 0) e ∙ get_or-map (λ (h : Held). h.id) longs i none 0 there));
    }

-- so the next id is that of a learned clause
pub next_learned : (first now : Kernel) (ids : List ClauseId) (n i : ℕ) → map (λ k. k.0) ids ≡ map (λ h. h.id) (filter is_long first.store.held) → AtForgetting first now i → i < length (take n ids)
    → IsLearnedId now (get_or (take n ids) i (record { 0 = 0 })).0
next_learned first now ids n i e a l =
    let none : Held = record { id = 0; learned = true; lits = [] } in
    let p : IsPlaced (filter is_long first.store.held) ids n i = placed (filter is_long first.store.held) ids n i e l in
    let h : Held = get_or (filter is_long first.store.held) i none in
    subst (λ (k : ℕ). IsLearnedId now k) (sym p.id) (forgetting_learned first now i h a p.within (get_or_default (filter is_long first.store.held) i none h p.within))

-- and it is dropped
pub next_dropped : (first now next : Kernel) (ids : List ClauseId) (n i : ℕ) → map (λ k. k.0) ids ≡ map (λ h. h.id) (filter is_long first.store.held) → AtForgetting first now i → i < length (take n ids)
    → next ≡ dropped (get_or (take n ids) i (record { 0 = 0 })).0 now → AtForgetting first next (i + 1)
next_dropped first now next ids n i e a l d =
    let none : Held = record { id = 0; learned = true; lits = [] } in
    let p : IsPlaced (filter is_long first.store.held) ids n i = placed (filter is_long first.store.held) ids n i e l in
    let h : Held = get_or (filter is_long first.store.held) i none in
    forgetting_more first now next i h a p.within (get_or_default (filter is_long first.store.held) i none h p.within) (d ∙ ap (λ (k : ℕ). dropped k now) p.id)

contents-drop : (n : ℕ) (held : List Held) → contents (drop n held) ≡ drop n (contents held)
contents-drop zero held = refl
contents-drop (suc n) [] = refl
contents-drop (suc n) (h ∷ held) = contents-drop n held

-- at the end the newest are left
pub newest_left : (first now : Kernel) (ids : List ClauseId) (keep n i : ℕ) → map (λ k. k.0) ids ≡ map (λ h. h.id) (filter is_long first.store.held) → AtForgetting first now i → n ≡ length ids - keep
    → i ≡ length (take n ids) → KeepsNewest keep first.store.held now.store.held
newest_left first now ids keep n i e a m l =
    let same : length ids ≡ length (filter is_long first.store.held) = sym (length-map ids (λ (k : ClauseId). k.0)) ∙ (ap length e ∙ length-map (filter is_long first.store.held) (λ (h : Held). h.id)) in
    let all : i ≡ length (filter is_long first.store.held) - keep = (let t : i ≡ min n (length ids) = l ∙ length-take n ids in omega arith) in
    record {
      long = ap contents (a.long ∙ ap (λ (k : ℕ). drop k (filter is_long first.store.held)) all) ∙ contents-drop (length (filter is_long first.store.held) - keep) (filter is_long first.store.held);
      others = ap contents a.others;
    }

-- what clauses are, whatever their ids, of those that pass a test of it
contents-filter : (test : Bool × List InLit → Bool) (held : List Held) → contents (filter (λ h. test (h.learned, h.lits)) held) ≡ filter test (contents held)
contents-filter test [] = refl
contents-filter test (h ∷ held) = go (test (h.learned, h.lits)) (contents-filter test held)
  where
    go : (b : Bool) → contents (filter (λ k. test (k.learned, k.lits)) held) ≡ filter test (contents held)
        → contents (cond b (h ∷ filter (λ k. test (k.learned, k.lits)) held) (filter (λ k. test (k.learned, k.lits)) held)) ≡ cond b ((h.learned, h.lits) ∷ filter test (contents held)) (filter test (contents held))
    go true e = ap (λ (z : List (Bool × List InLit)). (h.learned, h.lits) ∷ z) e
    go false e = e

-- whether it is a learned clause of more than two literals
is_long_in : Bool × List InLit → Bool
is_long_in c = c.0 && ltb 2 (length c.1)

long_in : (held news : List Held) → contents news ≡ contents held → contents (filter is_long news) ≡ contents (filter is_long held)
unfolding is_long_in
long_in held news e = contents-filter is_long_in news ∙ (ap (filter is_long_in) e ∙ sym (contents-filter is_long_in held))

others_in : (held news : List Held) → contents news ≡ contents held → contents (filter (λ h. not (is_long h)) news) ≡ contents (filter (λ h. not (is_long h)) held)
unfolding is_long_in
others_in held news e = contents-filter (λ c. not (is_long_in c)) news ∙ (ap (filter (λ c. not (is_long_in c))) e ∙ sym (contents-filter (λ c. not (is_long_in c)) held))

-- so they are where clauses get other ids
pub newest_renumbered : (keep : ℕ) (first now news : List Held) → KeepsNewest keep first now → contents news ≡ contents now → KeepsNewest keep first news
newest_renumbered keep first now news k e = record { long = long_in now news e ∙ k.long; others = others_in now news e ∙ k.others }

-- where the newest are left, there are few
pub few_left : (keep : ℕ) (first now : List Held) → KeepsNewest keep first now → length (filter is_long now) ≤ keep
few_left keep first now k =
    let n : ℕ = length (filter is_long first) in
    let a : length (filter is_long now) ≡ length (drop (n - keep) (contents (filter is_long first))) = sym (length-map (filter is_long now) (λ (h : Held). (h.learned, h.lits))) ∙ ap length k.long in
    let b : length (contents (filter is_long first)) ≡ n = length-map (filter is_long first) (λ (h : Held). (h.learned, h.lits)) in
    omega (arith, a, b, length-drop (n - keep) (contents (filter is_long first)))
