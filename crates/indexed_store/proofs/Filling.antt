-- Lists of ids by variable while the clauses of a store are walked.
use Rattle.std.proofs.Common.{◌≡◌, ℕ, zero, suc, ◌<◌, ◌≤◌, ◌^◌, ◌==◌, Bool, true, false, cond, ltb, List, [], ◌∷◌, ◌++◌, Option, Some, None, refl, sym, ap, ap₂, subst, ◌∙◌, arith, length, map, filter, option_map, option_to_list, vec_len, vec_capacity, eqb-true, eq-eqb, ne_eqb, ltb-true, lt-ltb}
use Rattle.std.proofs.lemmas.Bool.{and_parts, and_from, or_left, or_right}
use Rattle.std.proofs.lemmas.List.{map-append, length-map}
use Rattle.std.proofs.lemmas.List.Elements.{filter-append}
use Rattle.std.specs.List.{list_all, list_any, cons_option}
use Rattle.std.specs.Option.{is_some}
use Rattle.std.specs.Global.{Vec}
use Rattle.sat_lits.specs.declared.literal.ClauseId.{ClauseId}
use Rattle.indexed_store.specs.declared.short_id.ShortId.{ShortId}
use Rattle.sat_lits.specs.declared.literal.InLit.{InLit}
use Rattle.clause_store.specs.Store.{Store, Held, IsKept, clause_at, is_live, before, contents, rising}
use Rattle.indexed_store.specs.Lists.{ids_of, places_of, room_of, has_room, is_in, added, are_below}
use Rattle.indexed_store.specs.Occurrences.{clauses_at, holds, occurrences}

-- the ids of clauses
abbrev pub ids_at : List Held → List ShortId
ids_at held = map (λ h. record { 0 = h.id }) held

-- the lists have the ids of the clauses that were walked, and the places that they had
pub record Filling (held : List Held) (at : Option ClauseId) (olds lists : List (Vec ShortId)) : Type 0 where
  pub ids : (v : ℕ) → ids_of lists v ≡ ids_at (occurrences v (before held at))
  pub places : (v : ℕ) → places_of lists v ≡ places_of olds v

pub fill_none : (held : List Held) (at : Option ClauseId) (lists : List (Vec ShortId)) → before held at ≡ [] → ((v : ℕ) → ids_of lists v ≡ []) → Filling held at lists lists
fill_none held at lists b e = record { ids = λ v. e v ∙ ap (λ hs. ids_at (occurrences v hs)) (sym b); places = λ v. refl }

-- the clause of a live id, by its literals
pub found : (held : List Held) (i : ℕ) (lits : List InLit) → option_map (λ h. h.lits) (clause_at held i) ≡ Some lits → (h : Held) × ((clause_at held i ≡ Some h) × (h.lits ≡ lits))
found held i lits e = go (clause_at held i) refl e
  where
    go : (o : Option Held) → clause_at held i ≡ o → option_map (λ h. h.lits) o ≡ Some lits → (h : Held) × ((clause_at held i ≡ Some h) × (h.lits ≡ lits))
    go None f g = cc
    go (Some h) f g = (h, (f, cc))

found_id : (held : List Held) (i : ℕ) (h : Held) → clause_at held i ≡ Some h → h.id ≡ i
found_id [] i h e = cc
found_id (k ∷ held) i h e = go (k.id == i) refl (found_id held i h) e
  where
    go : (b : Bool) → (k.id == i) ≡ b → (clause_at held i ≡ Some h → h.id ≡ i) → cond b (Some k) (clause_at held i) ≡ Some h → h.id ≡ i
    go true q r f = let s : k ≡ h = cc in sym (ap (λ (z : Held). z.id) s) ∙ eqb-true _ _ q
    go false q r f = r f

-- a live id is above what all ids are above
live_above : (n i : ℕ) (held : List Held) → list_all (λ h. ltb n h.id) held ≡ true → is_live held i ≡ true → n < i
live_above n i [] a l = cc
live_above n i (h ∷ held) a l =
    let p : (ltb n h.id ≡ true) × (list_all (λ k. ltb n k.id) held ≡ true) = and_parts _ _ a in
    go (h.id == i) refl (ltb-true _ _ p.0) (live_above n i held p.1) l
  where
    go : (b : Bool) → (h.id == i) ≡ b → n < h.id → (is_live held i ≡ true → n < i) → is_some (cond b (Some h) (clause_at held i)) ≡ true → n < i
    go true q x r m = let y : h.id ≡ i = eqb-true _ _ q in omega arith
    go false q x r m = r m

-- and below what all ids are below
live_under : (n i : ℕ) (held : List Held) → list_all (λ h. ltb h.id n) held ≡ true → is_live held i ≡ true → i < n
live_under n i [] a l = cc
live_under n i (h ∷ held) a l =
    let p : (ltb h.id n ≡ true) × (list_all (λ k. ltb k.id n) held ≡ true) = and_parts _ _ a in
    go (h.id == i) refl (ltb-true _ _ p.0) (live_under n i held p.1) l
  where
    go : (b : Bool) → (h.id == i) ≡ b → h.id < n → (is_live held i ≡ true → i < n) → is_some (cond b (Some h) (clause_at held i)) ≡ true → i < n
    go true q x r m = let y : h.id ≡ i = eqb-true _ _ q in omega arith
    go false q x r m = r m

-- the clauses before that of a live id have lower ids
before_below : (held : List Held) (id : ClauseId) → rising held ≡ true → is_live held id.0 ≡ true → list_all (λ h. ltb h.id id.0) (before held (Some id)) ≡ true
before_below [] id r l = refl
before_below (h ∷ held) id r l =
    let p : (list_all (λ k. ltb h.id k.id) held ≡ true) × (rising held ≡ true) = and_parts _ _ r in
    go (h.id == id.0) p.0 (before_below held id p.1) l
  where
    go : (b : Bool) → list_all (λ k. ltb h.id k.id) held ≡ true → (is_live held id.0 ≡ true → list_all (λ k. ltb k.id id.0) (before held (Some id)) ≡ true)
        → is_some (cond b (Some h) (clause_at held id.0)) ≡ true → list_all (λ k. ltb k.id id.0) (cond b [] (h ∷ before held (Some id))) ≡ true
    go true p q m = refl
    go false p q m = and_from _ _ (lt-ltb _ _ (live_above h.id id.0 held p m)) (q m)

pub below_ids : (n : ℕ) (p : Held → Bool) (held : List Held) → list_all (λ h. ltb h.id n) held ≡ true → are_below n (ids_at (filter p held)) ≡ true
below_ids n p [] e = refl
below_ids n p (h ∷ held) e =
    let a : (ltb h.id n ≡ true) × (list_all (λ k. ltb k.id n) held ≡ true) = and_parts _ _ e in
    go (p h) a.0 (below_ids n p held a.1)
  where
    go : (b : Bool) → ltb h.id n ≡ true → are_below n (ids_at (filter p held)) ≡ true → are_below n (ids_at (cond b (h ∷ filter p held) (filter p held))) ≡ true
    go true l r = and_from _ _ l r
    go false l r = r

-- a live id fits four bytes
pub live_small : (s : Store) (i : ℕ) → IsKept s → is_live s.held i ≡ true → i < 2 ^ 32
live_small s i k l = let a : i < s.given = live_under s.given i s.held k.below l in omega (arith, k.few)

-- the next id is above those that are there
pub fill_new : (s : Store) (at : Option ClauseId) (id : ClauseId) (short : ShortId) (olds lists : List (Vec ShortId)) → Filling s.held at olds lists → at ≡ Some id → IsKept s → is_live s.held id.0 ≡ true → short.0 ≡ id.0 → (v : ℕ) → are_below short.0 (ids_of lists v) ≡ true
fill_new s at id short olds lists f e k l q v =
    rw q (ap (are_below id.0) (f.ids v ∙ ap (λ o. ids_at (occurrences v (before s.held o))) e)
    ∙ below_ids id.0 (holds v) (before s.held (Some id)) (before_below s.held id k.rises l))

-- the clauses before that of an id are fewer, where it passes the test too
pub fewer : (p : Held → Bool) (held : List Held) (id : ClauseId) (h : Held) → clause_at held id.0 ≡ Some h → p h ≡ true → length (filter p (before held (Some id))) < length (filter p held)
fewer p [] id h e t = cc
fewer p (k ∷ held) id h e t = go (k.id == id.0) (λ f. fewer p held id h f t) e
  where
    more : (b : Bool) (xs ys : List Held) → length xs < length ys → length (cond b (k ∷ xs) xs) < length (cond b (k ∷ ys) ys)
    more true xs ys l = omega arith
    more false xs ys l = l

    go : (b : Bool) → (clause_at held id.0 ≡ Some h → length (filter p (before held (Some id))) < length (filter p held)) → cond b (Some k) (clause_at held id.0) ≡ Some h
        → length (filter p (cond b [] (k ∷ before held (Some id)))) < length (cond (p k) (k ∷ filter p held) (filter p held))
    go true r f = let q : p k ≡ true = (let s : k ≡ h = cc in ap p s ∙ t) in rw q (omega arith)
    go false r f = more (p k) (filter p (before held (Some id))) (filter p held) (r f)

-- what is known of each variable of a clause is known of its literals
each_in : (p : InLit → Bool) (lits : List InLit) → ((l : InLit) → list_any (is_in l.var.0) lits ≡ true → p l ≡ true) → list_all p lits ≡ true
each_in p [] f = refl
each_in p (l ∷ lits) f = and_from _ _ (f l (or_left _ _ (eq-eqb l.var.0 l.var.0 refl))) (each_in p lits (λ k e. f k (or_right _ _ e)))

-- a list that has fewer ids than places has room
room_left : (lists : List (Vec ShortId)) (v n : ℕ) → length (ids_of lists v) < n → n ≤ places_of lists v → 0 < room_of lists v
room_left [] v n l m = omega arith
room_left (w ∷ lists) zero n l m = let e : vec_len w ≡ length w.items = w.ok.0 in omega arith
room_left (w ∷ lists) (suc v) n l m = room_left lists v n l m

-- the clauses before the next one
one_more : (p : Held → Bool) (held : List Held) (id : ClauseId) (next : Option ClauseId) (h : Held) → clause_at held id.0 ≡ Some h → before held next ≡ before held (Some id) ++ option_to_list (clause_at held id.0)
    → filter p (before held next) ≡ filter p (before held (Some id)) ++ cond (p h) (h ∷ []) []
one_more p held id next h e s =
    ap (filter p) (s ∙ ap (λ o. before held (Some id) ++ option_to_list o) e) ∙ filter-append p (before held (Some id)) (h ∷ [])

-- the ids of those that pass a test, with that of the next one
pub more_ids : (p : Held → Bool) (held : List Held) (at : Option ClauseId) (id : ClauseId) (short : ShortId) (next : Option ClauseId) (h : Held) (olds news : List ShortId) → olds ≡ ids_at (filter p (before held at)) → at ≡ Some id
    → clause_at held id.0 ≡ Some h → before held next ≡ before held (Some id) ++ option_to_list (clause_at held id.0) → short.0 ≡ id.0 → news ≡ olds ++ cond (p h) (short ∷ []) [] → news ≡ ids_at (filter p (before held next))
more_ids p held at id short next h olds news f e g n w i =
    i
    ∙ (ap₂ {C = List ShortId} ◌++◌ (f ∙ ap (λ o. ids_at (filter p (before held o))) e) (last (found_id held id.0 h g ∙ sym w) (p h))
    ∙ (sym (map-append (λ (k : Held). let c : ShortId = record { 0 = k.id } in c) (filter p (before held (Some id))) (cond (p h) (h ∷ []) [])) ∙ ap ids_at (sym (one_more p held id next h g n))))
  where
    last : h.id ≡ short.0 → (b : Bool) → cond b (short ∷ []) [] ≡ ids_at (cond b (h ∷ []) [])
    last r true = ap (λ n. let c : ShortId = record { 0 = n } in c ∷ []) (sym r)
    last r false = refl

-- each list of the next clause's variables has room
pub fill_room : (held : List Held) (at : Option ClauseId) (id : ClauseId) (lits : List InLit) (olds lists : List (Vec ShortId)) → Filling held at olds lists → at ≡ Some id
    → option_map (λ h. h.lits) (clause_at held id.0) ≡ Some lits → ((v : ℕ) → length (occurrences v held) ≤ places_of olds v) → list_all (has_room lists) lits ≡ true
fill_room held at id lits olds lists f e t p = each_in (has_room lists) lits (λ l m. lt-ltb 0 (room_of lists l.var.0) (here l.var.0 m))
  where
    here : (v : ℕ) → list_any (is_in v) lits ≡ true → 0 < room_of lists v
    here v m =
        let (h, (g, q)) = found held id.0 lits t in
        let a : length (ids_of lists v) ≡ length (occurrences v (before held (Some id))) = ap length (f.ids v ∙ ap (λ o. ids_at (occurrences v (before held o))) e) ∙ length-map _ _ in
        let b : length (occurrences v (before held (Some id))) < length (occurrences v held) = fewer (holds v) held id h g (ap (list_any (is_in v)) q ∙ m) in
        room_left lists v (length (occurrences v held)) (omega arith) (subst (λ n. length (occurrences v held) ≤ n) (sym (f.places v)) (p v))

-- one clause more
pub fill_more : (held : List Held) (at : Option ClauseId) (id : ClauseId) (short : ShortId) (next : Option ClauseId) (lits : List InLit) (olds lists news : List (Vec ShortId)) → Filling held at olds lists → at ≡ Some id
    → option_map (λ h. h.lits) (clause_at held id.0) ≡ Some lits → before held next ≡ before held (Some id) ++ option_to_list (clause_at held id.0)
    → short.0 ≡ id.0 → ((v : ℕ) → ids_of news v ≡ ids_of lists v ++ added v lits short) → ((v : ℕ) → places_of news v ≡ places_of lists v) → Filling held next olds news
fill_more held at id short next lits olds lists news f e t n w i p =
    let (h, (g, q)) = found held id.0 lits t in
    record {
      ids = λ v. more_ids (holds v) held at id short next h (ids_of lists v) (ids_of news v) (f.ids v) e g n w (i v ∙ ap (λ (z : List InLit). ids_of lists v ++ added v z short) (sym q));
      places = λ v. p v ∙ f.places v;
    }

-- ids above that of the first clause name the same clauses among the others
skip : (h : Held) (held : List Held) (ids : List ShortId) → list_all (λ id. ltb h.id id.0) ids ≡ true → clauses_at (h ∷ held) ids ≡ clauses_at held ids
skip h held [] e = refl
skip h held (x ∷ ids) e =
    let a : (ltb h.id x.0 ≡ true) × (list_all (λ id. ltb h.id id.0) ids ≡ true) = and_parts _ _ e in
    ap₂ (λ b z. cons_option (cond b (Some h) (clause_at held x.0)) z) (ne_eqb h.id x.0 (λ q. absurd (let l : h.id < x.0 = ltb-true _ _ a.0 in omega arith))) (skip h held ids a.1)

pub above_ids : (n : ℕ) (p : Held → Bool) (held : List Held) → list_all (λ h. ltb n h.id) held ≡ true → list_all (λ id. ltb n id.0) (ids_at (filter p held)) ≡ true
above_ids n p [] e = refl
above_ids n p (h ∷ held) e =
    let a : (ltb n h.id ≡ true) × (list_all (λ k. ltb n k.id) held ≡ true) = and_parts _ _ e in
    go (p h) a.0 (above_ids n p held a.1)
  where
    go : (b : Bool) → ltb n h.id ≡ true → list_all (λ id. ltb n id.0) (ids_at (filter p held)) ≡ true → list_all (λ id. ltb n id.0) (ids_at (cond b (h ∷ filter p held) (filter p held))) ≡ true
    go true l r = and_from _ _ l r
    go false l r = r

-- the ids of clauses name them
pub named : (p : Held → Bool) (held : List Held) → rising held ≡ true → clauses_at held (ids_at (filter p held)) ≡ filter p held
named p [] r = refl
named p (h ∷ held) r =
    let a : (list_all (λ k. ltb h.id k.id) held ≡ true) × (rising held ≡ true) = and_parts _ _ r in
    go (p h) (skip h held (ids_at (filter p held)) (above_ids h.id p held a.0) ∙ named p held a.1)
  where
    go : (b : Bool) → clauses_at (h ∷ held) (ids_at (filter p held)) ≡ filter p held → clauses_at (h ∷ held) (ids_at (cond b (h ∷ filter p held) (filter p held))) ≡ cond b (h ∷ filter p held) (filter p held)
    go true a = ap₂ (λ b z. cons_option (cond b (Some h) (clause_at held h.id)) z) (eq-eqb h.id h.id refl) a
    go false a = a

-- all clauses were walked
pub fill_known : (s : Store) (lists : List (Vec ShortId)) (v : ℕ) → IsKept s → ids_of lists v ≡ ids_at (occurrences v s.held) → are_below s.given (ids_of lists v) ≡ true
fill_known s lists v k e = ap (are_below s.given) e ∙ below_ids s.given (holds v) s.held k.below

pub fill_found : (s : Store) (lists : List (Vec ShortId)) (v : ℕ) → IsKept s → ids_of lists v ≡ ids_at (occurrences v s.held) → clauses_at s.held (ids_of lists v) ≡ occurrences v s.held
fill_found s lists v k e = ap (clauses_at s.held) e ∙ named (holds v) s.held k.rises

-- a list has a place for each clause that it names
named_fit : (held : List Held) (ids : List ShortId) → length (clauses_at held ids) ≤ length ids
named_fit held [] = omega arith
named_fit held (x ∷ ids) = go (clause_at held x.0) (named_fit held ids)
  where
    go : (o : Option Held) → length (clauses_at held ids) ≤ length ids → length (cons_option o (clauses_at held ids)) ≤ length (x ∷ ids)
    go None l = omega arith
    go (Some h) l = omega arith

ids_fit : (lists : List (Vec ShortId)) (v : ℕ) → length (ids_of lists v) ≤ places_of lists v
ids_fit [] v = omega arith
ids_fit (w ∷ lists) zero = let e : vec_len w ≡ length w.items = w.ok.0 in let f : vec_len w ≤ vec_capacity w = w.ok.1 in omega arith
ids_fit (w ∷ lists) (suc v) = ids_fit lists v

-- a test of what a clause is
abbrev of_contents : (Bool × List InLit → Bool) → Held → Bool
of_contents p h = p (h.learned, h.lits)

count_of : (p : Bool × List InLit → Bool) (held : List Held) → length (filter (of_contents p) held) ≡ length (filter p (contents held))
count_of p [] = refl
count_of p (h ∷ held) = go (p (h.learned, h.lits)) (count_of p held)
  where
    go : (b : Bool) → length (filter (of_contents p) held) ≡ length (filter p (contents held))
        → length (cond b (h ∷ filter (of_contents p) held) (filter (of_contents p) held)) ≡ length (cond b ((h.learned, h.lits) ∷ filter p (contents held)) (filter p (contents held)))
    go true e = omega arith
    go false e = e

-- where clauses are the same, whatever their ids, a list of the ids has a place for each that passes a test
pub ids_enough : (p : Bool × List InLit → Bool) (held news : List Held) (ids : List ShortId) → clauses_at held ids ≡ filter (of_contents p) held → contents news ≡ contents held → length (filter (of_contents p) news) ≤ length ids
ids_enough p held news ids f c =
    let a : length (filter (of_contents p) news) ≡ length (filter (of_contents p) held) = count_of p news ∙ (ap (λ (z : List (Bool × List InLit)). length (filter p z)) c ∙ sym (count_of p held)) in
    let b : length (clauses_at held ids) ≤ length ids = named_fit held ids in
    let e : length (clauses_at held ids) ≡ length (filter (of_contents p) held) = ap length f in
    omega arith

-- where clauses are the same, whatever their ids, the lists have places for the new ids
pub places_enough : (held news : List Held) (lists olds : List (Vec ShortId)) (v : ℕ) → clauses_at held (ids_of olds v) ≡ occurrences v held → contents news ≡ contents held → places_of lists v ≡ places_of olds v
    → length (occurrences v news) ≤ places_of lists v
places_enough held news lists olds v f c p =
    let a : length (occurrences v news) ≤ length (ids_of olds v) = ids_enough (λ x. list_any (is_in v) x.1) held news (ids_of olds v) f c in
    let b : length (ids_of olds v) ≤ places_of olds v = ids_fit olds v in
    omega arith
