-- Lists of ids by variable, after one of them changed.
use Rattle.std.proofs.Common.{◌≡◌, ℕ, zero, suc, ◌+◌, ◌-◌, ◌<◌, ◌≤◌, ◌==◌, Bool, true, false, cond, ◌||◌, ltb, List, [], ◌∷◌, ◌++◌, Some, refl, sym, ap, ◌∙◌, arith, length, set, get_or, take, slice_get, drop, drop_of_length-le, take_all, vec_len, vec_capacity, length-set, append-nil, eqb-true, eq-eqb, ne_eqb, ltb-true, lt-ltb}
use Rattle.std.proofs.lemmas.Bool.{and_parts, false≢true, eqb-false, ltb-false}
use Rattle.std.proofs.lemmas.Grind.{take_at_read}
use Rattle.std.proofs.lemmas.List.Folds.{list_any-append}
use Rattle.std.specs.List.{list_all, list_any}
use Rattle.sat_lits.specs.ListLaws.{all_mono, all_push}
use Rattle.sat_lits.specs.declared.literal.InLit.{InLit}
use Rattle.std.specs.Global.{Vec}
use Rattle.indexed_store.specs.declared.short_id.ShortId.{ShortId}
use Rattle.indexed_store.specs.Lists.{ids_in, ids_of, places_in, places_of, room_in, room_of, has_room, ends_with, with_last, is_in, added, are_below}

-- one empty list more
pub ids_push : (lists : List (Vec ShortId)) (w : Vec ShortId) (v : ℕ) → w.items ≡ [] → ids_of (lists ++ w ∷ []) v ≡ ids_of lists v
ids_push [] w zero e = e
ids_push [] w (suc v) e = refl
ids_push (x ∷ lists) w zero e = refl
ids_push (x ∷ lists) w (suc v) e = ids_push lists w v e

pub room_push : (lists : List (Vec ShortId)) (w : Vec ShortId) (v : ℕ) → room_of lists v ≤ room_of (lists ++ w ∷ []) v
room_push [] w zero = omega arith
room_push [] w (suc v) = omega arith
room_push (x ∷ lists) w zero = omega arith
room_push (x ∷ lists) w (suc v) = room_push lists w v

-- the list that was changed
pub at_set : {X : Type 0} (xs : List X) (i : ℕ) (w : X) → i < length xs → slice_get (set xs i w) i ≡ Some w
at_set [] i w l = absurd (omega arith)
at_set (x ∷ xs) zero w l = refl
at_set (x ∷ xs) (suc i) w l = at_set xs i w (omega arith)

-- the others
pub at_other : {X : Type 0} (xs : List X) (i v : ℕ) (w : X) → (v ≡ i → ⊥) → slice_get (set xs i w) v ≡ slice_get xs v
at_other [] i v w n = refl
at_other (x ∷ xs) zero zero w n = absurd (n refl)
at_other (x ∷ xs) zero (suc v) w n = refl
at_other (x ∷ xs) (suc i) zero w n = refl
at_other (x ∷ xs) (suc i) (suc v) w n = at_other xs i v w (λ e. n (ap suc e))

-- the list of a variable that has one
pub at_read : {X : Type 0} (xs : List X) (i : ℕ) (x : X) → x ≡ get_or xs i x → i < length xs → slice_get xs i ≡ Some x
at_read [] i x e l = absurd (omega arith)
at_read (y ∷ xs) zero x e l = ap Some (sym e)
at_read (y ∷ xs) (suc i) x e l = at_read xs i x e (omega arith)

-- a variable whose list has room has a list
pub room_there : (lists : List (Vec ShortId)) (v : ℕ) → 0 < room_of lists v → v < length lists
room_there [] v l = absurd (omega arith)
room_there (x ∷ lists) zero l = omega arith
room_there (x ∷ lists) (suc v) l = let a : v < length lists = room_there lists v l in omega arith

-- an id that was appended is the last one
pub ends_push : (id : ShortId) (xs : List ShortId) → ends_with id (xs ++ id ∷ []) ≡ true
ends_push id [] = eq-eqb id.0 id.0 refl
ends_push id (x ∷ []) = eq-eqb id.0 id.0 refl
ends_push id (x ∷ y ∷ xs) = ends_push id (y ∷ xs)

-- one that is above all others is not
pub ends_below : (id : ShortId) (xs : List ShortId) → are_below id.0 xs ≡ true → ends_with id xs ≡ false
ends_below id [] e = refl
ends_below id (x ∷ []) e = let a : (ltb x.0 id.0 ≡ true) × (true ≡ true) = and_parts _ _ e in ne_eqb x.0 id.0 (λ q. absurd (let l : x.0 < id.0 = ltb-true _ _ a.0 in omega arith))
ends_below id (x ∷ y ∷ xs) e = let a : (ltb x.0 id.0 ≡ true) × (are_below id.0 (y ∷ xs) ≡ true) = and_parts _ _ e in ends_below id (y ∷ xs) a.1

-- what all pass, one of them passes
pub all_at : {X : Type 0} (p : X → Bool) (xs : List X) (i : ℕ) (d : X) → list_all p xs ≡ true → i < length xs → p (get_or xs i d) ≡ true
all_at p [] i d e l = absurd (omega arith)
all_at p (x ∷ xs) zero d e l = (and_parts (p x) (list_all p xs) e).0
all_at p (x ∷ xs) (suc i) d e l = all_at p xs i d (and_parts (p x) (list_all p xs) e).1 (omega arith)

-- a changed list that keeps its places leaves all lists theirs
same_places : (lists : List (Vec ShortId)) (i : ℕ) (list w : Vec ShortId) → i < length lists → slice_get lists i ≡ Some list → vec_capacity w ≡ vec_capacity list → (v : ℕ) → places_of (set lists i w) v ≡ places_of lists v
same_places lists i list w l g c v = go (v == i) refl
  where
    go : (b : Bool) → (v == i) ≡ b → places_of (set lists i w) v ≡ places_of lists v
    go true q = let k : v ≡ i = eqb-true _ _ q in rw k (ap places_in (at_set lists i w l) ∙ (c ∙ ap places_in (sym g)))
    go false q = ap places_in (at_other lists i v w (eqb-false v i q))

-- the lists after an id was appended to those of the variables of some literals
pub record Pushing (olds lists : List (Vec ShortId)) (lits : List InLit) (id : ShortId) : Type 0 where
  pub ids : (v : ℕ) → ids_of lists v ≡ ids_of olds v ++ added v lits id
  pub room : (v : ℕ) → list_any (is_in v) lits ≡ false → room_of olds v ≤ room_of lists v
  pub places : (v : ℕ) → places_of lists v ≡ places_of olds v
  pub count : length lists ≡ length olds

any_more : (v : ℕ) (lits : List InLit) (l : InLit) → list_any (is_in v) (lits ++ l ∷ []) ≡ (list_any (is_in v) lits || (l.var.0 == v))
any_more v lits l = list_any-append (is_in v) lits (l ∷ []) ∙ ap (λ b. list_any (is_in v) lits || b) (or_false (l.var.0 == v))
  where
    or_false : (b : Bool) → (b || false) ≡ b
    or_false true = refl
    or_false false = refl

-- the list has room, or the id is there
pub push_ready : (olds lists : List (Vec ShortId)) (lits : List InLit) (v : ℕ) (list : Vec ShortId) (id : ShortId) → Pushing olds lists lits id → 0 < room_of olds v → slice_get lists v ≡ Some list
    → ends_with id list.items ≡ false → vec_len list < vec_capacity list
push_ready olds lists lits v list id h r g e = go (list_any (is_in v) lits) refl
  where
    go : (b : Bool) → list_any (is_in v) lits ≡ b → vec_len list < vec_capacity list
    go true q = absurd (false≢true (sym e ∙ (ap (λ o. ends_with id (ids_in o)) (sym g) ∙ (ap (ends_with id) (h.ids v ∙ ap (λ b. ids_of olds v ++ cond b (id ∷ []) []) q) ∙ ends_push id (ids_of olds v)))))
    go false q =
        let a : room_of olds v ≤ room_of lists v = h.room v q in
        let b : room_of lists v ≡ vec_capacity list - vec_len list = ap room_in g in
        omega arith

-- one literal more
pub push_step : (olds lists : List (Vec ShortId)) (lits : List InLit) (l : InLit) (list w : Vec ShortId) (id : ShortId) → Pushing olds lists lits id → ((v : ℕ) → are_below id.0 (ids_of olds v) ≡ true)
    → l.var.0 < length lists → slice_get lists l.var.0 ≡ Some list → w.items ≡ with_last id list.items → vec_capacity w ≡ vec_capacity list → Pushing olds (set lists l.var.0 w) (lits ++ l ∷ []) id
push_step olds lists lits l list w id h n t g e c =
    record {
      ids = λ v. ids v (v == l.var.0) refl;
      room = λ v q. room v q (v == l.var.0) refl;
      places = λ v. same_places lists l.var.0 list w t g c v ∙ h.places v;
      count = length-set lists l.var.0 w ∙ h.count;
    }
  where
    last : (b : Bool) (xs : List ShortId) → are_below id.0 xs ≡ true → with_last id (xs ++ cond b (id ∷ []) []) ≡ xs ++ id ∷ []
    last true xs a = ap (λ b. cond b (xs ++ id ∷ []) ((xs ++ id ∷ []) ++ id ∷ [])) (ends_push id xs)
    last false xs a = ap (with_last id) (append-nil xs) ∙ ap (λ b. cond b xs (xs ++ id ∷ [])) (ends_below id xs a)

    or_true : (b : Bool) → (b || true) ≡ true
    or_true true = refl
    or_true false = refl

    or_no : (b : Bool) → (b || false) ≡ b
    or_no true = refl
    or_no false = refl

    here : list_any (is_in l.var.0) (lits ++ l ∷ []) ≡ true
    here = any_more l.var.0 lits l ∙ (ap (λ b. list_any (is_in l.var.0) lits || b) (eq-eqb l.var.0 l.var.0 refl) ∙ or_true (list_any (is_in l.var.0) lits))

    elsewhere : (v : ℕ) → (v ≡ l.var.0 → ⊥) → list_any (is_in v) (lits ++ l ∷ []) ≡ list_any (is_in v) lits
    elsewhere v m = any_more v lits l ∙ (ap (λ b. list_any (is_in v) lits || b) (ne_eqb l.var.0 v (λ q. absurd (m (sym q)))) ∙ or_no (list_any (is_in v) lits))

    ids : (v : ℕ) (b : Bool) → (v == l.var.0) ≡ b → ids_of (set lists l.var.0 w) v ≡ ids_of olds v ++ added v (lits ++ l ∷ []) id
    ids v true q =
        let k : v ≡ l.var.0 = eqb-true _ _ q in
        rw k
        (ap ids_in (at_set lists l.var.0 w t)
        ∙ (e ∙ (ap (λ o. with_last id (ids_in o)) (sym g)
        ∙ (ap (with_last id) (h.ids l.var.0) ∙ (last (list_any (is_in l.var.0) lits) (ids_of olds l.var.0) (n l.var.0) ∙ ap (λ b. ids_of olds l.var.0 ++ cond b (id ∷ []) []) (sym here))))))
    ids v false q =
        let m : v ≡ l.var.0 → ⊥ = eqb-false v l.var.0 q in
        ap ids_in (at_other lists l.var.0 v w m) ∙ (h.ids v ∙ ap (λ b. ids_of olds v ++ cond b (id ∷ []) []) (sym (elsewhere v m)))

    room : (v : ℕ) → list_any (is_in v) (lits ++ l ∷ []) ≡ false → (b : Bool) → (v == l.var.0) ≡ b → room_of olds v ≤ room_of (set lists l.var.0 w) v
    room v f true q = absurd (let k : v ≡ l.var.0 = eqb-true _ _ q in false≢true (sym f ∙ (ap (λ u. list_any (is_in u) (lits ++ l ∷ [])) k ∙ here)))
    room v f false q =
        let m : v ≡ l.var.0 → ⊥ = eqb-false v l.var.0 q in
        let a : room_of olds v ≤ room_of lists v = h.room v (sym (elsewhere v m) ∙ f) in
        let b : room_of (set lists l.var.0 w) v ≡ room_of lists v = ap room_in (at_other lists l.var.0 v w m) in
        omega arith

-- room for the literals so far is there when there is more room
pub room_more : (olds news : List (Vec ShortId)) (lits : List InLit) (l : InLit) → ((v : ℕ) → room_of olds v ≤ room_of news v) → 0 < room_of news l.var.0 → list_all (has_room olds) lits ≡ true → list_all (has_room news) (lits ++ l ∷ []) ≡ true
room_more olds news lits l m n a = all_push (has_room news) lits l (all_mono (has_room olds) (has_room news) (λ k e. each k e) lits a) (lt-ltb 0 (room_of news l.var.0) n)
  where
    each : (k : InLit) → has_room olds k ≡ true → has_room news k ≡ true
    each k e =
        let a : 0 < room_of olds k.var.0 = ltb-true _ _ e in
        let b : room_of olds k.var.0 ≤ room_of news k.var.0 = m k.var.0 in
        lt-ltb 0 (room_of news k.var.0) (omega arith)

-- the front of a list with one element more
pub taken_at : {X : Type 0} (xs : List X) (i : ℕ) (d : X) → i < length xs → take (i + 1) xs ≡ take i xs ++ get_or xs i d ∷ []
taken_at xs i d l = (take_at_read xs i d l).1

-- whether an id is the last one, by the one that is read
pub ends_last : (id : ShortId) (xs : List ShortId) (x : ShortId) → Some x ≡ slice_get xs (length xs - 1) → ends_with id xs ≡ (x.0 == id.0)
ends_last id [] x e = cc
ends_last id (y ∷ []) x e = ap (λ (k : ShortId). k.0 == id.0) (sym (same x y e))
  where
    same : (a b : ShortId) → Some a ≡ Some b → a ≡ b
    same a b q = cc
ends_last id (y ∷ z ∷ xs) x e =
    let k : suc (suc (length xs)) - 1 ≡ suc (suc (length xs) - 1) = omega arith in
    ends_last id (z ∷ xs) x (e ∙ ap (slice_get (y ∷ z ∷ xs)) k)

-- what a list becomes, where it was walked
abbrev pub changed : (List ShortId → List ShortId) → Bool → List ShortId → List ShortId
changed f done ids = cond done (f ids) ids

-- the lists of the variables below a number were changed
pub record Changing (f : List ShortId → List ShortId) (olds lists : List (Vec ShortId)) (n : ℕ) : Type 0 where
  pub ids : (v : ℕ) → ids_of lists v ≡ changed f (ltb v n) (ids_of olds v)
  pub places : (v : ℕ) → places_of lists v ≡ places_of olds v
  pub count : length lists ≡ length olds

pub change_none : (f : List ShortId → List ShortId) (lists : List (Vec ShortId)) → Changing f lists lists 0
change_none f lists = record { ids = λ v. ap (λ b. changed f b (ids_of lists v)) (sym (ltb-ge v)); places = λ v. refl; count = refl }
  where
    ltb-ge : (v : ℕ) → ltb v 0 ≡ false
    ltb-ge v = grind arith

-- one list more
pub change_more : (f : List ShortId → List ShortId) (olds lists : List (Vec ShortId)) (n : ℕ) (list w : Vec ShortId) → Changing f olds lists n → n < length lists → slice_get lists n ≡ Some list
    → w.items ≡ f list.items → vec_capacity w ≡ vec_capacity list → Changing f olds (set lists n w) (n + 1)
change_more f olds lists n list w h l g e c =
    record { ids = λ v. go v (v == n) refl; places = λ v. same_places lists n list w l g c v ∙ h.places v; count = length-set lists n w ∙ h.count }
  where
    still : (v : ℕ) → (v ≡ n → ⊥) → ltb v n ≡ ltb v (n + 1)
    still v m = grind arith

    not_yet : ltb n n ≡ false
    not_yet = grind arith

    now : ltb n (n + 1) ≡ true
    now = lt-ltb n (n + 1) (omega arith)

    go : (v : ℕ) (b : Bool) → (v == n) ≡ b → ids_of (set lists n w) v ≡ changed f (ltb v (n + 1)) (ids_of olds v)
    go v true q =
        let k : v ≡ n = eqb-true _ _ q in
        rw k
        (ap ids_in (at_set lists n w l)
        ∙ (e ∙ (ap (λ o. f (ids_in o)) (sym g) ∙ (ap f (h.ids n ∙ ap (λ b. changed f b (ids_of olds n)) not_yet) ∙ ap (λ b. changed f b (ids_of olds n)) (sym now)))))
    go v false q =
        let m : v ≡ n → ⊥ = eqb-false v n q in
        ap ids_in (at_other lists n v w m) ∙ (h.ids v ∙ ap (λ b. changed f b (ids_of olds v)) (still v m))

-- all lists were walked
pub change_all : (f : List ShortId → List ShortId) (olds lists : List (Vec ShortId)) (n v : ℕ) → f [] ≡ [] → Changing f olds lists n → length olds ≤ n → ids_of lists v ≡ f (ids_of olds v)
change_all f olds lists n v z h l = h.ids v ∙ go (ltb v n) refl
  where
    past : (xs : List (Vec ShortId)) (u : ℕ) → length xs ≤ u → ids_of xs u ≡ []
    past [] u m = refl
    past (x ∷ xs) zero m = absurd (omega arith)
    past (x ∷ xs) (suc u) m = past xs u (omega arith)

    go : (b : Bool) → ltb v n ≡ b → changed f b (ids_of olds v) ≡ f (ids_of olds v)
    go true q = refl
    go false q =
        let m : length olds ≤ v = let k : n ≤ v = ltb-false v n q in omega arith in
        rw (past olds v m) (sym z)

-- what was written through a slice
pub written_back : {X : Type 0} (n : ℕ) (xs ys : List X) → n ≡ length ys → length xs ≡ length ys → take n (xs ++ drop (length xs) ys) ≡ xs
written_back n xs ys e f =
    let a : length ys ≤ length xs = omega arith in
    let b : xs ++ drop (length xs) ys ≡ xs = rw (drop_of_length-le ys a) (append-nil xs) in
    let d : length xs ≤ n = omega arith in
    ap (take n) b ∙ take_all n xs d

pub at_got : {X : Type 0} (xs : List X) (i : ℕ) (d : X) → i < length xs → slice_get xs i ≡ Some (get_or xs i d)
at_got [] i d l = absurd (omega arith)
at_got (y ∷ xs) zero d l = refl
at_got (y ∷ xs) (suc i) d l = at_got xs i d (omega arith)
