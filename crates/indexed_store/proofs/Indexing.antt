-- What the lists name after a clause was added or dropped.
use Rattle.std.proofs.Common.{◌≡◌, ℕ, ◌<◌, ◌≤◌, ◌==◌, Bool, true, false, cond, not, ltb, List, [], ◌∷◌, ◌++◌, Option, Some, None, refl, sym, ap, ap₂, ◌∙◌, arith, filter, eqb-true, eq-eqb, ne_eqb, lt-ltb, ltb-true, append-nil}
use Rattle.std.proofs.lemmas.Bool.{and_parts, and_from}
use Rattle.std.proofs.lemmas.List.Elements.{filter-append, filter_map-append}
use Rattle.std.proofs.lemmas.List.Folds.{find-append}
use Rattle.std.specs.List.{list_all, cons_option}
use Rattle.std.specs.Option.{option_or, is_some}
use Rattle.sat_lits.specs.InLits.{is_distinct}
use Rattle.sat_lits.specs.ListLaws.{all_mono, all_push}
use Rattle.indexed_store.specs.declared.short_id.ShortId.{ShortId}
use Rattle.sat_lits.specs.declared.literal.InLit.{InLit}
use Rattle.clause_store.specs.Store.{Store, Held, IsKept, held_as, clause_at, is_live, rising, without}
use Rattle.indexed_store.specs.Lists.{are_below, ids_rise}
use Rattle.indexed_store.specs.Occurrences.{clauses_at}

-- a clause, unless it has this id
abbrev pub other_than : ℕ → Option Held → Option Held
other_than i None = None
other_than i (Some h) = cond (not (h.id == i)) (Some h) None

other_self : (hs : List Held) (i : ℕ) → other_than i (clause_at hs i) ≡ None
other_self [] i = refl
other_self (h ∷ hs) i = go (h.id == i) refl (other_self hs i)
  where
    go : (b : Bool) → (h.id == i) ≡ b → other_than i (clause_at hs i) ≡ None → other_than i (cond b (Some h) (clause_at hs i)) ≡ None
    go true e r = rw e refl
    go false e r = r

-- the clause of an id where that of another was dropped
clause_at-without : (hs : List Held) (i j : ℕ) → clause_at (without i hs) j ≡ other_than i (clause_at hs j)
clause_at-without [] i j = refl
clause_at-without (h ∷ hs) i j = go (h.id == i) (h.id == j) refl refl (clause_at-without hs i j)
  where
    go : (a b : Bool) → (h.id == i) ≡ a → (h.id == j) ≡ b → clause_at (without i hs) j ≡ other_than i (clause_at hs j) → clause_at (cond (not a) (h ∷ without i hs) (without i hs)) j ≡ other_than i (cond b (Some h) (clause_at hs j))
    go true true e f r =
        let k : i ≡ j = sym (eqb-true _ _ e) ∙ eqb-true _ _ f in
        rw e (r ∙ (ap (λ n. other_than i (clause_at hs n)) (sym k) ∙ other_self hs i))
    go true false e f r = r
    go false true e f r = rw (f, e) refl
    go false false e f r = rw f r

-- what a list names where a clause was dropped
clauses_at-without : (hs : List Held) (i : ℕ) (ids : List ShortId) → clauses_at (without i hs) ids ≡ without i (clauses_at hs ids)
clauses_at-without hs i [] = refl
clauses_at-without hs i (x ∷ ids) = ap₂ (λ o z. cons_option o z) (clause_at-without hs i x.0) (clauses_at-without hs i ids) ∙ go (clause_at hs x.0)
  where
    go : (o : Option Held) → cons_option (other_than i o) (without i (clauses_at hs ids)) ≡ without i (cons_option o (clauses_at hs ids))
    go None = refl
    go (Some h) = each (h.id == i) refl
      where
        each : (b : Bool) → (h.id == i) ≡ b → cons_option (cond (not (h.id == i)) (Some h) None) (without i (clauses_at hs ids)) ≡ cond (not (h.id == i)) (h ∷ without i (clauses_at hs ids)) (without i (clauses_at hs ids))
        each true e = rw e refl
        each false e = rw e refl

passed-without : (p : Held → Bool) (i : ℕ) (hs : List Held) → filter p (without i hs) ≡ without i (filter p hs)
passed-without p i [] = refl
passed-without p i (h ∷ hs) = go (h.id == i) (p h) refl refl (passed-without p i hs)
  where
    go : (a b : Bool) → (h.id == i) ≡ a → p h ≡ b → filter p (without i hs) ≡ without i (filter p hs) → filter p (cond (not a) (h ∷ without i hs) (without i hs)) ≡ without i (cond b (h ∷ filter p hs) (filter p hs))
    go true true e f r = rw e r
    go true false e f r = r
    go false true e f r = rw (f, e) (ap (λ z. h ∷ z) r)
    go false false e f r = rw f r

-- a list still names the clauses that pass a test
pub found_without : (p : Held → Bool) (hs : List Held) (i : ℕ) (ids : List ShortId) → clauses_at hs ids ≡ filter p hs → clauses_at (without i hs) ids ≡ filter p (without i hs)
found_without p hs i ids e = clauses_at-without hs i ids ∙ (ap (without i) e ∙ sym (passed-without p i hs))

-- what all clauses pass, those that are left pass
pub below_without : (p : Held → Bool) (i : ℕ) (hs : List Held) → list_all p hs ≡ true → list_all p (without i hs) ≡ true
below_without p i [] e = refl
below_without p i (h ∷ hs) e =
    let a : (p h ≡ true) × (list_all p hs ≡ true) = and_parts _ _ e in
    go (h.id == i) a.0 (below_without p i hs a.1)
  where
    go : (b : Bool) → p h ≡ true → list_all p (without i hs) ≡ true → list_all p (cond (not b) (h ∷ without i hs) (without i hs)) ≡ true
    go true q r = r
    go false q r = and_from _ _ q r

apart : (x n g : ℕ) → ltb x g ≡ true → g ≤ n → (n == x) ≡ false
apart x n g l m = ne_eqb n x (λ e. absurd (let k : x < g = ltb-true _ _ l in omega arith))

apart' : (x n g : ℕ) → ltb x g ≡ true → g ≤ n → (x == n) ≡ false
apart' x n g l m = ne_eqb x n (λ e. absurd (let k : x < g = ltb-true _ _ l in omega arith))

-- no clause has a new id
new_at : (hs : List Held) (g n : ℕ) → list_all (λ h. ltb h.id g) hs ≡ true → g ≤ n → clause_at hs n ≡ None
new_at [] g n e l = refl
new_at (h ∷ hs) g n e l =
    let a : (ltb h.id g ≡ true) × (list_all (λ k. ltb k.id g) hs ≡ true) = and_parts _ _ e in
    rw (apart' h.id n g a.0 l) (new_at hs g n a.1 l)

or_none : (o : Option Held) → option_or o None ≡ o
or_none None = refl
or_none (Some h) = refl

-- a list of old ids names the same clauses where one more was added
clauses_at-more : (hs : List Held) (h : Held) (g : ℕ) (ids : List ShortId) → are_below g ids ≡ true → g ≤ h.id → clauses_at (hs ++ h ∷ []) ids ≡ clauses_at hs ids
clauses_at-more hs h g [] e l = refl
clauses_at-more hs h g (x ∷ ids) e l =
    let a : (ltb x.0 g ≡ true) × (are_below g ids ≡ true) = and_parts _ _ e in
    ap₂ (λ o z. cons_option o z)
    (find-append (λ (k : Held). k.id == x.0) hs (h ∷ []) ∙ (ap (λ b. option_or (clause_at hs x.0) (cond b (Some h) None)) (apart x.0 h.id g a.0 l) ∙ or_none (clause_at hs x.0)))
    (clauses_at-more hs h g ids a.1 l)

-- the new id names the new clause
clauses_at-new : (hs : List Held) (h : Held) (g : ℕ) (id : ShortId) → list_all (λ k. ltb k.id g) hs ≡ true → g ≤ id.0 → h.id ≡ id.0 → clauses_at (hs ++ h ∷ []) (id ∷ []) ≡ h ∷ []
clauses_at-new hs h g id e l i =
    ap (λ o. cons_option o [])
    (find-append (λ (k : Held). k.id == id.0) hs (h ∷ []) ∙ ap₂ (λ o b. option_or o (cond b (Some h) None)) (new_at hs g id.0 e l) (eq-eqb h.id id.0 i))

-- a list names the clauses that pass a test where one more was added
pub found_more : (p : Held → Bool) (hs news : List Held) (g : ℕ) (id : ShortId) (learned : Bool) (lits : List InLit) (olds ids : List ShortId) → list_all (λ k. ltb k.id g) hs ≡ true → are_below g olds ≡ true → g ≤ id.0
    → news ≡ hs ++ held_as id.0 learned lits ∷ [] → ids ≡ olds ++ cond (p (held_as id.0 learned lits)) (id ∷ []) [] → clauses_at hs olds ≡ filter p hs → clauses_at news ids ≡ filter p news
found_more p hs news g id learned lits olds ids e o l n i f =
    ap₂ (λ z w. clauses_at z w) n i
    ∙ (filter_map-append (λ (x : ShortId). clause_at (hs ++ h ∷ []) x.0) olds (cond (p h) (id ∷ []) [])
    ∙ (ap₂ {C = List Held} ◌++◌ (clauses_at-more hs h g olds o l ∙ f) (last (p h))
    ∙ (sym (filter-append p hs (h ∷ [])) ∙ ap (filter p) (sym n))))
  where
    h : Held
    h = held_as id.0 learned lits

    last : (b : Bool) → clauses_at (hs ++ h ∷ []) (cond b (id ∷ []) []) ≡ cond b (h ∷ []) []
    last true = clauses_at-new hs h g id e l refl
    last false = refl

le_mono : (x g n : ℕ) → g ≤ n → ltb x g ≡ true → ltb x n ≡ true
le_mono x g n l e = let k : x < g = ltb-true _ _ e in lt-ltb x n (omega arith)

-- ids that are below a number are below a greater one
pub held_below : (hs news : List Held) (g n : ℕ) (h : Held) → list_all (λ k. ltb k.id g) hs ≡ true → g ≤ h.id → h.id < n → news ≡ hs ++ h ∷ [] → list_all (λ k. ltb k.id n) news ≡ true
held_below hs news g n h e l m q =
    ap (list_all (λ (k : Held). ltb k.id n)) q
    ∙ all_push (λ (k : Held). ltb k.id n) hs h (all_mono (λ (k : Held). ltb k.id g) (λ k. ltb k.id n) (λ k. le_mono k.id g n (omega arith)) hs e) (lt-ltb h.id n m)

pub ids_below : (olds ids : List ShortId) (g n : ℕ) (id : ShortId) (b : Bool) → are_below g olds ≡ true → g ≤ id.0 → id.0 < n → ids ≡ olds ++ cond b (id ∷ []) [] → are_below n ids ≡ true
ids_below olds ids g n id b e l m q = ap (are_below n) q ∙ go b
  where
    more : are_below n olds ≡ true
    more = all_mono (λ (k : ShortId). ltb k.0 g) (λ k. ltb k.0 n) (λ k. le_mono k.0 g n (omega arith)) olds e

    go : (b : Bool) → are_below n (olds ++ cond b (id ∷ []) []) ≡ true
    go true = all_push (λ (k : ShortId). ltb k.0 n) olds id more (lt-ltb id.0 n m)
    go false = ap (are_below n) (append-nil olds) ∙ more

-- ids that are below a number are below one that is not less
pub below_more : (g n : ℕ) (ids : List ShortId) → g ≤ n → are_below g ids ≡ true → are_below n ids ≡ true
below_more g n ids l e = all_mono (λ (k : ShortId). ltb k.0 g) (λ k. ltb k.0 n) (λ k. le_mono k.0 g n l) ids e

-- ids rise where one more is above them
push_rise : (g : ℕ) (ids : List ShortId) (id : ShortId) → are_below g ids ≡ true → g ≤ id.0 → ids_rise ids ≡ true → ids_rise (ids ++ id ∷ []) ≡ true
push_rise g [] id e l r = refl
push_rise g (x ∷ ids) id e l r =
    let a : (ltb x.0 g ≡ true) × (are_below g ids ≡ true) = and_parts _ _ e in
    let b : (list_all (λ k. ltb x.0 k.0) ids ≡ true) × (ids_rise ids ≡ true) = and_parts _ _ r in
    and_from _ _ (all_push (λ (k : ShortId). ltb x.0 k.0) ids id b.0 (le_mono x.0 g id.0 l a.0)) (push_rise g ids id a.1 l b.1)

pub rise_more : (olds ids : List ShortId) (g : ℕ) (id : ShortId) (b : Bool) → are_below g olds ≡ true → g ≤ id.0 → ids ≡ olds ++ cond b (id ∷ []) [] → ids_rise olds ≡ true → ids_rise ids ≡ true
rise_more olds ids g id b e l q r = ap ids_rise q ∙ go b
  where
    go : (b : Bool) → ids_rise (olds ++ cond b (id ∷ []) []) ≡ true
    go true = push_rise g olds id e l r
    go false = ap ids_rise (append-nil olds) ∙ r

-- the ids that are not live name nothing
pub clauses_at-live : (hs : List Held) (ids : List ShortId) → clauses_at hs (filter (λ id. is_live hs id.0) ids) ≡ clauses_at hs ids
clauses_at-live hs [] = refl
clauses_at-live hs (x ∷ ids) = go (clause_at hs x.0) refl (clauses_at-live hs ids)
  where
    go : (o : Option Held) → clause_at hs x.0 ≡ o → clauses_at hs (filter (λ id. is_live hs id.0) ids) ≡ clauses_at hs ids
        → clauses_at hs (cond (is_some o) (x ∷ filter (λ id. is_live hs id.0) ids) (filter (λ id. is_live hs id.0) ids)) ≡ cons_option o (clauses_at hs ids)
    go None e r = r
    go (Some h) e r = ap₂ (λ o z. cons_option o z) e r

-- what all ids pass, those that are left pass
pub all_filter : (test p : ShortId → Bool) (ids : List ShortId) → list_all p ids ≡ true → list_all p (filter test ids) ≡ true
all_filter test p [] e = refl
all_filter test p (x ∷ ids) e =
    let a : (p x ≡ true) × (list_all p ids ≡ true) = and_parts _ _ e in
    go (test x) a.0 (all_filter test p ids a.1)
  where
    go : (b : Bool) → p x ≡ true → list_all p (filter test ids) ≡ true → list_all p (cond b (x ∷ filter test ids) (filter test ids)) ≡ true
    go true q r = and_from _ _ q r
    go false q r = r

-- those that are left rise
pub rise_filter : (test : ShortId → Bool) (ids : List ShortId) → ids_rise ids ≡ true → ids_rise (filter test ids) ≡ true
rise_filter test [] e = refl
rise_filter test (x ∷ ids) e =
    let a : (list_all (λ k. ltb x.0 k.0) ids ≡ true) × (ids_rise ids ≡ true) = and_parts _ _ e in
    go (test x) a.0 (rise_filter test ids a.1)
  where
    go : (b : Bool) → list_all (λ k. ltb x.0 k.0) ids ≡ true → ids_rise (filter test ids) ≡ true → ids_rise (cond b (x ∷ filter test ids) (filter test ids)) ≡ true
    go true q r = and_from _ _ (all_filter test (λ k. ltb x.0 k.0) ids q) r
    go false q r = r

rising-without : (i : ℕ) (hs : List Held) → rising hs ≡ true → rising (without i hs) ≡ true
rising-without i [] e = refl
rising-without i (h ∷ hs) e =
    let p : (list_all (λ k. ltb h.id k.id) hs ≡ true) × (rising hs ≡ true) = and_parts _ _ e in
    go (h.id == i) p.0 (rising-without i hs p.1)
  where
    go : (b : Bool) → list_all (λ k. ltb h.id k.id) hs ≡ true → rising (without i hs) ≡ true → rising (cond (not b) (h ∷ without i hs) (without i hs)) ≡ true
    go true a r = r
    go false a r = and_from _ _ (below_without (λ (k : Held). ltb h.id k.id) i hs a) r

-- a store with a clause less keeps what every store does
pub kept_without : (s : Store) (i : ℕ) → IsKept s → IsKept (record s { held = without i s.held })
kept_without s i k =
    record {
      below = below_without (λ (h : Held). ltb h.id s.given) i s.held k.below;
      few = k.few;
      marked = k.marked;
      rises = rising-without i s.held k.rises;
      distinct = below_without (λ (h : Held). is_distinct h.lits) i s.held k.distinct;
    }
