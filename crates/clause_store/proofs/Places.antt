-- The clauses at places, as a list of held clauses.
use Rattle.std.proofs.Common.{◌≡◌, ℕ, zero, suc, ◌+◌, ◌<◌, ◌≤◌, Bool, true, false, eqb, ltb, List, [], ◌∷◌, ◌++◌, length, get_or, set, take, filter, Option, Some, None, option_map, option_to_list, refl, sym, ap, ◌∙◌, arith, append-nil, ne_eqb, eq-eqb, lt-ltb, ltb-true, nat_le}
use Rattle.std.proofs.lemmas.Bool.{and_from, false≢true, ltb-false, le-leb, le-ltb, lt-leb}
use Rattle.std.specs.List.{list_all}
use Rattle.std.specs.Option.{is_some}
use Rattle.clause_store.specs.Store.{Held, held_as, clause_at, is_live, before, without, rising}
use Rattle.clause_store.specs.Words.{Stored, held_from}

-- a clause, seen with its place as its id
abbrev pub seen : ℕ → Stored → Held
seen id clause = held_as id clause.learned clause.lits

ne_below : (a b : ℕ) → a < b → eqb a b ≡ false
ne_below a b l = ne_eqb a b (λ e. absurd (omega arith))

ne_above : (a b : ℕ) → b < a → eqb a b ≡ false
ne_above a b l = ne_eqb a b (λ e. absurd (omega arith))

-- no clause has an id below the first place
clause_at-below : (n id : ℕ) (ps : List (Option Stored)) → id < n → clause_at (held_from n ps) id ≡ None
clause_at-below n id [] l = refl
clause_at-below n id (None ∷ ps) l = clause_at-below (suc n) id ps (omega arith)
clause_at-below n id (Some c ∷ ps) l = rw (ne_above n id l) (clause_at-below (suc n) id ps (omega arith))

-- nor one past the last place
clause_at-past : (n id : ℕ) (ps : List (Option Stored)) → n + length ps ≤ id → clause_at (held_from n ps) id ≡ None
clause_at-past n id [] l = refl
clause_at-past n id (None ∷ ps) l = clause_at-past (suc n) id ps (omega arith)
clause_at-past n id (Some c ∷ ps) l = rw (ne_below n id (omega arith)) (clause_at-past (suc n) id ps (omega arith))

-- the clause of an id is the one at that place
clause_at-place : (n j id : ℕ) (ps : List (Option Stored)) (p : Option Stored) → id ≡ n + j → p ≡ get_or ps j p → j < length ps → clause_at (held_from n ps) id ≡ option_map (seen id) p
clause_at-place n j id [] p i e l = absurd (omega arith)
clause_at-place n zero id (None ∷ ps) p i e l = rw e (clause_at-below (suc n) id ps (omega arith))
clause_at-place n zero id (Some c ∷ ps) p i e l = let k : id ≡ n = omega arith in rw (e, k, eq-eqb n n refl) refl
clause_at-place n (suc j) id (None ∷ ps) p i e l = clause_at-place (suc n) j id ps p (omega arith) e (omega arith)
clause_at-place n (suc j) id (Some c ∷ ps) p i e l = rw (ne_below n id (omega arith)) (clause_at-place (suc n) j id ps p (omega arith) e (omega arith))

-- no later clause has an earlier id
without-below : (n id : ℕ) (ps : List (Option Stored)) → id < n → without id (held_from n ps) ≡ held_from n ps
without-below n id [] l = refl
without-below n id (None ∷ ps) l = without-below (suc n) id ps (omega arith)
without-below n id (Some c ∷ ps) l = rw (ne_above n id l) (ap (λ (z : List Held). seen n c ∷ z) (without-below (suc n) id ps (omega arith)))

-- a place that is emptied
pub held_from-set : (n j id : ℕ) (ps : List (Option Stored)) → id ≡ n + j → j < length ps → held_from n (set ps j None) ≡ without id (held_from n ps)
held_from-set n j id [] i l = absurd (omega arith)
held_from-set n zero id (None ∷ ps) i l = sym (without-below (suc n) id ps (omega arith))
held_from-set n zero id (Some c ∷ ps) i l = rw (eq-eqb n id (omega arith)) (sym (without-below (suc n) id ps (omega arith)))
held_from-set n (suc j) id (None ∷ ps) i l = held_from-set (suc n) j id ps (omega arith) (omega arith)
held_from-set n (suc j) id (Some c ∷ ps) i l = rw (ne_below n id (omega arith)) (ap (λ (z : List Held). seen n c ∷ z) (held_from-set (suc n) j id ps (omega arith) (omega arith)))

-- one place more from the front
held_from-take : (n j id : ℕ) (ps : List (Option Stored)) → id ≡ n + j → held_from n (take (suc j) ps) ≡ held_from n (take j ps) ++ option_to_list (clause_at (held_from n ps) id)
held_from-take n zero id [] i = refl
held_from-take n (suc j) id [] i = refl
held_from-take n zero id (None ∷ ps) i = rw (clause_at-below (suc n) id ps (omega arith)) refl
held_from-take n zero id (Some c ∷ ps) i = let k : id ≡ n = omega arith in rw (k, eq-eqb n n refl) refl
held_from-take n (suc j) id (None ∷ ps) i = held_from-take (suc n) j id ps (omega arith)
held_from-take n (suc j) id (Some c ∷ ps) i = rw (ne_below n id (omega arith)) (ap (λ (z : List Held). seen n c ∷ z) (held_from-take (suc n) j id ps (omega arith)))

-- what stands before the clause of a live id stands at the places before it
before-place : (n j id : ℕ) (ps : List (Option Stored)) → id ≡ n + j → is_live (held_from n ps) id ≡ true → before (held_from n ps) (Some (record { 0 = id })) ≡ held_from n (take j ps)
before-place n j id [] i e = absurd (false≢true e)
before-place n zero id (None ∷ ps) i e = absurd (let k : clause_at (held_from (suc n) ps) id ≡ None = clause_at-below (suc n) id ps (omega arith) in false≢true (sym (ap is_some k) ∙ e))
before-place n zero id (Some c ∷ ps) i e = let k : id ≡ n = omega arith in rw (k, eq-eqb n n refl) refl
before-place n (suc j) id (None ∷ ps) i e = before-place (suc n) j id ps (omega arith) e
before-place n (suc j) id (Some c ∷ ps) i e =
    let k : eqb n id ≡ false = ne_below n id (omega arith) in
    let live : is_live (held_from (suc n) ps) id ≡ true = rw k at e in
    rw k (ap (λ (z : List Held). seen n c ∷ z) (before-place (suc n) j id ps (omega arith) live))

-- later places have greater ids
ids_above : (n m : ℕ) (ps : List (Option Stored)) → n < m → list_all (λ h. ltb n h.id) (held_from m ps) ≡ true
ids_above n m [] l = refl
ids_above n m (None ∷ ps) l = ids_above n (suc m) ps (omega arith)
ids_above n m (Some c ∷ ps) l = and_from _ _ (lt-ltb n m l) (ids_above n (suc m) ps (omega arith))

-- ids rise from place to place
pub rising-places : (n : ℕ) (ps : List (Option Stored)) → rising (held_from n ps) ≡ true
rising-places n [] = refl
rising-places n (None ∷ ps) = rising-places (suc n) ps
rising-places n (Some c ∷ ps) = and_from _ _ (ids_above n (suc n) ps (omega arith)) (rising-places (suc n) ps)

-- ids are below the number of places
pub ids_below : (n m : ℕ) (ps : List (Option Stored)) → n + length ps ≤ m → list_all (λ h. ltb h.id m) (held_from n ps) ≡ true
ids_below n m [] l = refl
ids_below n m (None ∷ ps) l = ids_below (suc n) m ps (omega arith)
ids_below n m (Some c ∷ ps) l = and_from _ _ (lt-ltb n m (omega arith)) (ids_below (suc n) m ps (omega arith))

-- the clause of an id, where the first place is 0
pub clause_at-first : (id : ℕ) (ps : List (Option Stored)) (p : Option Stored) → p ≡ get_or ps id p → id < length ps → clause_at (held_from 0 ps) id ≡ option_map (seen id) p
clause_at-first id ps p e l = clause_at-place 0 id id ps p (omega arith) e l

-- an id is live where its place holds a clause
pub is_live-first : (id : ℕ) (ps : List (Option Stored)) (p : Option Stored) → p ≡ get_or ps id p → id < length ps → is_live (held_from 0 ps) id ≡ is_some p
is_live-first id ps p e l = ap is_some (clause_at-first id ps p e l) ∙ go p
  where
    go : (p : Option Stored) → is_some (option_map (seen id) p) ≡ is_some p
    go None = refl
    go (Some c) = refl

-- and there is no such place where none is live
pub is_live-past : (id : ℕ) (ps : List (Option Stored)) → length ps ≤ id → is_live (held_from 0 ps) id ≡ false
is_live-past id ps l = ap is_some (clause_at-past 0 id ps (omega arith))

-- a live id is a place
pub live_within : (id : ℕ) (ps : List (Option Stored)) → is_live (held_from 0 ps) id ≡ true → id < length ps
live_within id ps e = go (ltb id (length ps)) refl
  where
    go : (b : Bool) → ltb id (length ps) ≡ b → id < length ps
    go true f = ltb-true id (length ps) f
    go false f = absurd (let l : length ps ≤ id = ltb-false id (length ps) f in false≢true (sym (is_live-past id ps l) ∙ e))

-- what stands before a live clause
pub before-live : (id : ℕ) (ps : List (Option Stored)) → is_live (held_from 0 ps) id ≡ true → before (held_from 0 ps) (Some (record { 0 = id })) ≡ held_from 0 (take id ps)
before-live id ps e = before-place 0 id id ps (omega arith) e

-- the walk passes an empty place
pub walk_past : (id : ℕ) (ps : List (Option Stored)) → is_live (held_from 0 ps) id ≡ false → held_from 0 (take (id + 1) ps) ≡ held_from 0 (take id ps)
walk_past id ps e =
    let k : id + 1 ≡ suc id = omega arith in
    rw k (held_from-take 0 id id ps (omega arith) ∙ go (clause_at (held_from 0 ps) id) e)
  where
    go : (o : Option Held) → is_some o ≡ false → held_from 0 (take id ps) ++ option_to_list o ≡ held_from 0 (take id ps)
    go None f = append-nil (held_from 0 (take id ps))
    go (Some h) f = absurd (false≢true (sym f))

-- the walk goes on at the place after a clause
pub walk_on : (id : ℕ) (ps : List (Option Stored)) → is_live (held_from 0 ps) id ≡ true
    → held_from 0 (take (id + 1) ps) ≡ before (held_from 0 ps) (Some (record { 0 = id })) ++ option_to_list (clause_at (held_from 0 ps) id)
walk_on id ps e =
    let k : id + 1 ≡ suc id = omega arith in
    rw (k, before-live id ps e) (held_from-take 0 id id ps (omega arith))

-- no clause has an id up to one below the first place
upto-below : (n id : ℕ) (ps : List (Option Stored)) → id < n → filter (λ h. nat_le h.id id) (held_from n ps) ≡ []
upto-below n id [] l = refl
upto-below n id (None ∷ ps) l = upto-below (suc n) id ps (omega arith)
upto-below n id (Some c ∷ ps) l = rw (lt-leb n id l) (upto-below (suc n) id ps (omega arith))

-- nor one below an earlier place
pub none-below : (n m : ℕ) (ps : List (Option Stored)) → m ≤ n → filter (λ h. ltb h.id m) (held_from n ps) ≡ []
none-below n m [] l = refl
none-below n m (None ∷ ps) l = none-below (suc n) m ps (omega arith)
none-below n m (Some c ∷ ps) l = rw (le-ltb n m l) (none-below (suc n) m ps (omega arith))

-- the clauses up to an id stand at the places up to it
pub upto-place : (n j id : ℕ) (ps : List (Option Stored)) → id ≡ n + j → filter (λ h. nat_le h.id id) (held_from n ps) ≡ held_from n (take (suc j) ps)
upto-place n j id [] i = refl
upto-place n zero id (None ∷ ps) i = upto-below (suc n) id ps (omega arith)
upto-place n zero id (Some c ∷ ps) i = rw (le-leb n id (omega arith)) (ap (λ (z : List Held). seen n c ∷ z) (upto-below (suc n) id ps (omega arith)))
upto-place n (suc j) id (None ∷ ps) i = upto-place (suc n) j id ps (omega arith)
upto-place n (suc j) id (Some c ∷ ps) i = rw (le-leb n id (omega arith)) (ap (λ (z : List Held). seen n c ∷ z) (upto-place (suc n) j id ps (omega arith)))

-- no id is past the last place
pub upto-all : (n id : ℕ) (ps : List (Option Stored)) → n + length ps ≤ suc id → filter (λ h. nat_le h.id id) (held_from n ps) ≡ held_from n ps
upto-all n id [] l = refl
upto-all n id (None ∷ ps) l = upto-all (suc n) id ps (omega arith)
upto-all n id (Some c ∷ ps) l = rw (le-leb n id (omega arith)) (ap (λ (z : List Held). seen n c ∷ z) (upto-all (suc n) id ps (omega arith)))
