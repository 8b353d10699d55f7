-- Headers and their literals among the words of a store.
use Rattle.std.proofs.Common.{◌≡◌, ℕ, zero, suc, ◌+◌, ◌-◌, ◌%◌, ◌<◌, ◌≤◌, ◌==◌, Bool, true, false, not, ltb, ◌&&◌, List, [], ◌∷◌, ◌++◌, length, get_or, set, take, drop, filter, Option, Some, None, option_map, option_to_list, nat_le, refl, sym, ap, ap₂, ◌∙◌, arith, cond, subst, length-set, length-drop, ltb-true, eq-eqb, ne_eqb, le-leb, ◌⊎◌, inl, inr}
use Rattle.std.proofs.Math.Seq.{take-length}
use Rattle.std.proofs.lemmas.Bool.{and_from, and_parts, false≢true, true≢false, cases_lt, lt-leb}
use Rattle.std.proofs.lemmas.List.{take-append-le, take-set-le}
use Rattle.std.specs.List.{list_all}
use Rattle.std.specs.Option.{is_some}
use Rattle.sat_lits.specs.Laws.{all_push}
use Rattle.sat_lits.specs.ListLaws.{all_filter}
use Rattle.sat_lits.specs.InLits.{is_distinct}
use Rattle.sat_lits.specs.declared.literal.ClauseId.{ClauseId}
use Rattle.sat_lits.specs.declared.literal.InLit.{InLit}
use Rattle.clause_store.specs.declared.store.ClauseStore.TheInside.{Inside}
use Rattle.clause_store.specs.Store.{Held, Store, held_as, clause_at, is_live, before, without, IsKept}
use Rattle.clause_store.specs.Inside.{store_of, IsArena}
use Rattle.clause_store.specs.Words.{first_header, is_header, is_live_header, length_in, learned_in, header_of, can_stand, Stored, stored_at, places_of, held_from, held_in, AreBlocks, step_from}
use Rattle.clause_store.proofs.Places.{seen, clause_at-first, is_live-first, is_live-past, live_within, walk_past, walk_on, held_from-set, ids_below, rising-places, upto-place, upto-all}

-- what is read where there is no word
abbrev pub no_lit : InLit
no_lit = record { var = record { 0 = 0 }; negative = false }

-- the literals that are left of a clause are among the words
pub blocks_within : (words : List InLit) (left : ℕ) → AreBlocks words left → left ≤ length words
blocks_within [] left b = omega arith
blocks_within (w ∷ words) zero b = omega arith
blocks_within (w ∷ words) (suc left) b = let i : left ≤ length words = blocks_within words left b.1 in omega arith

-- after a header come its literals
blocks_at : (words : List InLit) (left place : ℕ) (d : InLit) → AreBlocks words left → place < length words → is_header (get_or words place d) ≡ true → AreBlocks (drop (suc place) words) (length_in (get_or words place d))
blocks_at [] left place d b l h = absurd (omega arith)
blocks_at (w ∷ words) zero zero d b l h = b.1
blocks_at (w ∷ words) (suc left) zero d b l h = absurd (true≢false (sym h ∙ b.0))
blocks_at (w ∷ words) zero (suc place) d b l h = blocks_at words (length_in w) place d b.1 (omega arith) h
blocks_at (w ∷ words) (suc left) (suc place) d b l h = blocks_at words left place d b.1 (omega arith) h

-- so they are among the words
pub lits_within : (words : List InLit) (place : ℕ) (d : InLit) → AreBlocks words 0 → place < length words → is_header (get_or words place d) ≡ true → place + 1 + length_in (get_or words place d) ≤ length words
lits_within words place d b l h = from (length_in (get_or words place d)) (blocks_within (drop (suc place) words) _ (blocks_at words 0 place d b l h))
  where
    from : (n : ℕ) → n ≤ length (drop (suc place) words) → place + 1 + n ≤ length words
    from n k = omega (arith, length-drop (suc place) words)

-- none of the literals that are left is a header
no_header : (words : List InLit) (left place : ℕ) (d : InLit) → AreBlocks words left → place < left → is_header (get_or words place d) ≡ false
no_header [] left place d b l = absurd (omega arith)
no_header (w ∷ words) zero place d b l = absurd (omega arith)
no_header (w ∷ words) (suc left) zero d b l = b.0
no_header (w ∷ words) (suc left) (suc place) d b l = no_header words left place d b.1 (omega arith)

-- none of the literals of a clause is
lit_no_header : (words : List InLit) (left place at : ℕ) (d : InLit) → AreBlocks words left → place < length words → is_header (get_or words place d) ≡ true → place < at → at ≤ place + length_in (get_or words place d) → is_header (get_or words at d) ≡ false
lit_no_header [] left place at d b l h p q = absurd (omega arith)
lit_no_header (w ∷ words) left place zero d b l h p q = absurd (omega arith)
lit_no_header (w ∷ words) zero zero (suc at) d b l h p q = no_header words (length_in w) at d b.1 (under at (length_in w) q)
  where
    under : (i n : ℕ) → suc i ≤ 0 + n → i < n
    under i n k = omega arith
lit_no_header (w ∷ words) (suc left) zero (suc at) d b l h p q = absurd (true≢false (sym h ∙ b.0))
lit_no_header (w ∷ words) zero (suc place) (suc at) d b l h p q = lit_no_header words (length_in w) place at d b.1 (omega arith) h (omega arith) (less place at (length_in (get_or words place d)) q)
  where
    less : (i j n : ℕ) → suc j ≤ suc i + n → j ≤ i + n
    less i j n k = omega arith
lit_no_header (w ∷ words) (suc left) (suc place) (suc at) d b l h p q = lit_no_header words left place at d b.1 (omega arith) h (omega arith) (less place at (length_in (get_or words place d)) q)
  where
    less : (i j n : ℕ) → suc j ≤ suc i + n → j ≤ i + n
    less i j n k = omega arith

-- each word has a place
pub length-places_of : (words : List InLit) → length (places_of words) ≡ length words
length-places_of [] = refl
length-places_of (w ∷ words) = ap suc (length-places_of words)

-- what stands at a place
place_at : (words : List InLit) (place : ℕ) (d : InLit) (p : Option Stored) → place < length words → stored_at (get_or words place d) (drop (suc place) words) ≡ get_or (places_of words) place p
place_at [] place d p l = absurd (omega arith)
place_at (w ∷ words) zero d p l = refl
place_at (w ∷ words) (suc place) d p l = place_at words place d p (omega arith)

-- a clause stands where a live header does
is_some-stored_at : (w : InLit) (rest : List InLit) → is_some (stored_at w rest) ≡ is_live_header w
is_some-stored_at w rest = go (is_live_header w)
  where
    go : (b : Bool) → is_some {T = Stored} (cond b (Some (record { learned = learned_in w; lits = take (length_in w) rest })) None) ≡ b
    go true = refl
    go false = refl

within_places : (words : List InLit) (place : ℕ) → place < length words → place < length (places_of words)
within_places words place l = omega (arith, length-places_of words)

-- an id is live where its word is a live header
pub is_live-word : (words : List InLit) (place : ℕ) (d : InLit) → place < length words → is_live (held_in words) place ≡ is_live_header (get_or words place d)
is_live-word words place d l =
    is_live-first place (places_of words) (stored_at (get_or words place d) (drop (suc place) words)) (place_at words place d _ l) (within_places words place l)
    ∙ is_some-stored_at (get_or words place d) (drop (suc place) words)

-- and none is live past the words
pub is_live-past_words : (words : List InLit) (place : ℕ) → length words ≤ place → is_live (held_in words) place ≡ false
is_live-past_words words place l = is_live-past place (places_of words) (omega (arith, length-places_of words))

-- a live id is the place of a word
pub live_word : (words : List InLit) (place : ℕ) → is_live (held_in words) place ≡ true → place < length words
live_word words place e = let l : place < length (places_of words) = live_within place (places_of words) e in omega (arith, length-places_of words)

-- which is a live header
pub live_header : (words : List InLit) (place : ℕ) (d : InLit) → is_live (held_in words) place ≡ true → is_live_header (get_or words place d) ≡ true
live_header words place d e = sym (is_live-word words place d (live_word words place e)) ∙ e

pub live_is_header : (w : InLit) → is_live_header w ≡ true → is_header w ≡ true
live_is_header w e = (and_parts _ _ e).0

-- the clause of a live id
pub clause_at-word : (words : List InLit) (place : ℕ) (d : InLit) → is_live (held_in words) place ≡ true
    → clause_at (held_in words) place ≡ Some (held_as place (learned_in (get_or words place d)) (take (length_in (get_or words place d)) (drop (suc place) words)))
clause_at-word words place d e =
    clause_at-first place (places_of words) (stored_at w rest) (place_at words place d _ l) (within_places words place l)
    ∙ go (is_live_header w) (live_header words place d e)
  where
    w : InLit
    w = get_or words place d

    rest : List InLit
    rest = drop (suc place) words

    l : place < length words
    l = live_word words place e

    go : (b : Bool) → b ≡ true → option_map (seen place) (cond b (Some (record { learned = learned_in w; lits = take (length_in w) rest })) None) ≡ Some (held_as place (learned_in w) (take (length_in w) rest))
    go true f = refl
    go false f = absurd (false≢true f)

-- where no place of some in a row is live, a walk passes them
walk_past_all : (places : List (Option Stored)) (i j : ℕ) → ((q : ℕ) → i ≤ q → q < i + j → is_live (held_from 0 places) q ≡ false) → held_from 0 (take (i + j) places) ≡ held_from 0 (take i places)
walk_past_all places i zero h = let e : i + 0 ≡ i = omega arith in rw e refl
walk_past_all places i (suc j) h =
    let e : i + suc j ≡ i + j + 1 = omega arith in
    rw e (walk_past (i + j) places (h (i + j) (omega arith) (omega arith)) ∙ walk_past_all places i j (λ q a b. h q a (omega arith)))

not_live : (w : InLit) → is_header w ≡ false → is_live_header w ≡ false
not_live w e = ap (λ b. b && not w.negative) e

-- a walk passes the literals of a clause
pub walk_past_lits : (words : List InLit) (place : ℕ) (d : InLit) → AreBlocks words 0 → place < length words → is_header (get_or words place d) ≡ true
    → held_from 0 (take (place + 1 + length_in (get_or words place d)) (places_of words)) ≡ held_from 0 (take (place + 1) (places_of words))
walk_past_lits words place d b l h =
    walk_past_all (places_of words) (place + 1) (length_in (get_or words place d))
    (λ q m n.
    let in_words : q < length words = among q (length_in (get_or words place d)) n (lits_within words place d b l h) in
    is_live-word words q d in_words ∙ not_live (get_or words q d) (lit_no_header words 0 place q d b l h (omega arith) (upto q (length_in (get_or words place d)) n)))
  where
    among : (q n : ℕ) → q < place + 1 + n → place + 1 + n ≤ length words → q < length words
    among q n i k = omega arith

    upto : (q n : ℕ) → q < place + 1 + n → q ≤ place + n
    upto q n i = omega arith

-- a walk goes on from a word that begins no clause
pub walk_step : (words : List InLit) (place : ℕ) (d : InLit) → AreBlocks words 0 → place < length words → is_live_header (get_or words place d) ≡ false
    → (held_from 0 (take (place + step_from (get_or words place d)) (places_of words)) ≡ held_from 0 (take place (places_of words))) × (place + step_from (get_or words place d) ≤ length words)
walk_step words place d b l f = go (is_header (get_or words place d)) refl
  where
    n : ℕ
    n = length_in (get_or words place d)

    past : held_from 0 (take (place + 1) (places_of words)) ≡ held_from 0 (take place (places_of words))
    past = walk_past place (places_of words) (is_live-word words place d l ∙ f)

    go : (h : Bool) → is_header (get_or words place d) ≡ h → (held_from 0 (take (place + cond h (n + 1) 1) (places_of words)) ≡ held_from 0 (take place (places_of words))) × (place + cond h (n + 1) 1 ≤ length words)
    go true e =
        let k : place + (n + 1) ≡ place + 1 + n = omega arith in
        rw k (walk_past_lits words place d b l e ∙ past, lits_within words place d b l e)
    go false e = (past, omega arith)

-- the store of words and a mark
abbrev pub stored : List InLit → ℕ → Store
stored words mark = record { held = held_in words; given = length words; mark = mark }

-- what the words of a store keep
pub stored_kept : (store : Inside) (s : Store) → store_of store ≡ s → IsArena store → IsKept s
stored_kept store s e a =
    subst (λ (z : Store). IsKept z) e
    (record {
      below = ids_below 0 (length store.words.items) (places_of store.words.items) (omega (arith, length-places_of store.words.items));
      few = a.few;
      marked = a.marked;
      rises = rising-places 0 (places_of store.words.items);
      distinct = a.distinct;
    })

-- what is stored, seen in a store
pub stored_live : {m : ℕ} (words : List InLit) (s : Store) (id : ℕ) → stored words m ≡ s → is_live s.held id ≡ true → is_live (held_in words) id ≡ true
stored_live words s id e live = ap (λ (z : Store). is_live z.held id) e ∙ live

-- a walk goes on after a live clause
pub stored_walk_on : {m : ℕ} (words : List InLit) (s : Store) (id : ClauseId) → stored words m ≡ s → is_live s.held id.0 ≡ true
    → held_from 0 (take (id.0 + 1) (places_of words)) ≡ before s.held (Some id) ++ option_to_list (clause_at s.held id.0)
stored_walk_on words s id e live =
    walk_on id.0 (places_of words) (stored_live words s id.0 e live)
    ∙ ap (λ (z : Store). before z.held (Some id) ++ option_to_list (clause_at z.held id.0)) e

-- the clauses up to an id are those at the places up to it
pub stored_upto : {m : ℕ} (words : List InLit) (s : Store) (id : ℕ) → stored words m ≡ s → held_from 0 (take (id + 1) (places_of words)) ≡ filter (λ h. nat_le h.id id) s.held
stored_upto words s id e =
    let k : id + 1 ≡ suc id = omega arith in
    rw k (sym (upto-place 0 id id (places_of words) (omega arith)) ∙ ap (λ (z : Store). filter (λ h. nat_le h.id id) z.held) e)

-- no id is past the last word
pub stored_all : {m : ℕ} (words : List InLit) (s : Store) (id : ℕ) → stored words m ≡ s → length words ≤ id → s.held ≡ filter (λ h. nat_le h.id id) s.held
stored_all words s id e l =
    sym (ap (λ (z : Store). z.held) e)
    ∙ (sym (upto-all 0 id (places_of words) (omega (arith, length-places_of words))) ∙ ap (λ (z : Store). filter (λ h. nat_le h.id id) z.held) e)

-- literals that can stand are no headers
plain_word : (w : InLit) → ltb w.var.0 first_header ≡ true → is_header w ≡ false
plain_word w e = let l : w.var.0 < first_header = ltb-true _ _ e in lt-leb first_header w.var.0 l

-- so they begin no clause
held_from-plain : (n : ℕ) (lits : List InLit) → list_all (λ l. ltb l.var.0 first_header) lits ≡ true → held_from n (places_of lits) ≡ []
held_from-plain n [] e = refl
held_from-plain n (w ∷ lits) e =
    let p : (ltb w.var.0 first_header ≡ true) × (list_all (λ l. ltb l.var.0 first_header) lits ≡ true) = and_parts _ _ e in
    go (is_live_header w) (not_live w (plain_word w p.0)) (held_from-plain (suc n) lits p.1)
  where
    go : (b : Bool) → b ≡ false → held_from (suc n) (places_of lits) ≡ [] → held_from n (cond b (Some (record { learned = learned_in w; lits = take (length_in w) lits })) None ∷ places_of lits) ≡ []
    go true f i = absurd (true≢false f)
    go false f i = i

-- and are left of a clause
plain_blocks : (lits : List InLit) → list_all (λ l. ltb l.var.0 first_header) lits ≡ true → AreBlocks lits (length lits)
plain_blocks [] e = refl
plain_blocks (w ∷ lits) e =
    let p : (ltb w.var.0 first_header ≡ true) × (list_all (λ l. ltb l.var.0 first_header) lits ≡ true) = and_parts _ _ e in
    (plain_word w p.0, plain_blocks lits p.1)

-- words after whole clauses
blocks_append : (words more : List InLit) (left : ℕ) → AreBlocks words left → AreBlocks more 0 → AreBlocks (words ++ more) left
blocks_append [] more left b m = rw b m
blocks_append (w ∷ words) more zero b m = (b.0, blocks_append words more (length_in w) b.1 m)
blocks_append (w ∷ words) more (suc left) b m = (b.0, blocks_append words more left b.1 m)

-- hold their clauses after the others
held_from-append : (n : ℕ) (words more : List InLit) (left : ℕ) → AreBlocks words left → held_from n (places_of (words ++ more)) ≡ held_from n (places_of words) ++ held_from (n + length words) (places_of more)
held_from-append n [] more left b = let e : n + 0 ≡ n = omega arith in rw e refl
held_from-append n (w ∷ words) more zero b =
    let e : n + suc (length words) ≡ suc n + length words = omega arith in
    rw (e, take-append-le (length_in w) words more (blocks_within words (length_in w) b.1)) (first (stored_at w words) (held_from-append (suc n) words more (length_in w) b.1))
  where
    first : (o : Option Stored) → held_from (suc n) (places_of (words ++ more)) ≡ held_from (suc n) (places_of words) ++ held_from (suc n + length words) (places_of more)
        → held_from n (o ∷ places_of (words ++ more)) ≡ held_from n (o ∷ places_of words) ++ held_from (suc n + length words) (places_of more)
    first None i = i
    first (Some c) i = ap (λ z. seen n c ∷ z) i
held_from-append n (w ∷ words) more (suc left) b =
    let e : n + suc (length words) ≡ suc n + length words = omega arith in
    rw e (first (is_live_header w) (not_live w b.0) (held_from-append (suc n) words more left b.1))
  where
    first : (b : Bool) → b ≡ false → held_from (suc n) (places_of (words ++ more)) ≡ held_from (suc n) (places_of words) ++ held_from (suc n + length words) (places_of more)
        → held_from n (cond b (Some (record { learned = learned_in w; lits = take (length_in w) (words ++ more) })) None ∷ places_of (words ++ more))
        ≡ held_from n (cond b (Some (record { learned = learned_in w; lits = take (length_in w) words })) None ∷ places_of words) ++ held_from (suc n + length words) (places_of more)
    first true f i = absurd (true≢false f)
    first false f i = i

-- what a header tells
length_in-header_of : (count : ℕ) (learned : Bool) → length_in (header_of count learned) ≡ count
length_in-header_of count true = omega arith
length_in-header_of count false = omega arith

learned_in-header_of : (count : ℕ) (learned : Bool) → learned_in (header_of count learned) ≡ learned
learned_in-header_of count true = eq-eqb _ _ (omega arith)
learned_in-header_of count false = ne_eqb _ _ (λ e. absurd (omega arith))

is_header-header_of : (count : ℕ) (learned : Bool) → is_header (header_of count learned) ≡ true
is_header-header_of count learned = le-leb _ _ (omega arith)

-- the words of one clause hold it
held_from-one : (n : ℕ) (lits : List InLit) (learned : Bool) → list_all (λ l. ltb l.var.0 first_header) lits ≡ true → held_from n (places_of (header_of (length lits) learned ∷ lits)) ≡ held_as n learned lits ∷ []
held_from-one n lits learned e =
    let w : InLit = header_of (length lits) learned in
    go (is_live_header w) (and_from _ _ (is_header-header_of (length lits) learned) refl) (learned_in w) (learned_in-header_of (length lits) learned) (length_in w) (length_in-header_of (length lits) learned)
  where
    go : (b : Bool) → b ≡ true → (t : Bool) → t ≡ learned → (k : ℕ) → k ≡ length lits → held_from n (cond b (Some (record { learned = t; lits = take k lits })) None ∷ places_of lits) ≡ held_as n learned lits ∷ []
    go false f t g k h = absurd (false≢true f)
    go true f t g k h = ap₂ {C = List Held} (λ (l : List InLit) (xs : List Held). held_as n t l ∷ xs) (ap (λ z. take z lits) h ∙ take-length lits) (held_from-plain (suc n) lits e) ∙ ap (λ z. held_as n z lits ∷ []) g

-- one clause more
pub held_in-add : (words lits : List InLit) (learned : Bool) → AreBlocks words 0 → can_stand lits ≡ true → held_in (words ++ (header_of (length lits) learned ∷ lits)) ≡ held_in words ++ held_as (length words) learned lits ∷ []
held_in-add words lits learned b e =
    held_from-append 0 words (header_of (length lits) learned ∷ lits) 0 b
    ∙ ap (λ z. held_in words ++ z) (let k : 0 + length words ≡ length words = omega arith in rw k (held_from-one (length words) lits learned (and_parts _ _ e).1))

pub blocks-add : (words lits : List InLit) (learned : Bool) → AreBlocks words 0 → can_stand lits ≡ true → AreBlocks (words ++ (header_of (length lits) learned ∷ lits)) 0
blocks-add words lits learned b e =
    blocks_append words (header_of (length lits) learned ∷ lits) 0 b
    (is_header-header_of (length lits) learned, subst (λ (k : ℕ). AreBlocks lits k) (sym (length_in-header_of (length lits) learned)) (plain_blocks lits (and_parts _ _ e).1))

-- a header that says that its clause was dropped
abbrev pub as_dropped : InLit → InLit
as_dropped w = record { var = w.var; negative = true }

-- the words stay headers with their literals where a clause is dropped
pub blocks-set : (words : List InLit) (left place : ℕ) (d : InLit) → AreBlocks words left → AreBlocks (set words place (as_dropped (get_or words place d))) left
blocks-set [] left place d b = b
blocks-set (w ∷ words) zero zero d b = b
blocks-set (w ∷ words) (suc left) zero d b = b
blocks-set (w ∷ words) zero (suc place) d b = (b.0, blocks-set words (length_in w) place d b.1)
blocks-set (w ∷ words) (suc left) (suc place) d b = (b.0, blocks-set words left place d b.1)

stored_at-dropped : (w : InLit) (rest : List InLit) → stored_at (as_dropped w) rest ≡ None
stored_at-dropped w rest = go (is_header w)
  where
    go : (b : Bool) → cond {A = Option Stored} (b && false) (Some (record { learned = learned_in w; lits = take (length_in w) rest })) None ≡ None
    go true = refl
    go false = refl

-- and its place is empty then
pub places_of-set : (words : List InLit) (left place : ℕ) (d : InLit) → AreBlocks words left → place < length words → is_header (get_or words place d) ≡ true
    → places_of (set words place (as_dropped (get_or words place d))) ≡ set (places_of words) place None
places_of-set [] left place d b l h = absurd (omega arith)
places_of-set (w ∷ words) left zero d b l h = ap (λ z. z ∷ places_of words) (stored_at-dropped w words)
places_of-set (w ∷ words) zero (suc place) d b l h =
    ap₂ {C = List (Option Stored)} (λ (o : Option Stored) (z : List (Option Stored)). o ∷ z)
    (ap (λ z. cond (is_live_header w) (Some (record { learned = learned_in w; lits = z })) None) (take-set-le (length_in w) words place _ (outside (cases_lt place (length_in w)))))
    (places_of-set words (length_in w) place d b.1 (omega arith) h)
  where
    outside : (place < length_in w) ⊎ (length_in w ≤ place) → length_in w ≤ place
    outside (inl a) = absurd (true≢false (sym h ∙ no_header words (length_in w) place d b.1 a))
    outside (inr a) = a
places_of-set (w ∷ words) (suc left) (suc place) d b l h =
    ap₂ {C = List (Option Stored)} (λ (o : Option Stored) (z : List (Option Stored)). o ∷ z)
    (none (is_live_header w) (not_live w b.0))
    (places_of-set words left place d b.1 (omega arith) h)
  where
    none : (b : Bool) → b ≡ false → cond {A = Option Stored} b (Some (record { learned = learned_in w; lits = take (length_in w) (set words place (as_dropped (get_or words place d))) })) None ≡ cond b (Some (record { learned = learned_in w; lits = take (length_in w) words })) None
    none true f = absurd (true≢false f)
    none false f = refl

-- one header changed makes the store without its clause
pub held_in-set : (words : List InLit) (place : ℕ) (d : InLit) → AreBlocks words 0 → is_live (held_in words) place ≡ true → held_in (set words place (as_dropped (get_or words place d))) ≡ without place (held_in words)
held_in-set words place d b e =
    let l : place < length words = live_word words place e in
    ap (held_from 0) (places_of-set words 0 place d b l (live_is_header _ (live_header words place d e)))
    ∙ held_from-set 0 place place (places_of words) (omega arith) (within_places words place l)

-- at a live place stands a header
pub word_header : (words : List InLit) (place : ℕ) (d : InLit) → is_live (held_in words) place ≡ true → is_header (get_or words place d) ≡ true
word_header words place d e = live_is_header (get_or words place d) (live_header words place d e)

-- its literals are among the words
pub word_within : (words : List InLit) (place n : ℕ) (d : InLit) → AreBlocks words 0 → is_live (held_in words) place ≡ true → n ≡ length_in (get_or words place d) → place + 1 + n ≤ length words
word_within words place n d b e k = subst (λ (z : ℕ). place + 1 + z ≤ length words) (sym k) (lits_within words place d b (live_word words place e) (word_header words place d e))

-- a walk passes them
pub word_passed : (words : List InLit) (place n : ℕ) (d : InLit) → AreBlocks words 0 → is_live (held_in words) place ≡ true → n ≡ length_in (get_or words place d)
    → held_from 0 (take (place + 1 + n) (places_of words)) ≡ held_from 0 (take (place + 1) (places_of words))
word_passed words place n d b e k =
    subst (λ (z : ℕ). held_from 0 (take (place + 1 + z) (places_of words)) ≡ held_from 0 (take (place + 1) (places_of words))) (sym k)
    (walk_past_lits words place d b (live_word words place e) (word_header words place d e))

-- and they are those of the clause
pub word_lits : (words : List InLit) (place n : ℕ) (d : InLit) → is_live (held_in words) place ≡ true → n ≡ length_in (get_or words place d)
    → option_map (λ (h : Held). h.lits) (clause_at (held_in words) place) ≡ Some (take (place + 1 + n - (place + 1)) (drop (place + 1) words))
word_lits words place n d e k =
    let m : place + 1 + n - (place + 1) ≡ length_in (get_or words place d) = difference n (length_in (get_or words place d)) k in
    let s : place + 1 ≡ suc place = omega arith in
    rw (m, s) (ap (option_map (λ (h : Held). h.lits)) (clause_at-word words place d e))
  where
    difference : (x y : ℕ) → x ≡ y → place + 1 + x - (place + 1) ≡ y
    difference x y g = omega arith

-- as is whether it is learned
pub word_learned : {m : ℕ} (words : List InLit) (s : Store) (place : ℕ) (w : InLit) → stored words m ≡ s → is_live s.held place ≡ true → w ≡ get_or words place w
    → option_map (λ (h : Held). h.learned) (clause_at s.held place) ≡ Some (w.var.0 % 2 == 1)
word_learned words s place w e live i =
    sym (ap (λ (z : Store). option_map (λ (h : Held). h.learned) (clause_at z.held place)) e)
    ∙ (ap (option_map (λ (h : Held). h.learned)) (clause_at-word words place w (stored_live words s place e live)) ∙ ap (λ z. Some (learned_in z)) (sym i))

-- a live id of a store is the place of a word
pub stored_within : {m : ℕ} (words : List InLit) (s : Store) (place : ℕ) → stored words m ≡ s → is_live s.held place ≡ true → place < length words
stored_within words s place e live = live_word words place (stored_live words s place e live)

-- where the clause of a live id is dropped, the words stay as they are but for its header
pub dropped_blocks : (words : List InLit) (place : ℕ) (w : InLit) → AreBlocks words 0 → w ≡ get_or words place w → AreBlocks (set words place (as_dropped w)) 0
dropped_blocks words place w b i = subst (λ (z : InLit). AreBlocks (set words place (as_dropped z)) 0) (sym i) (blocks-set words 0 place w b)

pub dropped_held : {m : ℕ} (words : List InLit) (s : Store) (place : ℕ) (w : InLit) → stored words m ≡ s → AreBlocks words 0 → is_live s.held place ≡ true → w ≡ get_or words place w → held_in (set words place (as_dropped w)) ≡ without place (held_in words)
dropped_held words s place w e b live i =
    subst (λ (z : InLit). held_in (set words place (as_dropped z)) ≡ without place (held_in words)) (sym i) (held_in-set words place w b (stored_live words s place e live))

pub dropped_stored : {m : ℕ} (words : List InLit) (s : Store) (place : ℕ) (w : InLit) → stored words m ≡ s → AreBlocks words 0 → is_live s.held place ≡ true → w ≡ get_or words place w
    → stored (set words place (as_dropped w)) m ≡ record s { held = without place s.held }
dropped_stored {m = m} words s place w e b live i =
    ap₂ {C = Store} (λ (h : List Held) (g : ℕ). record { held = h; given = g; mark = m }) (dropped_held words s place w e b live i) (length-set words place (as_dropped w))
    ∙ ap (λ (z : Store). record z { held = without place z.held }) e

pub dropped_distinct : {m : ℕ} (words : List InLit) (s : Store) (place : ℕ) (w : InLit) → stored words m ≡ s → AreBlocks words 0 → is_live s.held place ≡ true → w ≡ get_or words place w
    → list_all (λ h. is_distinct h.lits) (held_in words) ≡ true → list_all (λ h. is_distinct h.lits) (held_in (set words place (as_dropped w))) ≡ true
dropped_distinct words s place w e b live i d =
    rw (dropped_held words s place w e b live i)
    (all_filter (λ (h : Held). is_distinct h.lits) (λ (h : Held). not (h.id == place)) (λ (h : Held). is_distinct h.lits) (λ h k q. k) (held_in words) d)

-- where a clause is added, none has a literal twice
pub add_distinct : (words lits : List InLit) (learned : Bool) → AreBlocks words 0 → can_stand lits ≡ true → list_all (λ h. is_distinct h.lits) (held_in words) ≡ true → is_distinct lits ≡ true
    → list_all (λ h. is_distinct h.lits) (held_in (words ++ (header_of (length lits) learned ∷ lits))) ≡ true
add_distinct words lits learned b c d e = rw (held_in-add words lits learned b c) (all_push (λ (h : Held). is_distinct h.lits) (held_in words) _ d e)
