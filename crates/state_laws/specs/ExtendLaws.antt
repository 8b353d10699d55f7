-- A state stands when an item is taken with clauses that stand for it, and when own variables are made.
use Rattle.std.proofs.Common.{◌≡◌, ◌≢◌, ◌⊎◌, ℕ, zero, suc, ◌+◌, ◌<◌, ◌≤◌, ◌==◌, Bool, true, false, cond, ltb, ◌&&◌, ◌||◌, List, [], ◌∷◌, ◌++◌, refl, sym, ap, subst, ◌∙◌, ⊎_elim, arith, length, get_or, map, replicate, Option, Some, None, append-nil, append_assoc, eqb-true, ltb-true, lt-ltb, le-ltb, eq-eqb, ne_eqb}
use Rattle.std.proofs.Math.Path.{fun_ext}
use Rattle.std.proofs.lemmas.Bool.{and_parts, and_from, cases_order, cond-true, cond-false, eqb-false, ltb-false}
use Rattle.std.proofs.lemmas.List.{map-append, length-map, length-append, length_push, get_or_append_left, get_or_push, get_or_past, replicate-append-replicate}
use Rattle.std.proofs.lemmas.List.Folds.{list_all-append}
use Rattle.std.specs.List.{list_all}
use Rattle.sat_lits.specs.Truth.{clauses_value, with_value}
use Rattle.sat_lits.specs.ListLaws.{all_mono, all_agree, all_push}
use Rattle.sat_lits.specs.ClauseLaws.{clauses_value-append}
use Rattle.sat_lits.specs.Meaning.{value_of, satisfies, satisfies_clause}
use Rattle.sat_lits.specs.Formulas.{names_known}
use Rattle.sat_lits.specs.Laws.{names_known_more}
use Rattle.sat_lits.specs.FollowLaws.{satisfies_agree}
use Rattle.sat_lits.specs.declared.literal.OwnLit.{OwnLit}
use Rattle.sat_lits.specs.declared.formula.Item.{Item}
use Rattle.sat_lits.specs.declared.formula.Item.TheVariants.{Clause}
use Rattle.sat_lits.specs.declared.shared.Shared.{Shared}
use Rattle.rebuild_stack.specs.Values.{own_value}
use Rattle.rebuild_stack.specs.Entries.{rebuild, times_named}
use Rattle.rebuild_stack.specs.PutIn.{is_clean}
use Rattle.rebuild_stack.specs.CommonLaws.{each_mono, cond_at}
use Rattle.rebuild_stack.specs.OrderLaws.{with_true, ordered_mono}
use Rattle.state_laws.specs.declared.definition.Definition.{Definition}
use Rattle.state_laws.specs.State.{State, is_active, outers_from, outer_count, outer_part, is_as_defined, are_as_defined, is_over_earlier, are_over_earlier, satisfies_entries}
use Rattle.state_laws.specs.Stands.{Accords, IsPlaced, Placed, IsInRange, Stands}
use Rattle.state_laws.specs.Moves.{taking, extended, grown}
use Rattle.state_laws.specs.Conditions.{StandsFor, Defines}
use Rattle.state_laws.specs.PlaceLaws.{one_if}

before_taking : (s : State) (item : Item) (cs : List (List OwnLit)) (w : ℕ → Bool) → Accords (taking item cs s) w → (Accords s w) × (satisfies (outer_part s.definitions w) item ≡ true)
before_taking s item cs w a =
    let p : (list_all (satisfies (outer_part s.definitions w)) s.items ≡ true) × ((satisfies (outer_part s.definitions w) item && true) ≡ true) =
    and_parts _ _ (sym (list_all-append (satisfies (outer_part s.definitions w)) s.items (item ∷ [])) ∙ a.items) in
    let q : (satisfies (outer_part s.definitions w) item ≡ true) × (true ≡ true) = and_parts _ _ p.1 in
    (record { defined = a.defined; items = p.0; entries = a.entries }, q.0)

-- an item is taken with clauses that stand for it
pub taking-Stands : (item : Item) (cs : List (List OwnLit)) (s : State) → StandsFor s item cs → Stands s → Stands (taking item cs s)
taking-Stands item cs s f h =
    record {
      sound = record {
        hard = λ w a. clauses_value-append (own_value w) s.hard cs ∙ and_from _ _ (h.sound.hard w (before_taking s item cs w a).0) (f.follow w (before_taking s item cs w a).0 (before_taking s item cs w a).1);
        learned = λ w a. h.sound.learned w (before_taking s item cs w a).0;
        stack = λ w a. h.sound.stack w (before_taking s item cs w a).0;
        okay = λ w a. h.sound.okay w (before_taking s item cs w a).0;
      };
      complete = record {
        rebuilt = λ o w e.
            let p : (clauses_value (own_value w) s.hard ≡ true) × (clauses_value (own_value w) cs ≡ true) = and_parts _ _ (sym (clauses_value-append (own_value w) s.hard cs) ∙ e) in
            record {
              whole = length-map (outers_from 0 s.definitions) (rebuild s.stack w);
              holds = all_push (satisfies (outer_part s.definitions (rebuild s.stack w))) s.items item (h.complete.rebuilt o w p.0).holds (f.suffice w p.0 p.1);
            };
      };
      places = record {
        lengths = h.places.lengths;
        placed = record {
          hard = list_all-append (list_all (λ (l : OwnLit). is_active s l.var.0)) s.hard cs ∙ and_from _ _ h.places.placed.hard f.active;
          learned = h.places.placed.learned;
          one_place = h.places.placed.one_place;
          in_order = h.places.placed.in_order;
        };
      };
      ranges = record { items = all_push (names_known (outer_count s.definitions)) s.items item h.ranges.items f.there; entries = h.ranges.entries; definitions = h.ranges.definitions };
      clean = record { hard = list_all-append is_clean s.hard cs ∙ and_from _ _ h.clean.hard f.clean; learned = h.clean.learned; stack = h.clean.stack };
    }

shift : (n k : ℕ) → suc n + k ≡ n + suc k
shift n k = omega arith

-- the outer variables of two parts of the definitions
pub outers_from-append : (n : ℕ) (a b : List (Option Definition)) → outers_from n (a ++ b) ≡ outers_from n a ++ outers_from (n + length a) b
outers_from-append n [] b = ap (λ k. outers_from k b) (let e : n ≡ n + 0 = omega arith in e)
outers_from-append n (None ∷ a) b = ap (λ z. n ∷ z) (outers_from-append (suc n) a b ∙ ap (λ k. outers_from (suc n) a ++ outers_from k b) (shift n (length a)))
outers_from-append n (Some d ∷ a) b = outers_from-append (suc n) a b ∙ ap (λ k. outers_from (suc n) a ++ outers_from k b) (shift n (length a))

and_assoc : (a b c : Bool) → (a && (b && c)) ≡ ((a && b) && c)
and_assoc true b c = refl
and_assoc false b c = refl

are_as_defined-append : (w : ℕ → Bool) (n : ℕ) (a b : List (Option Definition)) → are_as_defined w n (a ++ b) ≡ (are_as_defined w n a && are_as_defined w (n + length a) b)
are_as_defined-append w n [] b = ap (λ k. are_as_defined w k b) (let e : n ≡ n + 0 = omega arith in e)
are_as_defined-append w n (d ∷ a) b =
    ap (λ z. is_as_defined w n d && z) (are_as_defined-append w (suc n) a b ∙ ap (λ k. are_as_defined w (suc n) a && are_as_defined w k b) (shift n (length a)))
    ∙ and_assoc (is_as_defined w n d) (are_as_defined w (suc n) a) (are_as_defined w (n + suc (length a)) b)

are_over_earlier-append : (n : ℕ) (a b : List (Option Definition)) → are_over_earlier n (a ++ b) ≡ (are_over_earlier n a && are_over_earlier (n + length a) b)
are_over_earlier-append n [] b = ap (λ k. are_over_earlier k b) (let e : n ≡ n + 0 = omega arith in e)
are_over_earlier-append n (d ∷ a) b =
    ap (λ z. is_over_earlier n d && z) (are_over_earlier-append (suc n) a b ∙ ap (λ k. are_over_earlier (suc n) a && are_over_earlier k b) (shift n (length a)))
    ∙ and_assoc (is_over_earlier n d) (are_over_earlier (suc n) a) (are_over_earlier (n + suc (length a)) b)

part_longer : (ds : List (Option Definition)) (d : Option Definition) (w : ℕ → Bool) → outer_part (ds ++ d ∷ []) w ≡ outer_part ds w ++ map w (outers_from (0 + length ds) (d ∷ []))
part_longer ds d w = ap (map w) (outers_from-append 0 ds (d ∷ [])) ∙ map-append w (outers_from 0 ds) (outers_from (0 + length ds) (d ∷ []))

-- one more own variable changes nothing for an item over the outer variables that are there
pub item_same : (ds : List (Option Definition)) (d : Option Definition) (w : ℕ → Bool) (item : Item) → names_known (outer_count ds) item ≡ true → satisfies (outer_part (ds ++ d ∷ []) w) item ≡ satisfies (outer_part ds w) item
item_same ds d w item e =
    satisfies_agree (outer_part (ds ++ d ∷ []) w) (outer_part ds w) (outer_count ds)
    (λ v l. ap (λ (z : List Bool). value_of z v) (part_longer ds d w)
    ∙ get_or_append_left (outer_part ds w) (map w (outers_from (0 + length ds) (d ∷ []))) false v.0 (subst (λ n. v.0 < n) (sym (length-map (outers_from 0 ds) w)) (ltb-true _ _ l)))
    item e

items_same : (s : State) (d : Option Definition) (w : ℕ → Bool) → list_all (names_known (outer_count s.definitions)) s.items ≡ true
    → list_all (satisfies (outer_part (s.definitions ++ d ∷ []) w)) s.items ≡ list_all (satisfies (outer_part s.definitions w)) s.items
items_same s d w h = all_agree (names_known (outer_count s.definitions)) (satisfies (outer_part (s.definitions ++ d ∷ []) w)) (satisfies (outer_part s.definitions w)) (item_same s.definitions d w) s.items h

entries_same : (s : State) (d : Option Definition) (w : ℕ → Bool) → list_all (λ (e : Shared). names_known (outer_count s.definitions) (Clause e.clause)) s.entries ≡ true
    → satisfies_entries (outer_part (s.definitions ++ d ∷ []) w) s.entries ≡ satisfies_entries (outer_part s.definitions w) s.entries
entries_same s d w h =
    all_agree (λ (e : Shared). names_known (outer_count s.definitions) (Clause e.clause)) (λ (e : Shared). satisfies_clause (outer_part (s.definitions ++ d ∷ []) w) e.clause) (λ (e : Shared). satisfies_clause (outer_part s.definitions w) e.clause)
    (λ e k. item_same s.definitions d w (Clause e.clause) k) s.entries h

-- what accords with a state after an own variable is made accorded with it before, and the variable is as defined
pub before_extended : (d : Option Definition) (cs : List (List OwnLit)) (s : State) (w : ℕ → Bool) → IsInRange s → Accords (extended d cs s) w → (Accords s w) × (is_as_defined w (length s.definitions) d ≡ true)
before_extended d cs s w r a =
    let p : (are_as_defined w 0 s.definitions ≡ true) × ((is_as_defined w (0 + length s.definitions) d && true) ≡ true) = and_parts _ _ (sym (are_as_defined-append w 0 s.definitions (d ∷ [])) ∙ a.defined) in
    let q : (is_as_defined w (0 + length s.definitions) d ≡ true) × (true ≡ true) = and_parts _ _ p.1 in (
      record { defined = p.0; items = sym (items_same s d w r.items) ∙ a.items; entries = sym (entries_same s d w r.entries) ∙ a.entries },
      subst (λ k. is_as_defined w k d ≡ true) (let e : 0 + length s.definitions ≡ length s.definitions = omega arith in e) q.0,
    )

active_more : (xs : List Bool) (k : ℕ) → with_value (λ n. get_or xs n false) (length xs) true k ≡ get_or (xs ++ true ∷ []) k false
active_more xs k = go (cases_order k (length xs))
  where
    go : (k ≡ length xs) ⊎ ((k < length xs) ⊎ (length xs < k)) → with_value (λ n. get_or xs n false) (length xs) true k ≡ get_or (xs ++ true ∷ []) k false
    go o =
        ⊎_elim
        (λ e. cond-true (k == length xs) true (get_or xs k false) (eq-eqb _ _ e) ∙ sym (get_or_push xs true false k (sym e)))
        (λ p. ⊎_elim
        (λ l. cond-false (k == length xs) true (get_or xs k false) (ne_eqb _ _ (λ e. omega arith)) ∙ sym (get_or_append_left xs (true ∷ []) false k l))
        (λ l. cond-false (k == length xs) true (get_or xs k false) (ne_eqb _ _ (λ e. omega arith))
        ∙ (get_or_past xs k false (omega arith) ∙ sym (get_or_past (xs ++ true ∷ []) k false (let a : length (xs ++ true ∷ []) ≡ length xs + 1 = length_push xs true in omega arith))))
        p)
        o

count_step : (b a p q : Bool) (t : ℕ) → (b ≡ true → p ≡ false) → (b ≡ true → q ≡ true) → (b ≡ false → p ≡ q) → t + cond {A = ℕ} a 1 0 ≡ cond {A = ℕ} p 1 0 → t + cond {A = ℕ} (cond b true a) 1 0 ≡ cond {A = ℕ} q 1 0
count_step true a p q t x y z e =
    let f : cond {A = ℕ} p 1 0 ≡ 0 = cond_at {A = ℕ} p 1 0 (x refl) in
    let g : cond {A = ℕ} q 1 0 ≡ 1 = one_if q (y refl) in
    omega arith
count_step false a p q t x y z e = e ∙ ap (λ (b : Bool). cond {A = ℕ} b 1 0) (z refl)

extended-Placed : (d : Option Definition) (cs : List (List OwnLit)) (s : State) → Defines s d cs → IsPlaced s
    → Placed (with_value (is_active s) (length s.definitions) true) (length (s.definitions ++ d ∷ [])) (s.hard ++ cs) s.learned s.stack
extended-Placed d cs s f h =
    record {
      hard = list_all-append (list_all (λ (l : OwnLit). with_value (is_active s) (length s.definitions) true l.var.0)) s.hard cs
          ∙ and_from _ _ (each_mono (λ (l : OwnLit). is_active s l.var.0) (λ (l : OwnLit). with_value (is_active s) (length s.definitions) true l.var.0) (λ l. with_true (is_active s) (length s.definitions) l.var.0) s.hard h.placed.hard)
          (each_mono (λ (l : OwnLit). (l.var.0 == length s.definitions) || is_active s l.var.0) (λ (l : OwnLit). with_value (is_active s) (length s.definitions) true l.var.0) (λ l. or_cond (l.var.0 == length s.definitions) (is_active s l.var.0)) cs f.active);
      learned = each_mono (λ (l : OwnLit). is_active s l.var.0) (λ (l : OwnLit). with_value (is_active s) (length s.definitions) true l.var.0) (λ l. with_true (is_active s) (length s.definitions) l.var.0) s.learned h.placed.learned;
      one_place = λ k. count_step (k == length s.definitions) (is_active s k) (ltb k (length s.definitions)) (ltb k (length (s.definitions ++ d ∷ []))) (times_named k s.stack) (at_end k) (at_new k) (elsewhere k) (h.placed.one_place k);
      in_order = ordered_mono (is_active s) (with_value (is_active s) (length s.definitions) true) (with_true (is_active s) (length s.definitions)) s.stack h.placed.in_order;
    }
  where
    or_cond : (b a : Bool) → (b || a) ≡ true → cond b true a ≡ true
    or_cond true a e = refl
    or_cond false a e = e

    long : length (s.definitions ++ d ∷ []) ≡ length s.definitions + 1
    long = length_push s.definitions d

    at_end : (k : ℕ) → (k == length s.definitions) ≡ true → ltb k (length s.definitions) ≡ false
    at_end k e = let a : k ≡ length s.definitions = eqb-true _ _ e in le-ltb _ _ (let b : length s.definitions ≤ k = omega arith in b)

    at_new : (k : ℕ) → (k == length s.definitions) ≡ true → ltb k (length (s.definitions ++ d ∷ [])) ≡ true
    at_new k e =
        let a : k ≡ length s.definitions = eqb-true _ _ e in
        let l : length (s.definitions ++ d ∷ []) ≡ length s.definitions + 1 = long in
        lt-ltb _ _ (let b : k < length (s.definitions ++ d ∷ []) = omega arith in b)

    elsewhere : (k : ℕ) → (k == length s.definitions) ≡ false → ltb k (length s.definitions) ≡ ltb k (length (s.definitions ++ d ∷ []))
    elsewhere k e = go (ltb k (length s.definitions)) refl
      where
        go : (b : Bool) → ltb k (length s.definitions) ≡ b → b ≡ ltb k (length (s.definitions ++ d ∷ []))
        go true f =
            let a : k < length s.definitions = ltb-true _ _ f in
            let l : length (s.definitions ++ d ∷ []) ≡ length s.definitions + 1 = long in
            sym (lt-ltb _ _ (let b : k < length (s.definitions ++ d ∷ []) = omega arith in b))
        go false f =
            let a : length s.definitions ≤ k = ltb-false _ _ f in
            let n : k ≢ length s.definitions = eqb-false _ _ e in
            let l : length (s.definitions ++ d ∷ []) ≡ length s.definitions + 1 = long in
            sym (le-ltb _ _ (let b : length (s.definitions ++ d ∷ []) ≤ k = omega arith in b))

extended-IsInRange : (d : Option Definition) (cs : List (List OwnLit)) (s : State) → Defines s d cs → IsInRange s → IsInRange (extended d cs s)
extended-IsInRange d cs s f r =
    record {
      items = all_mono (names_known (outer_count s.definitions)) (names_known (outer_count (s.definitions ++ d ∷ []))) more s.items r.items;
      entries = all_mono (λ (e : Shared). names_known (outer_count s.definitions) (Clause e.clause)) (λ (e : Shared). names_known (outer_count (s.definitions ++ d ∷ [])) (Clause e.clause)) (λ e. more (Clause e.clause)) s.entries r.entries;
      definitions = are_over_earlier-append 0 s.definitions (d ∷ []) ∙ and_from _ _ r.definitions (and_from _ _ (subst (λ n. is_over_earlier n d ≡ true) (let e : length s.definitions ≡ 0 + length s.definitions = omega arith in e) f.there) refl);
    }
  where
    long : outer_count (s.definitions ++ d ∷ []) ≡ outer_count s.definitions + length (outers_from (0 + length s.definitions) (d ∷ []))
    long = ap length (outers_from-append 0 s.definitions (d ∷ [])) ∙ length-append (outers_from 0 s.definitions) (outers_from (0 + length s.definitions) (d ∷ []))

    more : (item : Item) → names_known (outer_count s.definitions) item ≡ true → names_known (outer_count (s.definitions ++ d ∷ [])) item ≡ true
    more item e = names_known_more (outer_count s.definitions) (outer_count (s.definitions ++ d ∷ [])) item (let l : outer_count (s.definitions ++ d ∷ []) ≡ outer_count s.definitions + length (outers_from (0 + length s.definitions) (d ∷ [])) = long in omega arith) e

-- an own variable is made, with clauses that hold where it is as defined
pub extended-Stands : (d : Option Definition) (cs : List (List OwnLit)) (s : State) → Defines s d cs → Stands s → Stands (extended d cs s)
extended-Stands d cs s f h =
    record {
      sound = record {
        hard = λ w a. clauses_value-append (own_value w) s.hard cs ∙ and_from _ _ (h.sound.hard w (before_extended d cs s w h.ranges a).0) (f.follow w (before_extended d cs s w h.ranges a).1);
        learned = λ w a. h.sound.learned w (before_extended d cs s w h.ranges a).0;
        stack = λ w a. h.sound.stack w (before_extended d cs s w h.ranges a).0;
        okay = λ w a. h.sound.okay w (before_extended d cs s w h.ranges a).0;
      };
      complete = record {
        rebuilt = λ o w e.
            let p : (clauses_value (own_value w) s.hard ≡ true) × (clauses_value (own_value w) cs ≡ true) = and_parts _ _ (sym (clauses_value-append (own_value w) s.hard cs) ∙ e) in
            record {
              whole = length-map (outers_from 0 (s.definitions ++ d ∷ [])) (rebuild s.stack w);
              holds = items_same s d (rebuild s.stack w) h.ranges.items ∙ (h.complete.rebuilt o w p.0).holds;
            };
      };
      places = record {
        lengths = length_push s.active true ∙ (ap (λ n. n + 1) h.places.lengths ∙ sym (length_push s.definitions d));
        placed = subst (λ (active : ℕ → Bool). Placed active (length (s.definitions ++ d ∷ [])) (s.hard ++ cs) s.learned s.stack)
            (ap {B = ℕ → Bool} (λ (n : ℕ). with_value (is_active s) n true) (sym h.places.lengths) ∙ fun_ext (active_more s.active)) (extended-Placed d cs s f h.places);
      };
      ranges = extended-IsInRange d cs s f h.ranges;
      clean = record { hard = list_all-append is_clean s.hard cs ∙ and_from _ _ h.clean.hard f.clean; learned = h.clean.learned; stack = h.clean.stack };
    }

-- no variable more is the same state
pub grown_none : (s : State) → grown 0 s ≡ s
grown_none s = rw (append-nil s.definitions, append-nil s.active) refl

one_behind : {X : Type 0} (x : X) (xs : List X) (n : ℕ) → xs ++ replicate (n + 1) x ≡ (xs ++ replicate n x) ++ x ∷ []
one_behind x xs n = ap (λ z. xs ++ z) (sym (replicate-append-replicate n 1 x)) ∙ sym (append_assoc xs (replicate n x) (x ∷ []))

-- outer variables may be made one after another
pub grown_more : (n : ℕ) (s : State) → grown (n + 1) s ≡ extended None [] (grown n s)
grown_more n s = mix (one_behind None s.definitions n) (sym (append-nil s.hard)) (one_behind true s.active n)
  where
    mix : {d : List (Option Definition)} {c : List (List OwnLit)} {a : List Bool} → s.definitions ++ replicate (n + 1) None ≡ d → s.hard ≡ c → s.active ++ replicate (n + 1) true ≡ a
        → grown (n + 1) s ≡ record s { definitions = d; hard = c; active = a }
    mix p q r = rw (p, r, ← q) refl

-- outer variables are made
pub grown-Stands : (n : ℕ) (s : State) → Stands s → Stands (grown n s)
grown-Stands zero s h = subst (λ (t : State). Stands t) (sym (grown_none s)) h
grown-Stands (suc n) s h =
    subst (λ (t : State). Stands t) (sym (ap (λ (k : ℕ). grown k s) (let e : suc n ≡ n + 1 = omega arith in e) ∙ grown_more n s))
    (extended-Stands None [] (grown n s) (record { there = refl; active = refl; clean = refl; follow = λ w m. refl }) (grown-Stands n s h))
