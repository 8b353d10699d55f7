-- Which clauses a walk over an occurrence list finds.
use Rattle.std.proofs.Common.{leb, count_by, nat_eq, ◌≡◌, ℕ, ◌==◌, Bool, true, false, cond, not, ◌&&◌, List, [], ◌∷◌, ◌++◌, Option, Some, None, refl, sym, ap, ap₂, ◌∙◌, length, filter, option_map, option_to_list, is_some, eqb-true, eq-eqb, ne_eqb, ⊎_elim}
use Rattle.std.proofs.lemmas.Bool.{and_parts, or_left, or_right, or_cases, false≢true, false_from_ne_true}
use Rattle.std.proofs.lemmas.List.Elements.{filter_map-append}
use Rattle.std.specs.Bool.{beq}
use Rattle.std.specs.List.{list_any, cons_option}
use Rattle.sat_lits.specs.InLits.{same_lit, is_distinct}
use Rattle.indexed_store.specs.declared.short_id.ShortId.{ShortId}
use Rattle.sat_lits.specs.declared.literal.InLit.{InLit}
use Rattle.clause_store.specs.Store.{Store, Held, IsKept, clause_at, is_live}
use Rattle.state_laws.specs.HeldLaws.{id_found, all_found}
use Rattle.indexed_store.specs.Lists.{is_in}
use Rattle.indexed_store.specs.Occurrences.{clauses_at, holds, occurrences}
use Rattle.std.specs.HashSet.{contains}
use Rattle.var_elim.specs.declared.subsume.Subsumer.{Subsumer}
use Rattle.var_elim.specs.Marks.{code}
use Rattle.var_elim.specs.Marked.{IsMarked}
use Rattle.var_elim.proofs.Marking.{marked_within}
use Rattle.var_elim.specs.Subsumption.{is_within, subsumes, subsumes_at}

-- no clause is another than itself
pub subsumed_self : (hs : List Held) (i j : ℕ) (h : Held) → i ≡ j → clause_at hs i ≡ Some h → subsumes_at h (clause_at hs j) ≡ false
subsumed_self hs i j h k e = ap (subsumes_at h) (ap (clause_at hs) (sym k) ∙ e) ∙ ap (λ b. not b && (not h.learned && is_within h.lits h.lits)) (eq-eqb h.id h.id refl)

-- an id that is not live is that of no clause
pub subsumed_dead : (hs : List Held) (i : ℕ) (h : Held) → is_live hs i ≡ false → subsumes_at h (clause_at hs i) ≡ false
subsumed_dead hs i h e = go (clause_at hs i) e
  where
    go : (o : Option Held) → is_some o ≡ false → subsumes_at h o ≡ false
    go None q = refl
    go (Some k) q = absurd (false≢true (sym q))

-- what is tested of another clause
pub subsumed_other : (s : Store) (by : Subsumer) (j : ℕ) (h : Held) (learned : Bool) (outer : List InLit) → IsKept s → IsMarked s.held by → (by.id.0 ≡ j → ⊥) → clause_at s.held by.id.0 ≡ Some h
    → option_map (λ k. k.learned) (clause_at s.held j) ≡ Some learned → option_map (λ k. k.lits) (clause_at s.held j) ≡ Some outer
    → subsumes_at h (clause_at s.held j) ≡ (not learned && (leb by.len (length outer) && (count_by (λ l. contains nat_eq by.marks (code l)) outer == by.len)))
subsumed_other s by j h learned outer kept m n e a b = go (clause_at s.held j) refl a b
  where
    same_bool : (x y : Bool) → Some x ≡ Some y → x ≡ y
    same_bool x y q = cc

    same_lits : (x y : List InLit) → Some x ≡ Some y → x ≡ y
    same_lits x y q = cc

    same_held : (x y : Held) → Some x ≡ Some y → x ≡ y
    same_held x y q = cc

    go : (o : Option Held) → clause_at s.held j ≡ o → option_map (λ k. k.learned) o ≡ Some learned → option_map (λ k. k.lits) o ≡ Some outer
        → subsumes_at h o ≡ (not learned && (leb by.len (length outer) && (count_by (λ l. contains nat_eq by.marks (code l)) outer == by.len)))
    go None f p q = cc
    go (Some k) f p q =
        let c : m.clause ≡ h = same_held m.clause h (sym m.found ∙ e) in
        let inner : is_distinct m.clause.lits ≡ true = all_found (λ (x : Held). is_distinct x.lits) s.held by.id.0 m.clause m.found kept.distinct in
        let there : is_distinct outer ≡ true = ap is_distinct (sym (same_lits k.lits outer q)) ∙ all_found (λ (x : Held). is_distinct x.lits) s.held j k f kept.distinct in
        ap (λ z. not z && (not k.learned && is_within h.lits k.lits)) (ne_eqb h.id k.id (λ z. absurd (n (sym (id_found s.held by.id.0 h e) ∙ (z ∙ id_found s.held j k f)))))
        ∙ ap₂ {C = Bool} (λ z w. not z && w) (same_bool k.learned learned p)
        (ap₂ {C = Bool} (λ (x : Held) y. is_within x.lits y) (sym c) (same_lits k.lits outer q) ∙ sym (marked_within by.marks by.len m.clause.lits outer inner there m.marks m.long))

pub clauses_at-more : (hs : List Held) (ids : List ShortId) (id : ShortId) → clauses_at hs (ids ++ id ∷ []) ≡ clauses_at hs ids ++ option_to_list (clause_at hs id.0)
clauses_at-more hs ids id = filter_map-append (λ (i : ShortId). clause_at hs i.0) ids (id ∷ []) ∙ ap (λ z. clauses_at hs ids ++ z) (last (clause_at hs id.0))
  where
    last : (o : Option Held) → cons_option o [] ≡ option_to_list o
    last None = refl
    last (Some h) = refl

any_in : (v : ℕ) (l : InLit) (d : List InLit) → is_in v l ≡ true → list_any (same_lit l) d ≡ true → list_any (is_in v) d ≡ true
any_in v l [] i e = e
any_in v l (m ∷ d) i e = ⊎_elim (λ f. or_left (is_in v m) (list_any (is_in v) d) (here f)) (λ f. or_right (is_in v m) (list_any (is_in v) d) (any_in v l d i f)) (or_cases _ _ e)
  where
    here : same_lit l m ≡ true → is_in v m ≡ true
    here f = ap (λ n. n == v) (sym (eqb-true _ _ (and_parts (l.var.0 == m.var.0) (beq l.negative m.negative) f).0)) ∙ i

-- a clause with all literals of another holds each variable that the other holds
within_holds : (v : ℕ) (c d : List InLit) → list_any (is_in v) c ≡ true → is_within c d ≡ true → list_any (is_in v) d ≡ true
within_holds v [] d a e = absurd (false≢true a)
within_holds v (l ∷ c) d a e =
    let p : (list_any (same_lit l) d ≡ true) × (is_within c d ≡ true) = and_parts _ _ e in
    ⊎_elim (λ f. any_in v l d f p.0) (λ f. within_holds v c d f p.1) (or_cases _ _ a)

filter_within : {X : Type 0} (p q : X → Bool) → ((x : X) → p x ≡ true → q x ≡ true) → (xs : List X) → filter p (filter q xs) ≡ filter p xs
filter_within p q h [] = refl
filter_within p q h (x ∷ xs) = go (q x) refl (filter_within p q h xs)
  where
    go : (b : Bool) → q x ≡ b → filter p (filter q xs) ≡ filter p xs → filter p (cond b (x ∷ filter q xs) (filter q xs)) ≡ cond (p x) (x ∷ filter p xs) (filter p xs)
    go true e r = ap (λ z. cond (p x) (x ∷ z) z) r
    go false e r = r ∙ sym (ap (λ b. cond b (x ∷ filter p xs) (filter p xs)) (false_from_ne_true (p x) (λ t. absurd (false≢true (sym e ∙ h x t)))))

-- the list of one of its variables has every clause that a clause subsumes
pub found_all : (hs : List Held) (h : Held) (v : ℕ) (ids : List ShortId) → list_any (is_in v) h.lits ≡ true → clauses_at hs ids ≡ occurrences v hs → filter (subsumes h) (clauses_at hs ids) ≡ filter (subsumes h) hs
found_all hs h v ids a e =
    ap (filter (subsumes h)) e
    ∙ filter_within (subsumes h) (holds v)
    (λ k s. within_holds v h.lits k.lits a (and_parts (not k.learned) (is_within h.lits k.lits) (and_parts (not (h.id == k.id)) (not k.learned && is_within h.lits k.lits) s).1).1) hs

-- the literals of the clause of an id
pub same_lits : (hs : List Held) (i : ℕ) (h : Held) (lits : List InLit) → clause_at hs i ≡ Some h → option_map (λ k. k.lits) (clause_at hs i) ≡ Some lits → h.lits ≡ lits
same_lits hs i h lits e f = same h.lits lits (sym (ap (option_map (λ (k : Held). k.lits)) e) ∙ f)
  where
    same : (x y : List InLit) → Some x ≡ Some y → x ≡ y
    same x y q = cc

-- a clause that is not subsumed is not found
pub none_at : (h : Held) (o : Option Held) → subsumes_at h o ≡ false → filter (subsumes h) (cons_option o []) ≡ []
none_at h None e = refl
none_at h (Some k) e = ap (λ b. cond b (k ∷ []) []) e

-- the same of a clause whose literals are at hand
pub subsumed_lits : (s : Store) (i j : ℕ) (h : Held) (lits outer : List InLit) (learned : Bool) → (i ≡ j → ⊥) → clause_at s.held i ≡ Some h → option_map (λ k. k.lits) (clause_at s.held i) ≡ Some lits
    → option_map (λ k. k.learned) (clause_at s.held j) ≡ Some learned → option_map (λ k. k.lits) (clause_at s.held j) ≡ Some outer → subsumes_at h (clause_at s.held j) ≡ (not learned && is_within lits outer)
subsumed_lits s i j h lits outer learned n e f a b = go (clause_at s.held j) refl a b
  where
    same_bool : (x y : Bool) → Some x ≡ Some y → x ≡ y
    same_bool x y q = cc

    go : (o : Option Held) → clause_at s.held j ≡ o → option_map (λ k. k.learned) o ≡ Some learned → option_map (λ k. k.lits) o ≡ Some outer → subsumes_at h o ≡ (not learned && is_within lits outer)
    go None g p q = cc
    go (Some k) g p q =
        ap (λ z. not z && (not k.learned && is_within h.lits k.lits)) (ne_eqb h.id k.id (λ z. absurd (n (sym (id_found s.held i h e) ∙ (z ∙ id_found s.held j k g)))))
        ∙ ap₂ {C = Bool} (λ z w. not z && w) (same_bool k.learned learned p) (ap₂ {C = Bool} is_within (same_lits s.held i h lits e f) (same_lits s.held j k outer g (ap (option_map (λ (x : Held). x.lits)) g ∙ q)))
