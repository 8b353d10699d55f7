-- How many clauses were dropped.
use Rattle.std.proofs.Common.{◌^◌, ltb, ltb-true, ◌≡◌, ℕ, suc, ◌+◌, ◌<◌, ◌≤◌, ◌==◌, Bool, true, false, cond, not, List, [], ◌∷◌, ◌++◌, Option, Some, None, refl, sym, ap, subst, ◌∙◌, arith, length, take, get_or, filter, option_to_list, length-append}
use Rattle.std.proofs.lemmas.Bool.{and_from, or_right, false≢true}
use Rattle.std.proofs.lemmas.Grind.{take_at_read}
use Rattle.std.proofs.lemmas.List.Elements.{filter-append}
use Rattle.std.proofs.lemmas.List.Folds.{list_all-append}
use Rattle.std.specs.List.{list_all, cons_option}
use Rattle.indexed_store.specs.declared.short_id.ShortId.{ShortId}
use Rattle.std.specs.Prelude.{if◌then◌else◌}
use Rattle.state_laws.specs.Kernel.{Kernel}
use Rattle.clause_store.specs.Store.{Store, Held, IsKept, is_live, clause_at, without}
use Rattle.state_laws.specs.HeldLaws.{found, all_found, id_found}
use Rattle.indexed_store.specs.Occurrences.{clauses_at}
use Rattle.var_elim.specs.Subsumption.{subsumes, subsumes_at}
use Rattle.var_elim.specs.Dropping.{without_each, AreNeedless, Drops, subsumes_none, subsumes_none_at}
use Rattle.var_elim.proofs.Subsuming.{clauses_at-more}

-- nothing was dropped
pub drops_zero : (olds : List Held) → Drops 0 olds olds
drops_zero olds = record { ids = []; count = refl; left = refl; needless = tt }

pub drops_none : (n : ℕ) (olds news : List Held) → Drops n olds news → n ≡ 0 → news ≡ olds
drops_none n olds news d e = d.left ∙ go d.ids (d.count ∙ e)
  where
    go : (ids : List ℕ) → length ids ≡ 0 → without_each olds ids ≡ olds
    go [] f = refl
    go (i ∷ ids) f = absurd (omega arith)

-- more clauses were dropped
pub drops_more : (n m : ℕ) (olds mids news : List Held) → Drops n olds mids → Drops m mids news → Drops (n + m) olds news
drops_more n m olds mids news d e =
    record {
      ids = d.ids ++ e.ids;
      count = length-append d.ids e.ids ∙ (ap (λ k. k + length e.ids) d.count ∙ ap (λ k. n + k) e.count);
      left = e.left ∙ (ap (λ z. without_each z e.ids) d.left ∙ sym (each d.ids e.ids olds));
      needless = both d.ids e.ids olds d.needless (subst (λ z. AreNeedless z e.ids) d.left e.needless);
    }
  where
    each : (is js : List ℕ) (hs : List Held) → without_each hs (is ++ js) ≡ without_each (without_each hs is) js
    each [] js hs = refl
    each (i ∷ is) js hs = each is js (without i hs)

    both : (is js : List ℕ) (hs : List Held) → AreNeedless hs is → AreNeedless (without_each hs is) js → AreNeedless hs (is ++ js)
    both [] js hs a b = b
    both (i ∷ is) js hs a b = (a.0, both is js (without i hs) a.1 b)

-- no more clauses are dropped than there were
pub drops_bound : (n : ℕ) (olds news : List Held) → Drops n olds news → n ≤ length olds
drops_bound n olds news d = subst (λ k. k ≤ length olds) d.count (go d.ids olds d.needless)
  where
    fewer : (hs : List Held) (i : ℕ) → length (without i hs) ≤ length hs
    fewer [] i = omega arith
    fewer (h ∷ hs) i = step (h.id == i) (fewer hs i)
      where
        step : (b : Bool) → length (without i hs) ≤ length hs → length (cond (not b) (h ∷ without i hs) (without i hs)) ≤ suc (length hs)
        step true l = omega arith
        step false l = omega arith

    shorter : (hs : List Held) (i : ℕ) (k : Held) → clause_at hs i ≡ Some k → length (without i hs) < length hs
    shorter [] i k e = cc
    shorter (h ∷ hs) i k e = step (h.id == i) refl (fewer hs i) (λ q. shorter hs i k q) e
      where
        step : (b : Bool) → (h.id == i) ≡ b → length (without i hs) ≤ length hs → (clause_at hs i ≡ Some k → length (without i hs) < length hs) → cond b (Some h) (clause_at hs i) ≡ Some k
            → length (cond (not b) (h ∷ without i hs) (without i hs)) < suc (length hs)
        step true f l r q = omega arith
        step false f l r q = let m : length (without i hs) < length hs = r q in omega arith

    there : (h : Held) (o : Option Held) → subsumes_at h o ≡ true → (k : Held) × (o ≡ Some k)
    there h None e = absurd (false≢true e)
    there h (Some k) e = (k, refl)

    go : (ids : List ℕ) (hs : List Held) → AreNeedless hs ids → length ids ≤ length hs
    go [] hs a = omega arith
    go (i ∷ ids) hs a =
        let t : (k : Held) × (clause_at hs i ≡ Some k) = there a.0.other.clause (clause_at hs i) a.0.subsumed in
        let l : length (without i hs) < length hs = shorter hs i t.0 t.1 in
        let m : length ids ≤ length (without i hs) = go ids (without i hs) a.1 in
        omega arith

-- there are no more clauses than ids that name them
pub named_bound : (hs : List Held) (ids : List ShortId) → length (clauses_at hs ids) ≤ length ids
named_bound hs [] = omega arith
named_bound hs (i ∷ ids) = go (clause_at hs i.0) (named_bound hs ids)
  where
    go : (o : Option Held) → length (clauses_at hs ids) ≤ length ids → length (cons_option o (clauses_at hs ids)) ≤ suc (length ids)
    go None l = omega arith
    go (Some h) l = omega arith

-- one id more was tried
pub none_more : (hs : List Held) (h : Held) (ids : List ShortId) (k : ℕ) (d : ShortId) → k < length ids → filter (subsumes h) (clauses_at hs (take k ids)) ≡ [] → filter (subsumes h) (clauses_at hs (get_or ids k d ∷ [])) ≡ []
    → filter (subsumes h) (clauses_at hs (take (k + 1) ids)) ≡ []
none_more hs h ids k d l a b =
    ap (λ z. filter (subsumes h) (clauses_at hs z)) ((take_at_read ids k d l).1)
    ∙ (ap (filter (subsumes h)) (clauses_at-more hs (take k ids) (get_or ids k d))
    ∙ (filter-append (subsumes h) (clauses_at hs (take k ids)) (option_to_list (clause_at hs (get_or ids k d).0))
    ∙ (ap (λ z. z ++ filter (subsumes h) (option_to_list (clause_at hs (get_or ids k d).0))) a ∙ (ap (filter (subsumes h)) (same (clause_at hs (get_or ids k d).0)) ∙ b))))
  where
    same : (o : Option Held) → option_to_list o ≡ cons_option o []
    same None = refl
    same (Some x) = refl

-- no element passes where the filter leaves none
pub none_pass : {X : Type 0} (p : X → Bool) (xs : List X) → filter p xs ≡ [] → list_all (λ x. not (p x)) xs ≡ true
none_pass p [] e = refl
none_pass p (x ∷ xs) e = go (p x) refl (λ q. none_pass p xs q) e
  where
    go : (b : Bool) → p x ≡ b → (filter p xs ≡ [] → list_all (λ y. not (p y)) xs ≡ true) → cond b (x ∷ filter p xs) (filter p xs) ≡ [] → list_all (λ y. not (p y)) (x ∷ xs) ≡ true
    go true f r q = cc
    go false f r q = and_from _ _ (ap not f) (r q)

-- one clause more stands within no other
pub all_more : (hs : List Held) (ids : List ShortId) (k : ℕ) (d : ShortId) → k < length ids → list_all (subsumes_none hs) (clauses_at hs (take k ids)) ≡ true → subsumes_none_at hs (clause_at hs (get_or ids k d).0) ≡ true
    → list_all (subsumes_none hs) (clauses_at hs (take (k + 1) ids)) ≡ true
all_more hs ids k d l a b =
    ap (λ z. list_all (subsumes_none hs) (clauses_at hs z)) ((take_at_read ids k d l).1)
    ∙ (ap (list_all (subsumes_none hs)) (clauses_at-more hs (take k ids) (get_or ids k d))
    ∙ (list_all-append (subsumes_none hs) (clauses_at hs (take k ids)) (option_to_list (clause_at hs (get_or ids k d).0)) ∙ and_from _ _ a (one (clause_at hs (get_or ids k d).0) b)))
  where
    one : (o : Option Held) → subsumes_none_at hs o ≡ true → list_all (subsumes_none hs) (option_to_list o) ≡ true
    one None e = refl
    one (Some h) e = and_from _ _ e refl

-- one id more was tried, and its clause may have been dropped
pub drops_step : (b : Bool) (n m : ℕ) (olds mids news : List Held) → Drops n olds mids → Drops (if b then 1 else 0) mids news → m ≡ n + (if b then 1 else 0) → Drops m olds news
drops_step b n m olds mids news d e q = subst (λ z. Drops z olds news) (sym q) (drops_more n (if b then 1 else 0) olds mids news d e)

-- nothing but clauses changed
pub same_more : (k l n : Kernel) → l ≡ record k { store = record k.store { held = l.store.held } } → n ≡ record l { store = record l.store { held = n.store.held } } → n ≡ record k { store = record k.store { held = n.store.held } }
same_more k l n e f = f ∙ ap (λ (z : Kernel). let y : Kernel = record z { store = record z.store { held = n.store.held } } in y) e

-- one id more was tried, and nothing was dropped
pub none_step : (olds mids : List Held) (ids : List ShortId) (k : ℕ) (d : ShortId) (by n : ℕ) → Drops n olds mids → n ≡ 0 → k < length ids → ((h : Held) → clause_at olds by ≡ Some h → filter (subsumes h) (clauses_at olds (take k ids)) ≡ [])
    → ((h : Held) → clause_at mids by ≡ Some h → filter (subsumes h) (clauses_at mids (get_or ids k d ∷ [])) ≡ []) → (h : Held) → clause_at olds by ≡ Some h → filter (subsumes h) (clauses_at olds (take (k + 1) ids)) ≡ []
none_step olds mids ids k d by n r z l a b h e =
    let q : mids ≡ olds = drops_none n olds mids r z in
    none_more olds h ids k d l (a h e) (subst (λ (hs : List Held). filter (subsumes h) (clauses_at hs (get_or ids k d ∷ [])) ≡ []) q (b h (ap (λ (hs : List Held). clause_at hs by) q ∙ e)))

-- a clause stands within no other where none is found
pub any_none : (hs : List Held) (i : ℕ) → ((h : Held) → clause_at hs i ≡ Some h → filter (subsumes h) hs ≡ []) → subsumes_none_at hs (clause_at hs i) ≡ true
any_none hs i f = go (clause_at hs i) refl
  where
    go : (o : Option Held) → clause_at hs i ≡ o → subsumes_none_at hs o ≡ true
    go None e = refl
    go (Some h) e = or_right h.learned (list_all (λ k. not (subsumes h k)) hs) (none_pass (subsumes h) hs (f h e))

-- the id of a clause fits four bytes
pub live_small : (s : Store) (i : ℕ) → IsKept s → is_live s.held i ≡ true → i < 2 ^ 32
live_small s i k l =
    let f : (h : Held) × (clause_at s.held i ≡ Some h) = found (clause_at s.held i) l in
    let g : f.0.id < s.given = ltb-true _ _ (all_found (λ (h : Held). ltb h.id s.given) s.held i f.0 f.1 k.below) in
    let e : f.0.id ≡ i = id_found s.held i f.0 f.1 in
    let few : s.given ≤ 2 ^ 32 = k.few in
    omega arith
