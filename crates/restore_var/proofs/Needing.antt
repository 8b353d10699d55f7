-- Marks that grow by what is needed.
use Rattle.std.proofs.Common.{◌≡◌, ℕ, suc, ◌+◌, ◌<◌, ◌≤◌, ◌==◌, Bool, true, false, cond, not, ◌&&◌, ◌||◌, List, [], ◌∷◌, ◌++◌, Some, refl, sym, ap, ◌∙◌, ⊎_elim, arith, length, get_or, take, drop, slice_get, eq-eqb, eqb-true}
use Rattle.std.proofs.lemmas.Bool.{and_parts, and_from, or_cases, or_left, or_right}
use Rattle.std.proofs.lemmas.List.Folds.{list_all-append}
use Rattle.std.specs.List.{list_all, list_any}
use Rattle.sat_lits.specs.ListLaws.{all_mono, both_all, all_push, all_from_get, all_or_any, any_get}
use Rattle.sat_lits.specs.Truth.{signed}
use Rattle.sat_lits.specs.declared.literal.Own.{Own}
use Rattle.sat_lits.specs.declared.literal.OwnLit.{OwnLit}
use Rattle.rebuild_stack.specs.Entries.{named, names, times_named, is_block_of}
use Rattle.rebuild_stack.specs.Roots.{root, turned, is_lost}
use Rattle.rebuild_stack.specs.CommonLaws.{cond_at}
use Rattle.rebuild_stack.specs.RootLaws.{root_past}
use Rattle.rebuild_stack.specs.OrderLaws.{times_named-append, unnamed}
use Rattle.rebuild_stack.specs.declared.entry.Entry.{Entry}
use Rattle.rebuild_stack.specs.declared.entry.Entry.TheVariants.{Fix, Equal, Gone}
use Rattle.rebuild_stack.specs.declared.entry.Root.{Root}
use Rattle.rebuild_stack.specs.declared.entry.Root.TheVariants.{Known, Last, Lost}
use Rattle.state_laws.specs.State.{State, is_active}
use Rattle.state_laws.specs.Stands.{IsPlaced}
use Rattle.state_laws.specs.PlaceLaws.{one_if, once_named}
use Rattle.state_laws.specs.RestoreLaws.{split_at}
use Rattle.removed_vars.specs.CollectLaws.{taken_at, taken_some}
use Rattle.removed_vars.specs.RestoringLaws.{LooksNewer, looks_newer}
use Rattle.restore_var.specs.Needs.{is_among, all_pass, none_gone, leads_to, clause_leads, block_leads, hands_on, GrowsFor, AreFree}

-- what passes a test passes a weaker one
pub leads_mono : (p q : ℕ → Bool) → ((k : ℕ) → p k ≡ true → q k ≡ true) → (r : Root) → leads_to p r ≡ true → leads_to q r ≡ true
leads_mono p q h (Known x) e = refl
leads_mono p q h (Last l) e = refl
leads_mono p q h (Lost v) e = h v.0 e

clause_mono : (p q : ℕ → Bool) → ((k : ℕ) → p k ≡ true → q k ≡ true) → (s : List Entry) (c : List OwnLit) → clause_leads s c p ≡ true → clause_leads s c q ≡ true
clause_mono p q h s c e = all_mono (λ l. leads_to p (root s l)) (λ l. leads_to q (root s l)) (λ l. leads_mono p q h (root s l)) c e

block_mono : (p q : ℕ → Bool) → ((k : ℕ) → p k ≡ true → q k ≡ true) → (s : List Entry) (cs : List (List OwnLit)) → block_leads s cs p ≡ true → block_leads s cs q ≡ true
block_mono p q h s cs e = all_mono (λ c. clause_leads s c p) (λ c. clause_leads s c q) (λ c. clause_mono p q h s c) cs e

-- where nothing is needed, nothing is marked
pub grows_none : (needs : (ℕ → Bool) → Bool) (m : ℕ → Bool) → ((p : ℕ → Bool) → needs p ≡ true) → GrowsFor needs m m
grows_none needs m h = record { grows = λ k e. e; met = h m; least = λ p i n k e. i k e }

-- one need more is met
grows_more : (needs more all : (ℕ → Bool) → Bool) (a b c : ℕ → Bool) → ((p q : ℕ → Bool) → ((k : ℕ) → p k ≡ true → q k ≡ true) → needs p ≡ true → needs q ≡ true) → ((p : ℕ → Bool) → all p ≡ (needs p && more p))
    → GrowsFor needs a b → GrowsFor more b c → GrowsFor all a c
grows_more needs more all a b c mono split r s =
    record {
      grows = λ k e. s.grows k (r.grows k e);
      met = split c ∙ and_from _ _ (mono b c s.grows r.met) s.met;
      least = λ p i n k e.
          let q : (needs p ≡ true) × (more p ≡ true) = and_parts _ _ (sym (split p) ∙ n) in
          s.least p (r.least p i q.0) q.1 k e;
    }

all_last : {X : Type 0} (p : X → Bool) (xs : List X) (x : X) → list_all p (xs ++ x ∷ []) ≡ (list_all p xs && p x)
all_last p xs x = list_all-append p xs (x ∷ []) ∙ ap (λ b. list_all p xs && b) (one (p x))
  where
    one : (b : Bool) → (b && true) ≡ b
    one true = refl
    one false = refl

-- one literal more of a clause
pub literal_more : (s : List Entry) (c : List OwnLit) (i : ℕ) (l : OwnLit) (a b d : ℕ → Bool) → i < length c → GrowsFor (clause_leads s (take i c)) a b → GrowsFor (λ p. leads_to p (root s (get_or c i l))) b d
    → GrowsFor (clause_leads s (take (i + 1) c)) a d
literal_more s c i l a b d n =
    grows_more (clause_leads s (take i c)) (λ p. leads_to p (root s (get_or c i l))) (clause_leads s (take (i + 1) c)) a b d (λ p q h. clause_mono p q h s (take i c))
    (λ p. ap (λ z. clause_leads s z p) (taken_at c i l n) ∙ all_last (λ k. leads_to p (root s k)) (take i c) (get_or c i l))

-- one clause more of a block
pub clause_more : (s : List Entry) (cs : List (List OwnLit)) (i : ℕ) (c : List OwnLit) (a b d : ℕ → Bool) → slice_get cs i ≡ Some c → GrowsFor (block_leads s (take i cs)) a b → GrowsFor (clause_leads s c) b d → GrowsFor (block_leads s (take (i + 1) cs)) a d
clause_more s cs i c a b d e =
    grows_more (block_leads s (take i cs)) (clause_leads s c) (block_leads s (take (i + 1) cs)) a b d (λ p q h. block_mono p q h s (take i cs))
    (λ p. ap (λ z. block_leads s z p) (taken_some cs i c e) ∙ all_last (λ z. clause_leads s z p) (take i cs) c)

-- the variable that a literal came to was marked
pub lost_marked : (s : List Entry) (l : OwnLit) (v : Own) (a b : ℕ → Bool) → root s l ≡ Lost v → ((n : ℕ) → b n ≡ (v.0 == n || a n)) → GrowsFor (λ p. leads_to p (root s l)) a b
lost_marked s l v a b r h =
    record {
      grows = λ k e. h k ∙ or_right _ _ e;
      met = ap (leads_to b) r ∙ (h v.0 ∙ or_left _ _ (eq-eqb v.0 v.0 refl));
      least = λ p i n k e. ⊎_elim (λ (q : (v.0 == k) ≡ true). sym (ap p (eqb-true v.0 k q)) ∙ (sym (ap (leads_to p) r) ∙ n)) (λ (q : a k ≡ true). i k q) (or_cases _ _ (sym (h k) ∙ e));
    }

-- what a marked variable's clauses need was marked
pub gone_marked : (s : List Entry) (v : Own) (cs : List (List OwnLit)) (a b : ℕ → Bool) → a v.0 ≡ true → GrowsFor (block_leads s cs) a b → GrowsFor (λ p. hands_on p s (Gone v cs)) a b
gone_marked s v cs a b m r = record { grows = r.grows; met = or_right _ _ r.met; least = λ p i n. r.least p i (only (p v.0) (block_leads s cs p) (i v.0 m) n) }
  where
    only : (x y : Bool) → x ≡ true → (not x || y) ≡ true → y ≡ true
    only true y e n = n
    only false y e n = cc

-- nothing is needed for one that is not marked
pub gone_unmarked : (s : List Entry) (v : Own) (cs : List (List OwnLit)) (a : ℕ → Bool) → a v.0 ≡ false → GrowsFor (λ p. hands_on p s (Gone v cs)) a a
gone_unmarked s v cs a m = record { grows = λ k e. e; met = ap (λ b. not b || block_leads s cs a) m; least = λ p i n. i }

-- an eliminated variable that a literal came to has a `Gone` entry, which passes any test of such entries
pub lost_passes : (t : ℕ → Entry → Bool) → ((v : Own) (cs : List (List OwnLit)) → t v.0 (Gone v cs) ≡ true) → (s : List Entry) (l : OwnLit) → leads_to (λ k. list_any (t k) s) (root s l) ≡ true
lost_passes t g [] l = refl
lost_passes t g (Fix k ∷ newer) l = go (l.var.0 == k.var.0) (lost_passes t g newer l)
  where
    go : (b : Bool) → leads_to (λ j. list_any (t j) newer) (root newer l) ≡ true → leads_to (λ j. list_any (t j) (Fix k ∷ newer)) (cond b (Known (signed l.negative (not k.negative))) (root newer l)) ≡ true
    go true r = refl
    go false r = leads_mono (λ j. list_any (t j) newer) (λ j. list_any (t j) (Fix k ∷ newer)) (λ j e. or_right _ _ e) (root newer l) r
lost_passes t g (Equal v k ∷ newer) l = go (l.var.0 == v.0) (lost_passes t g newer (turned l.negative k)) (lost_passes t g newer l)
  where
    go : (b : Bool) → leads_to (λ j. list_any (t j) newer) (root newer (turned l.negative k)) ≡ true → leads_to (λ j. list_any (t j) newer) (root newer l) ≡ true
        → leads_to (λ j. list_any (t j) (Equal v k ∷ newer)) (cond b (root newer (turned l.negative k)) (root newer l)) ≡ true
    go true q r = leads_mono (λ j. list_any (t j) newer) (λ j. list_any (t j) (Equal v k ∷ newer)) (λ j e. or_right _ _ e) (root newer (turned l.negative k)) q
    go false q r = leads_mono (λ j. list_any (t j) newer) (λ j. list_any (t j) (Equal v k ∷ newer)) (λ j e. or_right _ _ e) (root newer l) r
lost_passes t g (Gone v cs ∷ newer) l = go (l.var.0 == v.0) (lost_passes t g newer l)
  where
    go : (b : Bool) → leads_to (λ j. list_any (t j) newer) (root newer l) ≡ true → leads_to (λ j. list_any (t j) (Gone v cs ∷ newer)) (cond b (Lost v) (root newer l)) ≡ true
    go true r = or_left _ _ (g v cs)
    go false r = leads_mono (λ j. list_any (t j) newer) (λ j. list_any (t j) (Gone v cs ∷ newer)) (λ j e. or_right _ _ e) (root newer l) r

-- newer entries name whatever the clauses of an entry need
newer_handed : (s : State) (at : ℕ) (e : Entry) → slice_get s.stack at ≡ Some e → IsPlaced s → (m : ℕ → Bool) → hands_on (λ k. m k || list_any (names k) (drop (suc at) s.stack)) s.stack e ≡ true
newer_handed s at (Fix l) f h m = refl
newer_handed s at (Equal v l) f h m = refl
newer_handed s at (Gone v cs) f h m = go (p v.0) refl
  where
    newer : List Entry
    newer = drop (suc at) s.stack

    p : ℕ → Bool
    p k = m k || list_any (names k) newer

    n : LooksNewer s at v cs
    n = looks_newer s at v cs f h

    own : (l : OwnLit) → n.test l ≡ true → (l.var.0 == v.0) ≡ true → root s.stack l ≡ Lost v
    own l t q = ap (λ z. root z l) (split_at s.stack at (Gone v cs) f) ∙ (root_past (take at s.stack) (Gone v cs ∷ newer) l (n.older l t) ∙ ap (λ b. cond b (Lost v) (root newer l)) q)

    lit : p v.0 ≡ true → (l : OwnLit) → n.test l ≡ true → leads_to p (root s.stack l) ≡ true
    lit e l t = each (l.var.0 == v.0) refl
      where
        each : (b : Bool) → (l.var.0 == v.0) ≡ b → leads_to p (root s.stack l) ≡ true
        each true q = ap (leads_to p) (own l t q) ∙ e
        each false q =
            ap (leads_to p) (sym (cond_at (l.var.0 == v.0) (Last l) (root s.stack l) q) ∙ n.roots l t)
            ∙ leads_mono (λ k. list_any (names k) newer) p (λ k z. or_right (m k) (list_any (names k) newer) z) (root newer l) (lost_passes names (λ w ds. eq-eqb w.0 w.0 refl) newer l)

    go : (b : Bool) → p v.0 ≡ b → (not b || block_leads s.stack cs p) ≡ true
    go true e = all_mono (list_all n.test) (λ c. clause_leads s.stack c p) (λ c. all_mono n.test (λ l. leads_to p (root s.stack l)) (lit e) c) cs n.passes
    go false e = refl

-- no newer entry names the variable of an older one
older_apart : (older newer : List Entry) → ((k : ℕ) → times_named k older + times_named k newer ≤ 1) → list_all (λ d. not (list_any (names (named d)) newer)) older ≡ true
older_apart [] newer h = refl
older_apart (d ∷ older) newer h = and_from _ _ this (older_apart older newer (λ k. let c : cond {A = ℕ} (names k d) 1 0 + times_named k older + times_named k newer ≤ 1 = h k in omega arith))
  where
    this : not (list_any (names (named d)) newer) ≡ true
    this =
        let c : cond {A = ℕ} (names (named d) d) 1 0 + times_named (named d) older + times_named (named d) newer ≤ 1 = h (named d) in
        let one : cond {A = ℕ} (names (named d) d) 1 0 ≡ 1 = one_if _ (eq-eqb (named d) (named d) refl) in
        ap not (unnamed (named d) newer (omega arith))

-- one entry more hands on what it needs, and the older ones still do
closed_more : (s : State) (i : ℕ) (e : Entry) (m n : ℕ → Bool) → IsPlaced s → slice_get s.stack i ≡ Some e → GrowsFor (λ p. hands_on p s.stack e) m n → list_all (hands_on m s.stack) (take i s.stack) ≡ true
    → list_all (hands_on n s.stack) (take (i + 1) s.stack) ≡ true
closed_more s i e m n h f g c = ap (list_all (hands_on n s.stack)) (taken_some s.stack i e f) ∙ all_push (hands_on n s.stack) (take i s.stack) e olds g.met
  where
    older : List Entry
    older = take i s.stack

    newer : List Entry
    newer = drop (suc i) s.stack

    within : (k : ℕ) → n k ≡ true → (m k || list_any (names k) newer) ≡ true
    within = g.least (λ k. m k || list_any (names k) newer) (λ k t. or_left _ _ t) (newer_handed s i e f h m)

    once : (k : ℕ) → times_named k older + times_named k newer ≤ 1
    once k =
        let a : times_named k s.stack ≡ times_named k older + (cond {A = ℕ} (names k e) 1 0 + times_named k newer) = ap (times_named k) (split_at s.stack i e f) ∙ times_named-append k older (e ∷ newer) in
        let b : times_named k s.stack + cond {A = ℕ} (is_active s k) 1 0 ≤ 1 = once_named s k h in
        omega arith

    were : list_all (λ d. not (n (named d)) || m (named d)) older ≡ true
    were = all_mono (λ d. not (list_any (names (named d)) newer)) (λ d. not (n (named d)) || m (named d)) (λ d a. was (n (named d)) (m (named d)) (list_any (names (named d)) newer) (within (named d)) a) older (older_apart older newer once)
      where
        was : (x y z : Bool) → (x ≡ true → (y || z) ≡ true) → not z ≡ true → (not x || y) ≡ true
        was false y z w a = refl
        was true true z w a = refl
        was true false true w a = cc
        was true false false w a = w refl

    step : (d : Entry) → hands_on m s.stack d ≡ true → (not (n (named d)) || m (named d)) ≡ true → hands_on n s.stack d ≡ true
    step (Fix l) a b = refl
    step (Equal v l) a b = refl
    step (Gone v cs) a b = go (n v.0) (m v.0) a b (block_mono m n g.grows s.stack cs)
      where
        go : (x y : Bool) → (not y || block_leads s.stack cs m) ≡ true → (not x || y) ≡ true → (block_leads s.stack cs m ≡ true → block_leads s.stack cs n ≡ true) → (not x || block_leads s.stack cs n) ≡ true
        go false y a b w = refl
        go true true a b w = w a
        go true false a b w = cc

    olds : list_all (hands_on n s.stack) older ≡ true
    olds = both_all (hands_on m s.stack) (λ d. not (n (named d)) || m (named d)) (hands_on n s.stack) step older c were

-- what is marked where the front of a stack was walked over
pub record IsWalked (vars : List Own) (s front : List Entry) (m : ℕ → Bool) : Type 0 where
  pub all : all_pass m vars ≡ true
  pub closed : list_all (hands_on m s) front ≡ true
  pub least : (p : ℕ → Bool) → all_pass p vars ≡ true → list_all (hands_on p s) front ≡ true → (k : ℕ) → m k ≡ true → p k ≡ true

-- at first the variables alone are
pub walked_none : (vars : List Own) (s : List Entry) (m : ℕ → Bool) → ((n : ℕ) → m n ≡ is_among vars n) → IsWalked vars s [] m
walked_none vars s m h =
    record {
      all = all_from_get (λ v. m v.0) vars (λ i v e. h v.0 ∙ any_get (λ w. w.0 == v.0) vars i v e (eq-eqb v.0 v.0 refl));
      closed = refl;
      least = λ p a c k e. all_or_any (λ v. p v.0) (λ v. v.0 == k) (p k ≡ true) vars a (sym (h k) ∙ e) (λ v x y. sym (ap p (eqb-true v.0 k y)) ∙ x);
    }

-- one entry more is walked over
pub walked_more : (vars : List Own) (s : State) (i : ℕ) (e : Entry) (m n : ℕ → Bool) → IsPlaced s → slice_get s.stack i ≡ Some e → GrowsFor (λ p. hands_on p s.stack e) m n → IsWalked vars s.stack (take i s.stack) m → IsWalked vars s.stack (take (i + 1) s.stack) n
walked_more vars s i e m n h f g w =
    record {
      all = all_mono (λ v. m v.0) (λ v. n v.0) (λ v. g.grows v.0) vars w.all;
      closed = closed_more s i e m n h f g w.closed;
      least = λ p a c k z.
          let q : (list_all (hands_on p s.stack) (take i s.stack) ≡ true) × (hands_on p s.stack e ≡ true) =
          and_parts _ _ (sym (all_last (hands_on p s.stack) (take i s.stack) e) ∙ (sym (ap (list_all (hands_on p s.stack)) (taken_some s.stack i e f)) ∙ c)) in
          g.least p (w.least p a q.0) q.1 k z;
    }

-- where none of the variables is eliminated, no literal comes to one of them
pub free_none : (vars : List Own) (s : List Entry) → none_gone s vars ≡ true → AreFree vars s s
free_none vars s h l e = go (root s l) refl
  where
    clash : (b : Bool) → not b ≡ true → b ≡ true → ⊥
    clash true p q = cc
    clash false p q = cc

    block : (x : Own) → root s l ≡ Lost x → list_any (is_block_of x) s ≡ true
    block x q = sym (ap (leads_to (λ k. list_any (λ d. is_block_of (record { 0 = k }) d) s)) q) ∙ lost_passes (λ k d. is_block_of (record { 0 = k }) d) (λ v cs. eq-eqb v.0 v.0 refl) s l

    go : (r : Root) → root s l ≡ r → is_lost r ≡ false
    go (Known x) q = refl
    go (Last k) q = refl
    go (Lost x) q =
        all_or_any (λ v. not (list_any (is_block_of v) s)) (λ v. v.0 == x.0) (true ≡ false) vars h (sym (ap (leads_to (is_among vars)) q) ∙ e)
        (λ v a b. absurd (clash (list_any (is_block_of v) s) a (ap (λ (k : ℕ). list_any (is_block_of (record { 0 = k })) s) (eqb-true v.0 x.0 b) ∙ block x q)))
