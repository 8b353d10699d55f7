-- Where variables stand after an entry is pushed or taken out.
use Rattle.std.proofs.Common.{◌≡◌, ℕ, zero, suc, ◌+◌, ◌≤◌, ◌<◌, ◌==◌, Bool, true, false, cond, not, ltb, ◌||◌, List, [], ◌∷◌, ◌++◌, refl, sym, ap, subst, ◌∙◌, ⊎_elim, arith, get_or, set, length, filter, eqb-true, get_or-set_same, get_or-set_other, lt-ltb}
use Rattle.std.proofs.Math.Path.{fun_ext}
use Rattle.std.proofs.lemmas.Bool.{and_parts, and_from, or_parts, or_cases, or_left, or_right, not-true, true≢false, false≢true, eqb-false, eq-eqb}
use Rattle.std.proofs.lemmas.List.{length-set}
use Rattle.std.specs.List.{list_any, list_all}
use Rattle.sat_lits.specs.Truth.{signed, with_value}
use Rattle.sat_lits.specs.ListLaws.{all_filter}
use Rattle.sat_lits.specs.declared.literal.OwnLit.{OwnLit}
use Rattle.rebuild_stack.specs.Values.{each_lit}
use Rattle.rebuild_stack.specs.Entries.{named, names, is_gone, is_within, others_pass, ordered, times_named}
use Rattle.rebuild_stack.specs.Roots.{turned, root, root_passes}
use Rattle.rebuild_stack.specs.CommonLaws.{each_mono, cond_at}
use Rattle.rebuild_stack.specs.OrderLaws.{times_named-append, times_any, times_none, others_mono, ordered_push, ordered_remove, with_true}
use Rattle.rebuild_stack.specs.declared.entry.Entry.{Entry}
use Rattle.rebuild_stack.specs.declared.entry.Entry.TheVariants.{Fix, Equal, Gone}
use Rattle.rebuild_stack.specs.declared.entry.Root.TheVariants.{Known, Last}
use Rattle.state_laws.specs.State.{State, is_active}
use Rattle.state_laws.specs.Stands.{Placed, IsPlaced}
use Rattle.state_laws.specs.Resolution.{mentions}

-- a true test counts 1
pub one_if : (b : Bool) → b ≡ true → cond {A = ℕ} b 1 0 ≡ 1
one_if true e = refl
one_if false e = absurd (false≢true e)

-- a test counts at most 1
pub cond_one : (b : Bool) → cond {A = ℕ} b 1 0 ≤ 1
cond_one true = omega arith
cond_one false = omega arith

push_count : (b a : Bool) (t u c : ℕ) → (b ≡ true → a ≡ true) → u ≡ t + (cond {A = ℕ} b 1 0 + 0) → t + cond {A = ℕ} a 1 0 ≡ c → u + cond {A = ℕ} (cond b false a) 1 0 ≡ c
push_count true true t u c h p q = omega arith
push_count true false t u c h p q = absurd (false≢true (h refl))
push_count false true t u c h p q = omega arith
push_count false false t u c h p q = omega arith

remove_count : (b a : Bool) (t n u v c : ℕ) → c ≤ 1 → u ≡ t + (cond {A = ℕ} b 1 0 + n) → v ≡ t + n → u + cond {A = ℕ} a 1 0 ≡ c → v + cond {A = ℕ} (cond b true a) 1 0 ≡ c
remove_count true true t n u v c h p q r = absurd (omega arith)
remove_count true false t n u v c h p q r = omega arith
remove_count false true t n u v c h p q r = omega arith
remove_count false false t n u v c h p q r = omega arith

-- an entry of an active variable is pushed, the variable is no longer active, and these are the clauses then
pub placed_push : (active : ℕ → Bool) (count : ℕ) (hard learned hard' learned' : List (List OwnLit)) (s : List Entry) (e : Entry)
    → active (named e) ≡ true → others_pass (with_value active (named e) false) e ≡ true
    → each_lit (λ l. with_value active (named e) false l.var.0) hard' ≡ true → each_lit (λ l. with_value active (named e) false l.var.0) learned' ≡ true
    → Placed active count hard learned s → Placed (with_value active (named e) false) count hard' learned' (s ++ e ∷ [])
placed_push active count hard learned hard' learned' s e a o h l p =
    record {
      hard = h;
      learned = l;
      one_place = λ k. push_count (k == named e) (active k) (times_named k s) (times_named k (s ++ e ∷ [])) (cond (ltb k count) 1 0) (λ t. ap active (eqb-true _ _ t) ∙ a) (times_named-append k s (e ∷ [])) (p.one_place k);
      in_order = ordered_push active e s o p.in_order;
    }

-- an entry is taken out, its variable is active again, and these are the hard clauses then
pub placed_remove : (active : ℕ → Bool) (count : ℕ) (hard learned hard' : List (List OwnLit)) (older newer : List Entry) (e : Entry)
    → each_lit (λ l. with_value active (named e) true l.var.0) hard' ≡ true
    → Placed active count hard learned (older ++ e ∷ newer) → Placed (with_value active (named e) true) count hard' learned (older ++ newer)
placed_remove active count hard learned hard' older newer e h p =
    record {
      hard = h;
      learned = each_mono (λ (l : OwnLit). active l.var.0) (λ (l : OwnLit). with_value active (named e) true l.var.0) (λ l. with_true active (named e) l.var.0) learned p.learned;
      one_place = λ k. remove_count (k == named e) (active k) (times_named k older) (times_named k newer) (times_named k (older ++ e ∷ newer)) (times_named k (older ++ newer)) (cond (ltb k count) 1 0)
          (cond_one (ltb k count)) (times_named-append k older (e ∷ newer)) (times_named-append k older newer) (p.one_place k);
      in_order = ordered_remove active e older newer p.in_order;
    }

set_at : (xs : List Bool) (m k : ℕ) (x b : Bool) → m < length xs → (k == m) ≡ b → get_or (set xs m x) k false ≡ cond b x (get_or xs k false)
set_at xs m k x true h e = ap (λ z. get_or (set xs m x) z false) (eqb-true k m e) ∙ get_or-set_same xs m x false h
set_at xs m k x false h e = get_or-set_other xs m k x false (eqb-false k m e)

-- the active variables after one entry of their table is set
pub active_set : (xs : List Bool) (m : ℕ) (x : Bool) → m < length xs → with_value (λ k. get_or xs k false) m x ≡ (λ k. get_or (set xs m x) k false)
active_set xs m x h = fun_ext (λ k. sym (set_at xs m k x (k == m) h refl))

-- what is active is in the table
pub active_in : (xs : List Bool) (m : ℕ) → get_or xs m false ≡ true → m < length xs
active_in [] m e = absurd (false≢true e)
active_in (x ∷ xs) zero e = omega arith
active_in (x ∷ xs) (suc m) e = let h : m < length xs = active_in xs m e in omega arith

-- the variables of the next state stand where they should, where they do by the active variables as a function
pub set_places : (s t : State) (m : ℕ) (x : Bool) → m < length s.active → t.active ≡ set s.active m x → length t.definitions ≡ length s.definitions → length s.active ≡ length s.definitions
    → Placed (with_value (is_active s) m x) (length s.definitions) t.hard t.learned t.stack → IsPlaced t
set_places s t m x h e o l p =
    record {
      lengths = ap length e ∙ (length-set s.active m x ∙ (l ∙ sym o));
      placed = subst (λ n. Placed (is_active t) n t.hard t.learned t.stack) (sym o)
          (subst (λ (active : ℕ → Bool). Placed active (length s.definitions) t.hard t.learned t.stack) (active_set s.active m x h ∙ ap {B = ℕ → Bool} (λ (z : List Bool) (k : ℕ). get_or z k false) (sym e)) p);
    }

-- an active variable stays active where another one leaves
pub still_active : (active : ℕ → Bool) (v k : ℕ) → active k ≡ true → (k == v) ≡ false → with_value active v false k ≡ true
still_active active v k a e = ap (λ b. cond b false (active k)) e ∙ a

-- what is active without a variable is active with it
pub with_false : (active : ℕ → Bool) (v k : ℕ) → with_value active v false k ≡ true → active k ≡ true
with_false active v k e = go (k == v) e
  where
    go : (b : Bool) → cond b false (active k) ≡ true → active k ≡ true
    go true e = absurd (false≢true e)
    go false e = e

-- what an active literal comes to along one entry that is no `Gone` is active without the entry's variable
pub root_step : (active : ℕ → Bool) (e : Entry) → is_gone e ≡ false → others_pass (with_value active (named e) false) e ≡ true → (l : OwnLit) → active l.var.0 ≡ true
    → root_passes (λ k. with_value active (named e) false k.var.0) (root (e ∷ []) l) ≡ true
root_step active (Fix k) g o l a = go (l.var.0 == k.var.0) refl
  where
    go : (b : Bool) → (l.var.0 == k.var.0) ≡ b → root_passes (λ j. with_value active k.var.0 false j.var.0) (cond b (Known (signed l.negative (not k.negative))) (Last l)) ≡ true
    go true e = refl
    go false e = still_active active k.var.0 l.var.0 a e
root_step active (Equal v k) g o l a = go (l.var.0 == v.0) refl
  where
    go : (b : Bool) → (l.var.0 == v.0) ≡ b → root_passes (λ j. with_value active v.0 false j.var.0) (cond b (Last (turned l.negative k)) (Last l)) ≡ true
    go true e = o
    go false e = still_active active v.0 l.var.0 a e
root_step active (Gone v cs) g o l a = absurd (true≢false g)

-- a clause without a variable stays active where the variable leaves
pub unmentioned : (active : ℕ → Bool) (v : ℕ) (c : List OwnLit) → mentions v c ≡ false → list_all (λ l. active l.var.0) c ≡ true → list_all (λ l. with_value active v false l.var.0) c ≡ true
unmentioned active v [] m e = refl
unmentioned active v (l ∷ c) m e =
    let a : (active l.var.0 ≡ true) × (list_all (λ k. active k.var.0) c ≡ true) = and_parts _ _ e in
    let b : ((l.var.0 == v) ≡ false) × (mentions v c ≡ false) = or_parts _ _ m in
    and_from _ _ (still_active active v l.var.0 a.0 b.0) (unmentioned active v c b.1 a.1)

-- so do all clauses without it
pub unmentioned_all : (active : ℕ → Bool) (v : ℕ) (cs : List (List OwnLit)) → each_lit (λ l. active l.var.0) cs ≡ true → each_lit (λ l. with_value active v false l.var.0) (filter (λ c. not (mentions v c)) cs) ≡ true
unmentioned_all active v cs e =
    all_filter (list_all (λ (l : OwnLit). active l.var.0)) (λ c. not (mentions v c)) (list_all (λ (l : OwnLit). with_value active v false l.var.0)) (λ c a m. unmentioned active v c (not-true _ m) a) cs e

-- a variable that an entry names is in the table
pub named_in : (s : State) (k : ℕ) → IsPlaced s → list_any (names k) s.stack ≡ true → ltb k (length s.active) ≡ true
named_in s k h t = go (ltb k (length s.definitions)) refl (h.placed.one_place k) (times_any k s.stack t)
  where
    go : (b : Bool) → ltb k (length s.definitions) ≡ b → times_named k s.stack + cond {A = ℕ} (is_active s k) 1 0 ≡ cond {A = ℕ} b 1 0 → 1 ≤ times_named k s.stack → ltb k (length s.active) ≡ true
    go true e p q = subst (λ n. ltb k n ≡ true) (sym h.lengths) e
    go false e p q = absurd (omega arith)

all_within : (active : ℕ → Bool) (n : ℕ) (s : List Entry) → ((k : ℕ) → active k ≡ true → ltb k n ≡ true) → ((k : ℕ) → list_any (names k) s ≡ true → ltb k n ≡ true) → ordered active s ≡ true → list_all (is_within n) s ≡ true
all_within active n [] a t o = refl
all_within active n (e ∷ s) a t o =
    let p : (others_pass (λ k. active k || list_any (names k) s) e ≡ true) × (ordered active s ≡ true) = and_parts _ _ o in
    and_from _ _
    (and_from _ _ (t (named e) (or_left _ _ (eq-eqb (named e) (named e) refl)))
    (others_mono (λ k. active k || list_any (names k) s) (λ k. ltb k n) (λ k h. ⊎_elim (a k) (λ q. t k (or_right _ _ q)) (or_cases _ _ h)) e p.0))
    (all_within active n s a (λ k q. t k (or_right _ _ q)) p.1)

-- the entries name variables that are there
pub stack_within : (s : State) → IsPlaced s → list_all (is_within (length s.active)) s.stack ≡ true
stack_within s h = all_within (is_active s) (length s.active) s.stack (λ k a. lt-ltb _ _ (active_in s.active k a)) (λ k t. named_in s k h t) h.placed.in_order

-- an own variable is active or named by an entry
pub somewhere : (s : State) (k : ℕ) → IsPlaced s → k < length s.definitions → (is_active s k || list_any (names k) s.stack) ≡ true
somewhere s k h l = go (is_active s k) (list_any (names k) s.stack) refl refl
  where
    go : (a n : Bool) → is_active s k ≡ a → list_any (names k) s.stack ≡ n → (a || n) ≡ true
    go true n e f = refl
    go false true e f = refl
    go false false e f =
        let a : times_named k s.stack ≡ 0 = times_none k s.stack f in
        let b : cond {A = ℕ} (is_active s k) 1 0 ≡ 0 = cond_at {A = ℕ} (is_active s k) 1 0 e in
        let c : cond {A = ℕ} (ltb k (length s.definitions)) 1 0 ≡ 1 = one_if (ltb k (length s.definitions)) (lt-ltb _ _ l) in
        let d : times_named k s.stack + cond {A = ℕ} (is_active s k) 1 0 ≡ cond {A = ℕ} (ltb k (length s.definitions)) 1 0 = h.placed.one_place k in
        absurd (omega arith)

-- an active variable is named by no entry, and every variable by one at most
pub once_named : (s : State) (k : ℕ) → IsPlaced s → times_named k s.stack + cond {A = ℕ} (is_active s k) 1 0 ≤ 1
once_named s k h = subst (λ n. n ≤ 1) (sym (h.placed.one_place k)) (cond_one (ltb k (length s.definitions)))
