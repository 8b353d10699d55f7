-- A kernel in whose stack the entries of variables still stand that are active again.
use Rattle.std.proofs.Common.{◌≡◌, ℕ, zero, suc, ◌+◌, ◌-◌, ◌<◌, ◌≤◌, ◌==◌, Bool, true, false, cond, not, ◌&&◌, List, [], ◌∷◌, ◌++◌, Option, Some, None, refl, sym, ap, ap₂, ◌∙◌, arith, length, length-append, nat_lt, ltb-true, ltb-false, get_or, get_or-set_same, get_or-set_other, map, filter, take, drop, slice_get, remove, is_some, eq-eqb}
use Rattle.std.proofs.lemmas.Bool.{or_left, or_right, or_parts, eqb-false, true≢false}
use Rattle.std.proofs.lemmas.List.{take-append-drop, length-take-le}
use Rattle.std.proofs.lemmas.List.Edits.{length-remove}
use Rattle.std.proofs.lemmas.List.Elements.{filter-append}
use Rattle.std.proofs.lemmas.List.Folds.{list_any-append}
use Rattle.std.specs.List.{list_any}
use Rattle.sat_lits.specs.ListLaws.{any_get}
use Rattle.sat_lits.specs.declared.literal.Own.{Own}
use Rattle.sat_lits.specs.declared.literal.OwnLit.{OwnLit}
use Rattle.sat_lits.specs.declared.literal.Inner.{Inner}
use Rattle.rebuild_stack.specs.Entries.{named, names, is_gone, times_named}
use Rattle.rebuild_stack.specs.Roots.{root}
use Rattle.rebuild_stack.specs.RootLaws.{root_past}
use Rattle.rebuild_stack.specs.OrderLaws.{unnamed, times_any, times_named-append}
use Rattle.rebuild_stack.specs.PutIn.{put_in_all}
use Rattle.rebuild_stack.specs.Values.{each_lit}
use Rattle.rebuild_stack.specs.declared.entry.Entry.{Entry}
use Rattle.rebuild_stack.specs.declared.entry.Entry.TheVariants.{Gone}
use Rattle.clause_store.specs.Store.{Store}
use Rattle.var_maps.specs.Maps.{Maps, Revived, inner_at}
use Rattle.state_laws.specs.State.{State, is_active}
use Rattle.state_laws.specs.Moves.{restored}
use Rattle.state_laws.specs.Held.{has_inner, hard_clause}
use Rattle.state_laws.specs.Kernel.{Kernel, Standing, state_of}
use Rattle.state_laws.specs.KernelRestoreLaws.{Restoration, restored_state, restored-Standing}
use Rattle.state_laws.specs.MarkLaws.{left_of}
use Rattle.state_laws.specs.PlaceLaws.{one_if, once_named}
use Rattle.state_laws.specs.RestoreLaws.{restored-Stands}
use Rattle.state_laws.specs.ViewLaws.{get_is_some, same_state-Standing}
use Rattle.removed_vars.specs.Removed.{IsInOrder}
use Rattle.removed_vars.specs.Restoring.{stays, active_in, left_by, AreOfOthers}
use Rattle.removed_vars.specs.LeavingLaws.{left_from, left_more}
use Rattle.removed_vars.specs.RestoringLaws.{LooksNewer, looks_newer, put_in_all_agree, place_once}
use Rattle.private_state.specs.Restoring.{CanRestore, Restores, AreGone, CanComeBack, ComesBack, SayTheSame}
use Rattle.private_state.specs.MovingLaws.{active_unnamed}
use Rattle.private_state.proofs.Reviving.{gone_there, gone_inactive, restored_active, revived_active, same_state}

-- the kernel without those entries
abbrev pub thinned : Kernel → Kernel
thinned k = record k { stack = left_by k.maps k.stack; stack_mark = length (left_by k.maps (take k.stack_mark k.stack)) }

-- what stays of the first entries and of the others
left_parts : (p : Entry → Bool) (s : List Entry) (m : ℕ) → filter p s ≡ filter p (take m s) ++ filter p (drop m s)
left_parts p s m = ap (filter p) (sym (take-append-drop m s)) ∙ filter-append p (take m s) (drop m s)

-- no more are marked than are left
thinned_within : (k : Kernel) → (thinned k).stack_mark ≤ length (thinned k).stack
thinned_within k =
    let a : length (left_by k.maps k.stack) ≡ length (left_by k.maps (take k.stack_mark k.stack)) + length (left_by k.maps (drop k.stack_mark k.stack)) =
    ap length (left_parts (stays (active_in k.maps)) k.stack k.stack_mark) ∙ length-append (left_by k.maps (take k.stack_mark k.stack)) (left_by k.maps (drop k.stack_mark k.stack)) in
    omega (arith, a)

all_left : (m : ℕ → Bool) (s : List Entry) → ((k : ℕ) → list_any (names k) s ≡ true → m k ≡ false) → filter (stays m) s ≡ s
all_left m [] h = refl
all_left m (e ∷ s) h =
    ap (λ b. cond b (e ∷ filter (stays m) s) (filter (stays m) s)) (ap (λ b. not (is_gone e && b)) (h (named e) (or_left _ _ (eq-eqb (named e) (named e) refl))) ∙ here (is_gone e))
    ∙ ap (λ z. e ∷ z) (all_left m s (λ k q. h k (or_right (names k e) (list_any (names k) s) q)))
  where
    here : (b : Bool) → not (b && false) ≡ true
    here true = refl
    here false = refl

-- an entry of a kernel that stands is of no active variable
away : (k : Kernel) → Standing k → (j : ℕ) → list_any (names j) k.stack ≡ true → active_in k.maps j ≡ false
away k h j q = go (active_in k.maps j) refl
  where
    go : (b : Bool) → active_in k.maps j ≡ b → b ≡ false
    go true t = absurd (true≢false (sym q ∙ active_unnamed k j h (get_is_some k.maps.inners j ∙ t)))
    go false t = refl

-- so it has none of those
pub none_thinned : (k : Kernel) → Standing k → left_by k.maps k.stack ≡ k.stack
none_thinned k h = all_left (active_in k.maps) k.stack (away k h)

-- nor among the marked ones
none_counted : (k : Kernel) → Standing k → length (left_by k.maps (take k.stack_mark k.stack)) ≡ k.stack_mark
none_counted k h = ap length (all_left (active_in k.maps) (take k.stack_mark k.stack) (λ j q. away k h j (whole j q))) ∙ length-take-le k.stack_mark k.stack h.within
  where
    whole : (j : ℕ) → list_any (names j) (take k.stack_mark k.stack) ≡ true → list_any (names j) k.stack ≡ true
    whole j q = ap (list_any (names j)) (sym (take-append-drop k.stack_mark k.stack)) ∙ (list_any-append (names j) (take k.stack_mark k.stack) (drop k.stack_mark k.stack) ∙ or_left _ _ q)

pub standing_thinned : (k : Kernel) → Standing k → thinned k ≡ k
standing_thinned k h = ap₂ {C = Kernel} (λ (s : List Entry) (m : ℕ). record k { stack = s; stack_mark = m }) (none_thinned k h) (none_counted k h)

-- an entry that stands in the first part of a list
front_at : {X : Type 0} (xs ys : List X) (i : ℕ) (x : X) → i < length xs → slice_get (xs ++ ys) i ≡ Some x → slice_get xs i ≡ Some x
front_at [] ys i x l e = absurd (omega (arith, l))
front_at (y ∷ xs) ys zero x l e = e
front_at (y ∷ xs) ys (suc i) x l e = front_at xs ys i x (omega (arith, l)) e

-- and one that stands behind it
back_at : {X : Type 0} (xs ys : List X) (i : ℕ) (x : X) → length xs ≤ i → slice_get (xs ++ ys) i ≡ Some x → (j : ℕ) × (slice_get ys j ≡ Some x)
back_at [] ys i x l e = (i, e)
back_at (y ∷ xs) ys zero x l e = absurd (omega (arith, l))
back_at (y ∷ xs) ys (suc i) x l e = back_at xs ys i x (omega (arith, l)) e

-- where no entry names a variable, tests pass alike that differ at its entries alone
pass_alike : (p q : Entry → Bool) (s : List Entry) (k : ℕ) → ((e : Entry) → names k e ≡ false → q e ≡ p e) → list_any (names k) s ≡ false → filter q s ≡ filter p s
pass_alike p q [] k h n = refl
pass_alike p q (e ∷ s) k h n =
    let a : (names k e ≡ false) × (list_any (names k) s ≡ false) = or_parts _ _ n in
    ap (λ b. cond b (e ∷ filter q s) (filter q s)) (h e a.0) ∙ ap (λ z. cond (p e) (e ∷ z) z) (pass_alike p q s k h a.1)

-- one variable more passes, and of the first entries one less is left where its entry is among them
count_more : (p q : Entry → Bool) (s : List Entry) (m at : ℕ) (x : Entry) → ((k : ℕ) → times_named k s ≤ 1) → ((e : Entry) → names (named x) e ≡ false → q e ≡ p e) → q x ≡ false → slice_get (filter p s) at ≡ Some x
    → length (filter q (take m s)) ≡ left_of at (length (filter p (take m s)))
count_more p q s m at x c h g f = go (nat_lt at (length (filter p (take m s)))) refl
  where
    both : (k : ℕ) → times_named k (take m s) + times_named k (drop m s) ≤ 1
    both k =
        let a : times_named k (take m s ++ drop m s) ≡ times_named k (take m s) + times_named k (drop m s) = times_named-append k (take m s) (drop m s) in
        let b : times_named k (take m s ++ drop m s) ≡ times_named k s = ap (times_named k) (take-append-drop m s) in
        let d : times_named k s ≤ 1 = c k in
        omega (arith, a, b, d)

    front_once : (k : ℕ) → times_named k (take m s) ≤ 1
    front_once k = let a : times_named k (take m s) + times_named k (drop m s) ≤ 1 = both k in omega (arith, a)

    found : slice_get (filter p (take m s) ++ filter p (drop m s)) at ≡ Some x
    found = ap (λ z. slice_get z at) (sym (left_parts p s m)) ∙ f

    go : (b : Bool) → nat_lt at (length (filter p (take m s))) ≡ b → length (filter q (take m s)) ≡ cond b (length (filter p (take m s)) - 1) (length (filter p (take m s)))
    go true e =
        let l : at < length (filter p (take m s)) = ltb-true _ _ e in
        let a : length (filter q (take m s)) ≡ length (remove (filter p (take m s)) at) = ap length (left_more p q (take m s) at x front_once h g (front_at (filter p (take m s)) (filter p (drop m s)) at x l found)) in
        let b : length (remove (filter p (take m s)) at) + 1 ≡ length (filter p (take m s)) = length-remove (filter p (take m s)) at l in
        omega (arith, a, b)
    go false e =
        let (j, t) = back_at (filter p (take m s)) (filter p (drop m s)) at x (ltb-false _ _ e) found in
        let (i, u) = left_from p (drop m s) j x t in
        let a : 1 ≤ times_named (named x) (drop m s) = times_any (named x) (drop m s) (any_get (names (named x)) (drop m s) i x u (eq-eqb (named x) (named x) refl)) in
        let b : times_named (named x) (take m s) + times_named (named x) (drop m s) ≤ 1 = both (named x) in
        let d : times_named (named x) (take m s) ≡ 0 = omega (arith, a, b) in
        ap length (pass_alike p q (take m s) (named x) h (unnamed (named x) (take m s) d))

-- the entries name a variable once at most
pub named_once : (s : List Entry) → IsInOrder s → (j : ℕ) → times_named j s ≤ 1
named_once s o j = let c : times_named j s + cond {A = ℕ} (o.active j) 1 0 ≤ 1 = o.once j in omega arith

-- the clauses of a variable's entry are the same wherever they are read
pub same_clauses : (v : Own) (s : List Entry) (cs ds : List (List OwnLit)) → times_named v.0 s ≤ 1 → AreGone v s cs → AreGone v s ds → ds ≡ cs
same_clauses v s cs ds t a b = same (sym b.entry ∙ (ap (slice_get s) (place_once v.0 s b.place a.place (Gone v ds) (Gone v cs) t b.entry (eq-eqb v.0 v.0 refl) a.entry (eq-eqb v.0 v.0 refl)) ∙ a.entry))
  where
    same : Some (Gone v ds) ≡ Some (Gone v cs) → ds ≡ cs
    same q = cc

-- a variable that is restored next
module _ (k : Kernel) (v : Own) (o : IsInOrder k.stack) (h : Standing (thinned k)) (r : CanRestore (state_of (thinned k)) v) where
  abbrev at : ℕ
  at = r.place

  abbrev cs : List (List OwnLit)
  cs = r.clauses

  abbrev thin : List Entry
  thin = left_by k.maps k.stack

  gone : AreGone v k.stack cs
  gone = let (j, e) = left_from (stays (active_in k.maps)) k.stack at (Gone v cs) r.restorable.entry in record { place = j; entry = e }

  there : v.0 < length k.maps.inners
  there = gone_there (thinned k) at v cs r.restorable.entry h

  retired : inner_at k.maps v.0 ≡ None
  retired = gone_inactive (thinned k) at v cs r.restorable.entry h

  -- whatever number it gets
  module _ (n : Maps) (i : Inner) (g : Revived v i k.maps n) where
    others_alike : (j : ℕ) → (v.0 == j) ≡ false → active_in n j ≡ active_in k.maps j
    others_alike j q = ap (λ (z : List (Option Inner)). is_some (get_or z j None)) g.inners ∙ ap (λ (x : Option Inner). is_some x) (get_or-set_other k.maps.inners v.0 j (Some i) None (λ z. eqb-false v.0 j q (sym z)))

    now_active : active_in n v.0 ≡ true
    now_active = ap (λ (z : List (Option Inner)). is_some (get_or z v.0 None)) g.inners ∙ ap (λ (x : Option Inner). is_some x) (get_or-set_same k.maps.inners v.0 (Some i) None there)

    -- its entry alone goes
    now_left : left_by n k.stack ≡ remove thin at
    now_left =
        left_more (stays (active_in k.maps)) (stays (active_in n)) k.stack at (Gone v cs) (named_once k.stack o)
        (λ e q. ap (λ b. not (is_gone e && b)) (others_alike (named e) q)) (ap (λ b. not (true && b)) now_active) r.restorable.entry

    -- also where it is marked
    now_counted : length (left_by n (take k.stack_mark k.stack)) ≡ left_of at (length (left_by k.maps (take k.stack_mark k.stack)))
    now_counted =
        count_more (stays (active_in k.maps)) (stays (active_in n)) k.stack k.stack_mark at (Gone v cs) (named_once k.stack o)
        (λ e q. ap (λ b. not (is_gone e && b)) (others_alike (named e) q)) (ap (λ b. not (true && b)) now_active) r.restorable.entry

    abbrev after : State
    after = restored at v cs (state_of (thinned k))

    others : AreOfOthers n (left_by n k.stack)
    others j a =
        let c : times_named j (remove thin at) + cond {A = ℕ} (is_active after j) 1 0 ≤ 1 = once_named after j (restored-Stands at v cs (state_of (thinned k)) r.restorable h.stands).places in
        let d : cond {A = ℕ} (is_active after j) 1 0 ≡ 1 = one_if (is_active after j) (revived_active k.maps n v i g j ∙ a) in
        ap (list_any (names j)) now_left ∙ unnamed j (remove thin at) (omega arith)

    -- its clauses come to what they come to along the newer entries
    come_to : put_in_all (root (left_by n k.stack)) cs ≡ put_in_all (root (drop (suc at) thin)) cs
    come_to =
        let w : LooksNewer (state_of (thinned k)) at v cs = looks_newer (state_of (thinned k)) at v cs r.restorable.entry h.stands.places in
        put_in_all_agree w.test (root (left_by n k.stack)) (root (drop (suc at) thin)) (λ l t. ap (λ z. root z l) now_left ∙ root_past (take at thin) (drop (suc at) thin) l (w.older l t)) cs w.passes

  pub can_back : CanComeBack v k.maps k.stack
  can_back =
      record {
        clauses = cs;
        gone = gone;
        there = there;
        retired = retired;
        others = λ i n g. others n i g;
        active = λ i n g. ap (each_lit (has_inner n)) (come_to n i g) ∙ restored_active (thinned k) n at v i cs g r.restorable h;
      }

  -- it came back
  module _ (n : Maps) (t : Store) (b : ComesBack v k.stack k.maps n k.store t) where
    clauses_are : b.clauses ≡ cs
    clauses_are = same_clauses v k.stack cs b.clauses (named_once k.stack o v.0) gone b.gone

    done : Restoration (thinned k) (thinned (record k { maps = n; store = t })) at v cs b.holds.fresh
    done =
        record {
          items = refl;
          entries = refl;
          definitions = refl;
          inner = b.inner;
          maps = b.maps;
          stack = now_left n b.inner b.maps;
          stack_mark = now_counted n b.inner b.maps;
          okay = refl;
          extends = b.holds.extends;
          become = b.holds.become ∙ ap (map hard_clause) (ap (λ z. put_in_all (root (left_by n k.stack)) z) clauses_are ∙ come_to n b.inner b.maps);
        }

    pub came_back : Restores (state_of (thinned k)) (state_of (thinned (record k { maps = n; store = t }))) v
    came_back = record { place = at; clauses = cs; restorable = r.restorable; becomes = restored_state (thinned k) (thinned (record k { maps = n; store = t })) at v cs b.holds.fresh done h.stands }

    pub back_stands : Standing (thinned (record k { maps = n; store = t }))
    back_stands = restored-Standing (thinned k) (thinned (record k { maps = n; store = t })) at v cs b.holds.fresh done r.restorable h

-- a refusal leaves the state as it was
pub refused_state : (k : Kernel) (n : Maps) (t : Store) → SayTheSame k.maps n → t.held ≡ k.store.held → t.mark ≡ k.store.mark → state_of (thinned (record k { maps = n; store = t })) ≡ state_of (thinned k)
refused_state k n t s e m =
    ap (λ (p : Entry → Bool). state_of (record k { maps = n; store = t; stack = filter p k.stack; stack_mark = length (filter p (take k.stack_mark k.stack)) })) (ap (λ (z : List (Option Inner)). stays (λ j. is_some (get_or z j None))) s.inners)
    ∙ same_state (thinned k) n t s e m

pub refused_stands : (k : Kernel) (n : Maps) (t : Store) → SayTheSame k.maps n → t.held ≡ k.store.held → t.mark ≡ k.store.mark → Standing (thinned k) → Standing (thinned (record k { maps = n; store = t }))
refused_stands k n t s e m h =
    same_state-Standing (thinned k) (thinned (record k { maps = n; store = t })) (refused_state k n t s e m) s.outers s.outer_numbers (thinned_within (record k { maps = n; store = t })) h
