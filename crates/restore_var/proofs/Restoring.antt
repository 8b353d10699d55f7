-- The stack while marked variables are restored, from its newest entry to its oldest.
use Rattle.std.proofs.Common.{◌≡◌, ℕ, zero, suc, ◌+◌, ◌<◌, ◌≤◌, ◌==◌, Bool, true, false, cond, not, ◌&&◌, ◌||◌, List, [], ◌∷◌, ◌++◌, Option, Some, None, refl, sym, ap, ◌∙◌, arith, length, take, drop, slice_get, remove, filter, append_assoc, append-nil, eq-eqb, eqb-true, Result, Ok, Err}
use Rattle.std.proofs.lemmas.Bool.{and_from, or_parts}
use Rattle.std.proofs.lemmas.Option.{slice_get_within}
use Rattle.std.proofs.lemmas.List.{take_all, drop_all}
use Rattle.std.specs.Prelude.{OnOk, OnErr}
use Rattle.std.specs.List.{list_all, list_any}
use Rattle.sat_lits.specs.ListLaws.{all_mono, both_all, all_get, all_push, all_or_any, all_front}
use Rattle.sat_lits.specs.declared.literal.Own.{Own}
use Rattle.sat_lits.specs.declared.literal.OwnLit.{OwnLit}
use Rattle.sat_lits.specs.declared.list.NoMemory.{NoMemory}
use Rattle.rebuild_stack.specs.Entries.{names, is_block_of, times_named}
use Rattle.rebuild_stack.specs.Roots.{root, is_lost}
use Rattle.rebuild_stack.specs.CommonLaws.{cond_at}
use Rattle.rebuild_stack.specs.RootLaws.{root_past}
use Rattle.rebuild_stack.specs.OrderLaws.{times_named-append}
use Rattle.rebuild_stack.specs.declared.entry.Entry.{Entry}
use Rattle.rebuild_stack.specs.declared.entry.Entry.TheVariants.{Fix, Equal, Gone}
use Rattle.rebuild_stack.specs.declared.entry.Root.TheVariants.{Last, Lost}
use Rattle.state_laws.specs.State.{State, is_active}
use Rattle.state_laws.specs.Stands.{Stands, IsPlaced}
use Rattle.state_laws.specs.PlaceLaws.{once_named}
use Rattle.state_laws.specs.RestoreLaws.{split_at}
use Rattle.removed_vars.specs.CollectLaws.{taken_some}
use Rattle.removed_vars.specs.RestoringLaws.{LooksNewer, looks_newer, place_once}
use Rattle.removed_vars.specs.Restoring.{stays}
use Rattle.private_state.specs.Restoring.{CanRestore, Restores, CanRestoreAll, AreRestored, RestoresFew}
use Rattle.private_state.specs.RestoringLaws.{can_more, restored_before}
use Rattle.restore_var.specs.Needs.{is_among, all_pass, none_gone, leads_to, clause_leads, block_leads, hands_on, is_closed, marked_block, AreFree, AreNeeded}
use Rattle.restore_var.specs.Restored.{AreMarkedGone, RestoresMarked, RestoresNeeded}
use Rattle.restore_var.specs.RestoredLaws.{still_stands}
use Rattle.restore_var.proofs.Needing.{leads_mono}
use Rattle.restore_var.proofs.Leading.{AreSingle, not_lost}

-- the stack where the entries before a place were not looked at yet
abbrev pub half_restored : (ℕ → Bool) → List Entry → ℕ → List Entry
half_restored m s at = take at s ++ filter (stays m) (drop at s)

drop_some : {X : Type 0} (xs : List X) (i : ℕ) (x : X) → slice_get xs i ≡ Some x → drop i xs ≡ x ∷ drop (suc i) xs
drop_some [] i x e = cc
drop_some (y ∷ xs) zero x e = let h : y ≡ x = cc in ap (λ z. z ∷ xs) h
drop_some (y ∷ xs) (suc i) x e = drop_some xs i x e

seam : {X : Type 0} (xs : List X) (i : ℕ) (y : X) (ys : List X) → i < length xs → slice_get (take i xs ++ y ∷ ys) i ≡ Some y
seam [] i y ys l = absurd (omega arith)
seam (x ∷ xs) zero y ys l = refl
seam (x ∷ xs) (suc i) y ys l = seam xs i y ys (omega arith)

remove_seam : {X : Type 0} (xs : List X) (i : ℕ) (y : X) (ys : List X) → i < length xs → remove (take i xs ++ y ∷ ys) i ≡ take i xs ++ ys
remove_seam [] i y ys l = absurd (omega arith)
remove_seam (x ∷ xs) zero y ys l = refl
remove_seam (x ∷ xs) (suc i) y ys l = ap (λ z. x ∷ z) (remove_seam xs i y ys (omega arith))

-- the entry at a place stands between those before it and those that stayed
pub half_at : (m : ℕ → Bool) (s : List Entry) (at : ℕ) (e : Entry) → slice_get s at ≡ Some e → half_restored m s (at + 1) ≡ take at s ++ e ∷ filter (stays m) (drop (suc at) s)
half_at m s at e f =
    ap (λ z. z ++ filter (stays m) (drop (at + 1) s)) (taken_some s at e f)
    ∙ (append_assoc (take at s) (e ∷ []) (filter (stays m) (drop (at + 1) s)) ∙ ap (λ (k : ℕ). take at s ++ e ∷ filter (stays m) (drop k s)) (let q : at + 1 ≡ suc at = omega arith in q))

-- the same with the entry looked at
half_next : (m : ℕ → Bool) (s : List Entry) (at : ℕ) (e : Entry) → slice_get s at ≡ Some e → half_restored m s at ≡ take at s ++ cond (stays m e) (e ∷ filter (stays m) (drop (suc at) s)) (filter (stays m) (drop (suc at) s))
half_next m s at e f = ap (λ z. take at s ++ filter (stays m) z) (drop_some s at e f)

-- an entry that stays
pub half_kept : (m : ℕ → Bool) (s : List Entry) (at : ℕ) (e : Entry) → slice_get s at ≡ Some e → None ≡ marked_block m e → half_restored m s (at + 1) ≡ half_restored m s at
half_kept m s at e f n = half_at m s at e f ∙ sym (half_next m s at e f ∙ ap (λ b. take at s ++ cond b (e ∷ filter (stays m) (drop (suc at) s)) (filter (stays m) (drop (suc at) s))) (kept e n))
  where
    unmarked : (b : Bool) (v : Own) → None ≡ cond b (Some v) None → not (true && b) ≡ true
    unmarked true v q = cc
    unmarked false v q = refl

    kept : (e : Entry) → None ≡ marked_block m e → stays m e ≡ true
    kept (Fix l) q = refl
    kept (Equal v l) q = refl
    kept (Gone v cs) q = unmarked (m v.0) v q

-- the entry of a marked variable
pub record IsMarkedAt (m : ℕ → Bool) (e : Entry) (v : Own) : Type 0 where
  pub clauses : List (List OwnLit)
  pub entry : e ≡ Gone v clauses
  pub marked : m v.0 ≡ true

pub marked_is : (m : ℕ → Bool) (e : Entry) (v : Own) → Some v ≡ marked_block m e → IsMarkedAt m e v
marked_is m (Fix l) v q = cc
marked_is m (Equal w l) v q = cc
marked_is m (Gone w cs) v q = go (m w.0) refl q
  where
    same_own : (x y : Own) → Some x ≡ Some y → x ≡ y
    same_own x y z = cc

    go : (b : Bool) → m w.0 ≡ b → Some v ≡ cond b (Some w) None → IsMarkedAt m (Gone w cs) v
    go true r z = let h : v ≡ w = same_own v w z in record { clauses = cs; entry = ap (λ (x : Own). let g : Entry = Gone x cs in g) (sym h); marked = ap (λ (x : Own). m x.0) h ∙ r }
    go false r z = cc

single : (s : State) → IsPlaced s → AreSingle s.stack
single s h k = let b : times_named k s.stack + cond {A = ℕ} (is_active s k) 1 0 ≤ 1 = once_named s k h in omega arith

-- the variable can be restored where all that it needs was
pub can_restore : (s t : State) (at : ℕ) (v : Own) (cs : List (List OwnLit)) (m : ℕ → Bool) → IsPlaced s → slice_get s.stack at ≡ Some (Gone v cs) → is_closed m s.stack ≡ true → m v.0 ≡ true → t.stack ≡ half_restored m s.stack (at + 1) → CanRestore t v
can_restore s t at v cs m h f c marked e = record { place = at; clauses = cs; restorable = record { entry = ap (λ z. slice_get z at) form ∙ seam s.stack at (Gone v cs) rest (slice_get_within s.stack at (Gone v cs) f); roots = roots } }
  where
    older : List Entry
    older = take at s.stack

    newer : List Entry
    newer = drop (suc at) s.stack

    rest : List Entry
    rest = filter (stays m) newer

    form : t.stack ≡ older ++ Gone v cs ∷ rest
    form = e ∙ half_at m s.stack at (Gone v cs) f

    n : LooksNewer s at v cs
    n = looks_newer s at v cs f h

    alone : AreSingle newer
    alone k =
        let a : times_named k s.stack ≡ times_named k older + (cond {A = ℕ} (names k (Gone v cs)) 1 0 + times_named k newer) = ap (times_named k) (split_at s.stack at (Gone v cs) f) ∙ times_named-append k older (Gone v cs ∷ newer) in
        let b : times_named k s.stack ≤ 1 = single s h k in
        omega arith

    needs : block_leads s.stack cs m ≡ true
    needs = only (m v.0) marked (all_get (hands_on m s.stack) s.stack at (Gone v cs) f c)
      where
        only : (b : Bool) → b ≡ true → (not b || block_leads s.stack cs m) ≡ true → block_leads s.stack cs m ≡ true
        only true p q = q
        only false p q = cc

    step : (l : OwnLit) → n.test l ≡ true → leads_to m (root s.stack l) ≡ true → ((l.var.0 == v.0) || not (is_lost (root t.stack l))) ≡ true
    step l p q = go (l.var.0 == v.0) refl
      where
        go : (b : Bool) → (l.var.0 == v.0) ≡ b → (b || not (is_lost (root t.stack l))) ≡ true
        go true r = refl
        go false r =
            ap (λ z. not (is_lost (root z l))) form
            ∙ (ap (λ z. not (is_lost z)) (root_past older (Gone v cs ∷ rest) l (n.older l p) ∙ cond_at (l.var.0 == v.0) (Lost v) (root rest l) r)
            ∙ ap not (not_lost m newer l alone (sym (ap (leads_to m) (sym (cond_at (l.var.0 == v.0) (Last l) (root s.stack l) r) ∙ n.roots l p)) ∙ q)))

    roots : list_all (λ c. list_all (λ l. (l.var.0 == v.0) || not (is_lost (root t.stack l))) c) cs ≡ true
    roots = both_all (list_all n.test) (λ c. clause_leads s.stack c m) (λ c. list_all (λ l. (l.var.0 == v.0) || not (is_lost (root t.stack l))) c)
        (λ c a b. both_all n.test (λ l. leads_to m (root s.stack l)) (λ l. (l.var.0 == v.0) || not (is_lost (root t.stack l))) step c a b) cs n.passes needs

-- and its entry is gone then
pub half_gone : (s t u : State) (at : ℕ) (v : Own) (cs : List (List OwnLit)) (m : ℕ → Bool) → IsPlaced t → slice_get s.stack at ≡ Some (Gone v cs) → m v.0 ≡ true → t.stack ≡ half_restored m s.stack (at + 1) → Restores t u v → u.stack ≡ half_restored m s.stack at
half_gone s t u at v cs m h f marked e r =
    ap (λ (z : State). z.stack) r.becomes
    ∙ (ap (λ (k : ℕ). remove t.stack k) here ∙ (ap (λ z. remove z at) form ∙ (remove_seam s.stack at (Gone v cs) rest within
    ∙ sym (half_next m s.stack at (Gone v cs) f ∙ ap (λ b. take at s.stack ++ cond (not (true && b)) (Gone v cs ∷ rest) rest) marked))))
  where
    rest : List Entry
    rest = filter (stays m) (drop (suc at) s.stack)

    form : t.stack ≡ take at s.stack ++ Gone v cs ∷ rest
    form = e ∙ half_at m s.stack at (Gone v cs) f

    within : at < length s.stack
    within = slice_get_within s.stack at (Gone v cs) f

    here : r.place ≡ at
    here = place_once v.0 t.stack r.place at (Gone v r.clauses) (Gone v cs) (single t h v.0) r.restorable.entry (eq-eqb v.0 v.0 refl) (ap (λ z. slice_get z at) form ∙ seam s.stack at (Gone v cs) rest within) (eq-eqb v.0 v.0 refl)

-- no marked variable is eliminated afterwards
no_block : (m : ℕ → Bool) (s : List Entry) (v : Own) → m v.0 ≡ true → list_any (is_block_of v) (filter (stays m) s) ≡ false
no_block m [] v e = refl
no_block m (d ∷ s) v e = go d (no_block m s v e)
  where
    go : (d : Entry) → list_any (is_block_of v) (filter (stays m) s) ≡ false → list_any (is_block_of v) (cond (stays m d) (d ∷ filter (stays m) s) (filter (stays m) s)) ≡ false
    go (Fix l) r = r
    go (Equal w l) r = r
    go (Gone w cs) r = each (m w.0) refl
      where
        other : m w.0 ≡ false → (b : Bool) → (w.0 == v.0) ≡ b → b ≡ false
        other q true z = sym e ∙ (sym (ap m (eqb-true w.0 v.0 z)) ∙ q)
        other q false z = refl

        each : (b : Bool) → m w.0 ≡ b → list_any (is_block_of v) (cond (not (true && b)) (Gone w cs ∷ filter (stays m) s) (filter (stays m) s)) ≡ false
        each true q = r
        each false q = ap (λ b. (true && b) || list_any (is_block_of v) (filter (stays m) s)) (other q (w.0 == v.0) refl) ∙ r

pub none_left : (m : ℕ → Bool) (s : List Entry) (vars : List Own) → all_pass m vars ≡ true → none_gone (filter (stays m) s) vars ≡ true
none_left m s vars e = all_mono (λ v. m v.0) (λ v. not (list_any (is_block_of v) (filter (stays m) s))) (λ v q. ap not (no_block m s v q)) vars e

-- and literals that came to the variables come to no eliminated one
pub all_free : (m : ℕ → Bool) (s : State) (vars : List Own) → IsPlaced s → ((k : ℕ) → is_among vars k ≡ true → m k ≡ true) → AreFree vars s.stack (filter (stays m) s.stack)
all_free m s vars h f l e = not_lost m s.stack l (single s h) (leads_mono (is_among vars) m f (root s.stack l) e)

-- the entry that is looked at
record IsThere (s : List Entry) (at : ℕ) : Type 0 where
  pub entry : Entry
  pub here : slice_get s at ≡ Some entry

there : (s : List Entry) (at : ℕ) → at < length s → IsThere s at
there [] at l = absurd (omega arith)
there (x ∷ s) zero l = record { entry = x; here = refl }
there (x ∷ s) (suc at) l = let e : IsThere s at = there s at (omega arith) in record { entry = e.entry; here = e.here }

-- where a walk down the stack has come: these can be restored, and what the stack is then
pub record AreHalfway (m : ℕ → Bool) (s : State) (vars : List Own) (k : ℕ) : Type 0 where
  pub can : CanRestoreAll vars s
  pub marked : all_pass m vars ≡ true
  pub left : (t : State) → AreRestored vars s t → t.stack ≡ half_restored m s.stack k
  pub within : k ≤ length s.stack

-- at first nothing is restored
pub none_listed : (m : ℕ → Bool) (s : State) → AreHalfway m s [] (length s.stack)
none_listed m s = record { can = tt; marked = refl; left = λ t a. ap (λ (z : State). z.stack) a ∙ sym whole; within = omega arith }
  where
    whole : half_restored m s.stack (length s.stack) ≡ s.stack
    whole =
        ap (λ z. z ++ filter (stays m) (drop (length s.stack) s.stack)) (take_all (length s.stack) s.stack (omega arith))
        ∙ (ap (λ z. s.stack ++ filter (stays m) z) (drop_all (length s.stack) s.stack (omega arith)) ∙ append-nil s.stack)

-- a marked variable is listed
pub next_listed : (m : ℕ → Bool) (s : State) (vars : List Own) (at : ℕ) (v : Own) → Stands s → is_closed m s.stack ≡ true → AreHalfway m s vars (at + 1) → ((e : Entry) → slice_get s.stack at ≡ Some e → Some v ≡ marked_block m e) → AreHalfway m s (vars ++ v ∷ []) at
next_listed m s vars at v h c w o =
    let l : at + 1 ≤ length s.stack = w.within in
    let e : IsThere s.stack at = there s.stack at (omega arith) in
    let g : IsMarkedAt m e.entry v = marked_is m e.entry v (o e.entry e.here) in
    let f : slice_get s.stack at ≡ Some (Gone v g.clauses) = e.here ∙ ap (λ (z : Entry). let x : Option Entry = Some z in x) g.entry in
    record {
      can = can_more vars s v w.can (λ t a. can_restore s t at v g.clauses m h.places f c g.marked (w.left t a));
      marked = all_push (λ (x : Own). m x.0) vars v w.marked g.marked;
      left = λ u a.
          let (t, b) = restored_before vars s u v a in
          half_gone s t u at v g.clauses m (still_stands vars s t b.0 h).places f g.marked (w.left t b.0) b.1;
      within = omega arith;
    }

-- where no marked variable stands, none is
pub next_kept : (m : ℕ → Bool) (s : State) (vars : List Own) (at : ℕ) → AreHalfway m s vars (at + 1) → ((e : Entry) → slice_get s.stack at ≡ Some e → None ≡ marked_block m e) → AreHalfway m s vars at
next_kept m s vars at w o =
    let l : at + 1 ≤ length s.stack = w.within in
    let e : IsThere s.stack at = there s.stack at (omega arith) in
    record { can = w.can; marked = w.marked; left = λ t a. w.left t a ∙ half_kept m s.stack at e.entry e.here (o e.entry e.here); within = omega arith }

-- in the end all are listed
pub all_listed : (m : ℕ → Bool) (s : State) (vars : List Own) → AreHalfway m s vars 0 → AreMarkedGone m s vars
all_listed m s vars w = record { can = w.can; marked = w.marked; left = w.left }

-- none was restored but marked ones, whether or not it was all
pub marked_moves : (m : ℕ → Bool) (s t : State) (vars : List Own) (r : Result (Unit {0}) NoMemory) → AreMarkedGone m s vars → OnOk r (AreRestored vars s t) → OnErr r (RestoresFew vars s t) → RestoresMarked m s t
marked_moves m s t vars (Ok u) g a b = record { restored = vars; moves = a; marked = g.marked }
marked_moves m s t vars (Err x) g a b = record { restored = take b.count vars; moves = b.moves; marked = all_front (λ (v : Own). m v.0) b.count vars g.marked }

-- none of the variables is eliminated where no test finds one
pub none_found : (r : Bool) (s : List Entry) (vars : List Own) → r ≡ false → r ≡ list_any (λ v. list_any (is_block_of v) s) vars → none_gone s vars ≡ true
none_found r s vars n e = each vars (sym e ∙ n)
  where
    each : (vs : List Own) → list_any (λ v. list_any (is_block_of v) s) vs ≡ false → none_gone s vs ≡ true
    each [] q = refl
    each (v ∷ vs) q = let p : (list_any (is_block_of v) s ≡ false) × (list_any (λ w. list_any (is_block_of w) s) vs ≡ false) = or_parts _ _ q in and_from _ _ (ap not p.0) (each vs p.1)

-- all of the variables are marked
pub among_marked : (m : ℕ → Bool) (vars : List Own) → all_pass m vars ≡ true → (k : ℕ) → is_among vars k ≡ true → m k ≡ true
among_marked m vars a k e = all_or_any (λ v. m v.0) (λ v. v.0 == k) (m k ≡ true) vars a e (λ v x y. sym (ap m (eqb-true v.0 k y)) ∙ x)

-- only what is needed was restored
pub needed_moves : (m : ℕ → Bool) (vars : List Own) (s t : State) → AreNeeded vars s.stack m → RestoresMarked m s t → RestoresNeeded vars s t
needed_moves m vars s t n r = record { restored = r.restored; moves = r.moves; needed = λ p a c. all_mono (λ v. m v.0) (λ v. p v.0) (λ v q. n.least p a c v.0 q) r.restored r.marked }
