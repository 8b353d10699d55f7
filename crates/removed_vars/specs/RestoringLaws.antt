-- What the clauses of a restored variable come to.
use Rattle.std.proofs.Common.{◌≡◌, ℕ, zero, suc, ◌+◌, ◌≤◌, ◌==◌, ◌⊎◌, Bool, true, false, cond, ◌||◌, List, [], ◌∷◌, ◌++◌, Option, Some, refl, sym, ap, subst, ◌∙◌, ⊎_elim, arith, take, drop, slice_get, fold, ap₂}
use Rattle.std.proofs.lemmas.Bool.{and_parts, or_cases}
use Rattle.std.proofs.lemmas.List.Elements.{filter_map-append}
use Rattle.std.specs.List.{list_any, list_all, cons_option}
use Rattle.sat_lits.specs.ListLaws.{any_get}
use Rattle.sat_lits.specs.declared.literal.Own.{Own}
use Rattle.sat_lits.specs.declared.literal.OwnLit.{OwnLit}
use Rattle.rebuild_stack.specs.Entries.{names, times_named, ordered}
use Rattle.rebuild_stack.specs.Roots.{root}
use Rattle.rebuild_stack.specs.PutIn.{add_root, put_in, put_in_all}
use Rattle.rebuild_stack.specs.CommonLaws.{cond_at}
use Rattle.rebuild_stack.specs.RootLaws.{root_past, root_unnamed}
use Rattle.rebuild_stack.specs.OrderLaws.{times_named-append, times_any, unnamed, ordered_newer}
use Rattle.rebuild_stack.specs.declared.entry.Entry.{Entry}
use Rattle.rebuild_stack.specs.declared.entry.Entry.TheVariants.{Gone}
use Rattle.rebuild_stack.specs.declared.entry.Root.{Root}
use Rattle.rebuild_stack.specs.declared.entry.Root.TheVariants.{Last, Lost}
use Rattle.state_laws.specs.State.{State, is_active}
use Rattle.state_laws.specs.Stands.{IsPlaced}
use Rattle.state_laws.specs.PlaceLaws.{one_if, once_named}
use Rattle.state_laws.specs.RestoreLaws.{split_at}
use Rattle.removed_vars.specs.CollectLaws.{taken_some}

-- clauses of literals that come to the same are the same
fold_agree : (test : OwnLit → Bool) (r q : OwnLit → Root) → ((l : OwnLit) → test l ≡ true → r l ≡ q l) → (o : Option (List OwnLit)) (c : List OwnLit) → list_all test c ≡ true → fold (λ o l. add_root (r l) o) o c ≡ fold (λ o l. add_root (q l) o) o c
fold_agree test r q same o [] e = refl
fold_agree test r q same o (l ∷ c) e =
    let p : (test l ≡ true) × (list_all test c ≡ true) = and_parts _ _ e in
    ap (λ (x : Root). fold (λ o l. add_root (r l) o) (add_root x o) c) (same l p.0) ∙ fold_agree test r q same (add_root (q l) o) c p.1

pub put_in_all_agree : (test : OwnLit → Bool) (r q : OwnLit → Root) → ((l : OwnLit) → test l ≡ true → r l ≡ q l) → (cs : List (List OwnLit)) → list_all (list_all test) cs ≡ true → put_in_all r cs ≡ put_in_all q cs
put_in_all_agree test r q same [] e = refl
put_in_all_agree test r q same (c ∷ cs) e =
    let p : (list_all test c ≡ true) × (list_all (list_all test) cs ≡ true) = and_parts _ _ e in
    ap₂ {C = List (List OwnLit)} cons_option (fold_agree test r q same (Some []) c p.0) (put_in_all_agree test r q same cs p.1)

-- what a literal comes to, but one of the variable, which is left as it is
abbrev pub root_but : ℕ → List Entry → OwnLit → Root
root_but v s l = cond (l.var.0 == v) (Last l) (root s l)

-- a test that all literals of an entry's clauses pass; no older entry names a literal that passes, and along all entries but its own it comes to what it comes to along the newer ones
pub record LooksNewer (s : State) (at : ℕ) (v : Own) (cs : List (List OwnLit)) : Type 0 where
  pub test : OwnLit → Bool
  pub passes : list_all (list_all test) cs ≡ true
  pub older : (l : OwnLit) → test l ≡ true → list_any (names l.var.0) (take at s.stack) ≡ false
  pub roots : (l : OwnLit) → test l ≡ true → root_but v.0 s.stack l ≡ root (drop (suc at) s.stack) l

-- the literals of an entry's clauses are of its own variable, active, or named by newer entries
pub looks_newer : (s : State) (at : ℕ) (v : Own) (cs : List (List OwnLit)) → slice_get s.stack at ≡ Some (Gone v cs) → IsPlaced s → LooksNewer s at v cs
looks_newer s at v cs entry h = record { test = here; passes = passes; older = not_older; roots = same }
  where
    older : List Entry
    older = take at s.stack

    newer : List Entry
    newer = drop (suc at) s.stack

    e : s.stack ≡ older ++ Gone v cs ∷ newer
    e = split_at s.stack at (Gone v cs) entry

    here : OwnLit → Bool
    here l = (l.var.0 == v.0) || (is_active s l.var.0 || list_any (names l.var.0) newer)

    passes : list_all (list_all here) cs ≡ true
    passes =
        let p : (list_all (λ c. list_all here c) cs ≡ true) × (ordered (is_active s) newer ≡ true) =
        and_parts _ _ (ordered_newer (is_active s) older (Gone v cs ∷ newer) (subst (λ z. ordered (is_active s) z ≡ true) e h.placed.in_order)) in p.0

    count : (k : ℕ) → times_named k older + (cond {A = ℕ} (k == v.0) 1 0 + times_named k newer) + cond {A = ℕ} (is_active s k) 1 0 ≤ 1
    count k =
        let a : times_named k s.stack ≡ times_named k older + (cond {A = ℕ} (k == v.0) 1 0 + times_named k newer) = ap (times_named k) e ∙ times_named-append k older (Gone v cs ∷ newer) in
        let b : times_named k s.stack + cond {A = ℕ} (is_active s k) 1 0 ≤ 1 = once_named s k h in
        omega arith

    not_older : (l : OwnLit) → here l ≡ true → list_any (names l.var.0) older ≡ false
    not_older l t = unnamed l.var.0 older (none (count l.var.0) (or_cases _ _ t))
      where
        none : times_named l.var.0 older + (cond {A = ℕ} (l.var.0 == v.0) 1 0 + times_named l.var.0 newer) + cond {A = ℕ} (is_active s l.var.0) 1 0 ≤ 1
            → ((l.var.0 == v.0) ≡ true) ⊎ ((is_active s l.var.0 || list_any (names l.var.0) newer) ≡ true) → times_named l.var.0 older ≡ 0
        none c w =
            ⊎_elim
            (λ p. let q : cond {A = ℕ} (l.var.0 == v.0) 1 0 ≡ 1 = one_if _ p in omega arith)
            (λ p. ⊎_elim
            (λ a. let q : cond {A = ℕ} (is_active s l.var.0) 1 0 ≡ 1 = one_if _ a in omega arith)
            (λ a. let q : 1 ≤ times_named l.var.0 newer = times_any l.var.0 newer a in omega arith)
            (or_cases _ _ p))
            w

    not_newer : (l : OwnLit) → (l.var.0 == v.0) ≡ true → list_any (names l.var.0) newer ≡ false
    not_newer l p =
        unnamed l.var.0 newer
        (let q : cond {A = ℕ} (l.var.0 == v.0) 1 0 ≡ 1 = one_if _ p in
        let c : times_named l.var.0 older + (cond {A = ℕ} (l.var.0 == v.0) 1 0 + times_named l.var.0 newer) + cond {A = ℕ} (is_active s l.var.0) 1 0 ≤ 1 = count l.var.0 in
        omega arith)

    same : (l : OwnLit) → here l ≡ true → root_but v.0 s.stack l ≡ root newer l
    same l t = go (l.var.0 == v.0) refl
      where
        go : (b : Bool) → (l.var.0 == v.0) ≡ b → cond b (Last l) (root s.stack l) ≡ root newer l
        go true q = sym (root_unnamed newer l (not_newer l q))
        go false q = ap (λ z. root z l) e ∙ (root_past older (Gone v cs ∷ newer) l (not_older l t) ∙ cond_at (l.var.0 == v.0) (Lost v) (root newer l) q)

-- so the clauses come to what they come to along the newer entries
pub but_newer : (s : State) (at : ℕ) (v : Own) (cs : List (List OwnLit)) → slice_get s.stack at ≡ Some (Gone v cs) → IsPlaced s → put_in_all (root_but v.0 s.stack) cs ≡ put_in_all (root (drop (suc at) s.stack)) cs
but_newer s at v cs entry h =
    let n : LooksNewer s at v cs = looks_newer s at v cs entry h in
    put_in_all_agree n.test (root_but v.0 s.stack) (root (drop (suc at) s.stack)) n.roots cs n.passes

-- what one clause more comes to
pub put_more : (r : OwnLit → Root) (cs : List (List OwnLit)) (k : ℕ) (c : List OwnLit) → slice_get cs k ≡ Some c → put_in_all r (take (k + 1) cs) ≡ put_in_all r (take k cs) ++ put_in_all r (c ∷ [])
put_more r cs k c e = ap (put_in_all r) (taken_some cs k c e) ∙ filter_map-append (put_in r) (take k cs) (c ∷ [])

-- a variable that is named once at most stands at one place
pub place_once : (k : ℕ) (s : List Entry) (i j : ℕ) (e f : Entry) → times_named k s ≤ 1 → slice_get s i ≡ Some e → names k e ≡ true → slice_get s j ≡ Some f → names k f ≡ true → i ≡ j
place_once k [] i j e f t p n q m = cc
place_once k (x ∷ s) zero zero e f t p n q m = refl
place_once k (x ∷ s) zero (suc j) e f t p n q m =
    let same : x ≡ e = cc in
    let one : cond {A = ℕ} (names k x) 1 0 ≡ 1 = one_if _ (ap (names k) same ∙ n) in
    let more : 1 ≤ times_named k s = times_any k s (any_get (names k) s j f q m) in
    absurd (omega arith)
place_once k (x ∷ s) (suc i) zero e f t p n q m =
    let same : x ≡ f = cc in
    let one : cond {A = ℕ} (names k x) 1 0 ≡ 1 = one_if _ (ap (names k) same ∙ m) in
    let more : 1 ≤ times_named k s = times_any k s (any_get (names k) s i e p n) in
    absurd (omega arith)
place_once k (x ∷ s) (suc i) (suc j) e f t p n q m = ap suc (place_once k s i j e f (omega arith) p n q m)
