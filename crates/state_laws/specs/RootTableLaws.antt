-- What a literal comes to, read from the entry that names its variable.
use Rattle.std.proofs.Common.{◌≡◌, ℕ, suc, ◌+◌, ◌<◌, ◌≤◌, ◌==◌, Bool, true, false, cond, not, ◌||◌, List, [], ◌∷◌, ◌++◌, Option, Some, None, find, refl, sym, ap, ◌∙◌, ⊎_elim, arith, length, eqb-true, eq-eqb}
use Rattle.std.proofs.lemmas.Bool.{and_parts, or_cases, or_right, false≢true}
use Rattle.std.specs.List.{list_any}
use Rattle.sat_lits.specs.Truth.{signed}
use Rattle.sat_lits.specs.declared.literal.Own.{Own}
use Rattle.sat_lits.specs.declared.literal.OwnLit.{OwnLit}
use Rattle.rebuild_stack.specs.Entries.{named, names, others_pass, ordered, times_named}
use Rattle.rebuild_stack.specs.Roots.{turned, root}
use Rattle.rebuild_stack.specs.OrderLaws.{times_any}
use Rattle.rebuild_stack.specs.CommonLaws.{cond_at}
use Rattle.rebuild_stack.specs.declared.entry.Entry.{Entry}
use Rattle.rebuild_stack.specs.declared.entry.Entry.TheVariants.{Fix, Equal, Gone}
use Rattle.rebuild_stack.specs.declared.entry.Root.TheVariants.{Known, Last, Lost}
use Rattle.state_laws.specs.PlaceLaws.{one_if}

-- the entry that gives a variable its value: the oldest that names it
abbrev pub entry_of : ℕ → List Entry → Option Entry
entry_of k s = find (names k) s

-- how many entries stand from the one that names a variable to the newest, 0 where none names it
abbrev pub depth : ℕ → List Entry → ℕ
depth k [] = 0
depth k (e ∷ newer) = cond (names k e) (suc (length newer)) (depth k newer)

some_entry : (x y : Entry) → Some x ≡ Some y → x ≡ y
some_entry x y q = cc

-- the entry of a variable names it
pub entry_of-named : (k : ℕ) (s : List Entry) (e : Entry) → entry_of k s ≡ Some e → k ≡ named e
entry_of-named k [] e f = cc
entry_of-named k (x ∷ newer) e f = go (names k x) refl (entry_of-named k newer e) f
  where
    go : (b : Bool) → names k x ≡ b → (entry_of k newer ≡ Some e → k ≡ named e) → cond b (Some x) (entry_of k newer) ≡ Some e → k ≡ named e
    go true n r q = eqb-true _ _ n ∙ ap named (some_entry x e q)
    go false n r q = r q

-- a variable has an entry where some entry names it
pub entry_of-none : (k : ℕ) (s : List Entry) → list_any (names k) s ≡ false → entry_of k s ≡ None
entry_of-none k [] e = refl
entry_of-none k (x ∷ newer) e = go (names k x) (entry_of-none k newer) e
  where
    go : (b : Bool) → (list_any (names k) newer ≡ false → entry_of k newer ≡ None) → (b || list_any (names k) newer) ≡ false → cond b (Some x) (entry_of k newer) ≡ None
    go true r q = absurd (false≢true (sym q))
    go false r q = r q

-- and only there
pub entry_of-some : (k : ℕ) (s : List Entry) (e : Entry) → entry_of k s ≡ Some e → list_any (names k) s ≡ true
entry_of-some k [] e f = cc
entry_of-some k (x ∷ newer) e f = go (names k x) (entry_of-some k newer e) f
  where
    go : (b : Bool) → (entry_of k newer ≡ Some e → list_any (names k) newer ≡ true) → cond b (Some x) (entry_of k newer) ≡ Some e → (b || list_any (names k) newer) ≡ true
    go true r q = refl
    go false r q = r q

-- a new entry is that of its own variable, where no older one names it
pub entry_of-push : (k : ℕ) (s : List Entry) (e : Entry) → list_any (names (named e)) s ≡ false → entry_of k (s ++ e ∷ []) ≡ cond (k == named e) (Some e) (entry_of k s)
entry_of-push k s e h = go (k == named e) refl
  where
    first : (n : ℕ) (s : List Entry) → list_any (names n) s ≡ false → entry_of n (s ++ e ∷ []) ≡ cond (names n e) (Some e) None
    first n [] q = refl
    first n (x ∷ s) q = step (names n x) (first n s) q
      where
        step : (b : Bool) → (list_any (names n) s ≡ false → entry_of n (s ++ e ∷ []) ≡ cond (names n e) (Some e) None) → (b || list_any (names n) s) ≡ false → cond b (Some x) (entry_of n (s ++ e ∷ [])) ≡ cond (names n e) (Some e) None
        step true r q = absurd (false≢true (sym q))
        step false r q = r q

    other : (n : ℕ) (s : List Entry) → names n e ≡ false → entry_of n (s ++ e ∷ []) ≡ entry_of n s
    other n [] q = ap (λ b. cond b (Some e) None) q
    other n (x ∷ s) q = ap (λ z. cond (names n x) (Some x) z) (other n s q)

    go : (b : Bool) → (k == named e) ≡ b → entry_of k (s ++ e ∷ []) ≡ cond b (Some e) (entry_of k s)
    go true q = ap (λ (n : ℕ). entry_of n (s ++ e ∷ [])) (eqb-true _ _ q) ∙ (first (named e) s h ∙ ap (λ b. cond b (Some e) None) (eq-eqb (named e) (named e) refl))
    go false q = other k s q

-- a literal whose variable has no entry is left
pub root_without_entry : (s : List Entry) (l : OwnLit) → entry_of l.var.0 s ≡ None → root s l ≡ Last l
root_without_entry [] l h = refl
root_without_entry (Fix k ∷ newer) l h = go (l.var.0 == k.var.0) (root_without_entry newer l) h
  where
    go : (b : Bool) → (entry_of l.var.0 newer ≡ None → root newer l ≡ Last l) → cond b (Some (Fix k)) (entry_of l.var.0 newer) ≡ None → cond b (Known (signed l.negative (not k.negative))) (root newer l) ≡ Last l
    go true r q = cc
    go false r q = r q
root_without_entry (Equal v k ∷ newer) l h = go (l.var.0 == v.0) (root_without_entry newer l) h
  where
    go : (b : Bool) → (entry_of l.var.0 newer ≡ None → root newer l ≡ Last l) → cond b (Some (Equal v k)) (entry_of l.var.0 newer) ≡ None → cond b (root newer (turned l.negative k)) (root newer l) ≡ Last l
    go true r q = cc
    go false r q = r q
root_without_entry (Gone v cs ∷ newer) l h = go (l.var.0 == v.0) (root_without_entry newer l) h
  where
    go : (b : Bool) → (entry_of l.var.0 newer ≡ None → root newer l ≡ Last l) → cond b (Some (Gone v cs)) (entry_of l.var.0 newer) ≡ None → cond b (Lost v) (root newer l) ≡ Last l
    go true r q = cc
    go false r q = r q

-- the root of a literal along an entry and newer ones, where the entry does not name its variable
root_skip : (e : Entry) (newer : List Entry) (l : OwnLit) → names l.var.0 e ≡ false → root (e ∷ newer) l ≡ root newer l
root_skip (Fix k) newer l n = cond_at (l.var.0 == k.var.0) (Known (signed l.negative (not k.negative))) (root newer l) n
root_skip (Equal v k) newer l n = cond_at (l.var.0 == v.0) (root newer (turned l.negative k)) (root newer l) n
root_skip (Gone v cs) newer l n = cond_at (l.var.0 == v.0) (Lost v) (root newer l) n

cond_here : {A : Type 0} (b : Bool) (x y : A) → b ≡ true → cond b x y ≡ x
cond_here true x y e = refl
cond_here false x y e = absurd (false≢true e)

-- a fixed literal is known
pub root_fixed : (s : List Entry) (l k : OwnLit) → entry_of l.var.0 s ≡ Some (Fix k) → root s l ≡ Known (signed l.negative (not k.negative))
root_fixed [] l k h = cc
root_fixed (e ∷ newer) l k h = go (names l.var.0 e) refl (root_fixed newer l k) h
  where
    here : names l.var.0 e ≡ true → e ≡ Fix k → root (e ∷ newer) l ≡ Known (signed l.negative (not k.negative))
    here n q =
        ap (λ (x : Entry). root (x ∷ newer) l) q
        ∙ cond_here (l.var.0 == k.var.0) (Known (signed l.negative (not k.negative))) (root newer l) (sym (ap (names l.var.0) q) ∙ n)

    go : (b : Bool) → names l.var.0 e ≡ b → (entry_of l.var.0 newer ≡ Some (Fix k) → root newer l ≡ Known (signed l.negative (not k.negative))) → cond b (Some e) (entry_of l.var.0 newer) ≡ Some (Fix k)
        → root (e ∷ newer) l ≡ Known (signed l.negative (not k.negative))
    go true n r q = here n (some_entry e (Fix k) q)
    go false n r q = root_skip e newer l n ∙ r q

-- one whose variable was taken out is lost
pub root_gone : (s : List Entry) (l : OwnLit) (v : Own) (cs : List (List OwnLit)) → entry_of l.var.0 s ≡ Some (Gone v cs) → root s l ≡ Lost v
root_gone [] l v cs h = cc
root_gone (e ∷ newer) l v cs h = go (names l.var.0 e) refl (root_gone newer l v cs) h
  where
    here : names l.var.0 e ≡ true → e ≡ Gone v cs → root (e ∷ newer) l ≡ Lost v
    here n q = ap (λ (x : Entry). root (x ∷ newer) l) q ∙ cond_here (l.var.0 == v.0) (Lost v) (root newer l) (sym (ap (names l.var.0) q) ∙ n)

    go : (b : Bool) → names l.var.0 e ≡ b → (entry_of l.var.0 newer ≡ Some (Gone v cs) → root newer l ≡ Lost v) → cond b (Some e) (entry_of l.var.0 newer) ≡ Some (Gone v cs) → root (e ∷ newer) l ≡ Lost v
    go true n r q = here n (some_entry e (Gone v cs) q)
    go false n r q = root_skip e newer l n ∙ r q

-- no variable is named twice, and no active one is named
abbrev pub AreOnce : (ℕ → Bool) → List Entry → Type 0
AreOnce active s = (k : ℕ) → times_named k s + cond {A = ℕ} (active k) 1 0 ≤ 1

-- without the oldest entry that is so too
pub once_newer : (active : ℕ → Bool) (e : Entry) (newer : List Entry) → AreOnce active (e ∷ newer) → AreOnce active newer
once_newer active e newer h k = let c : cond {A = ℕ} (names k e) 1 0 + times_named k newer + cond {A = ℕ} (active k) 1 0 ≤ 1 = h k in omega arith

-- a variable that is active or named by a newer entry is not named by this one
not_named : (active : ℕ → Bool) (e : Entry) (newer : List Entry) (k : ℕ) → AreOnce active (e ∷ newer) → (active k || list_any (names k) newer) ≡ true → names k e ≡ false
not_named active e newer k h o = go (names k e) (h k)
  where
    twice : 1 + times_named k newer + cond {A = ℕ} (active k) 1 0 ≤ 1 → ⊥
    twice c =
        ⊎_elim
        (λ (a : active k ≡ true). let d : cond {A = ℕ} (active k) 1 0 ≡ 1 = one_if (active k) a in absurd (omega arith))
        (λ (a : list_any (names k) newer ≡ true). let d : 1 ≤ times_named k newer = times_any k newer a in absurd (omega arith))
        (or_cases _ _ o)

    go : (b : Bool) → cond {A = ℕ} b 1 0 + times_named k newer + cond {A = ℕ} (active k) 1 0 ≤ 1 → b ≡ false
    go true c = absurd (twice c)
    go false c = refl

-- the other variable of a replacing entry is active or named by a newer one, and so by some entry of the stack
pub other_is_placed : (active : ℕ → Bool) (s : List Entry) (n : ℕ) (v : Own) (k : OwnLit) → ordered active s ≡ true → entry_of n s ≡ Some (Equal v k) → (active k.var.0 || list_any (names k.var.0) s) ≡ true
other_is_placed active [] n v k o h = cc
other_is_placed active (e ∷ newer) n v k o h = go (names n e) (λ q. other_is_placed active newer n v k p.1 q) h
  where
    p : (others_pass (λ j. active j || list_any (names j) newer) e ≡ true) × (ordered active newer ≡ true)
    p = and_parts _ _ o

    more : (a b c : Bool) → (a || c) ≡ true → (a || (b || c)) ≡ true
    more true b c q = refl
    more false b c q = or_right b c q

    go : (b : Bool) → (entry_of n newer ≡ Some (Equal v k) → (active k.var.0 || list_any (names k.var.0) newer) ≡ true) → cond b (Some e) (entry_of n newer) ≡ Some (Equal v k) → (active k.var.0 || (names k.var.0 e || list_any (names k.var.0) newer)) ≡ true
    go true r q = more (active k.var.0) (names k.var.0 e) (list_any (names k.var.0) newer) (sym (ap (others_pass (λ j. active j || list_any (names j) newer)) (some_entry e (Equal v k) q)) ∙ p.0)
    go false r q = more (active k.var.0) (names k.var.0 e) (list_any (names k.var.0) newer) (r q)

-- a replaced literal comes to what the other literal comes to
pub root_replaced : (active : ℕ → Bool) (s : List Entry) (l : OwnLit) (v : Own) (k : OwnLit) → AreOnce active s → ordered active s ≡ true → entry_of l.var.0 s ≡ Some (Equal v k) → root s l ≡ root s (turned l.negative k)
root_replaced active [] l v k c o h = cc
root_replaced active (e ∷ newer) l v k c o h = go (names l.var.0 e) refl (λ q. root_replaced active newer l v k (once_newer active e newer c) p.1 q) h
  where
    p : (others_pass (λ j. active j || list_any (names j) newer) e ≡ true) × (ordered active newer ≡ true)
    p = and_parts _ _ o

    past_this : (active k.var.0 || list_any (names k.var.0) newer) ≡ true → root (e ∷ newer) (turned l.negative k) ≡ root newer (turned l.negative k)
    past_this q = root_skip e newer (turned l.negative k) (not_named active e newer k.var.0 c q)

    here : names l.var.0 e ≡ true → e ≡ Equal v k → root (e ∷ newer) l ≡ root (e ∷ newer) (turned l.negative k)
    here n q =
        ap (λ (x : Entry). root (x ∷ newer) l) q
        ∙ (cond_here (l.var.0 == v.0) (root newer (turned l.negative k)) (root newer l) (sym (ap (names l.var.0) q) ∙ n)
        ∙ sym (past_this (sym (ap (others_pass (λ j. active j || list_any (names j) newer)) q) ∙ p.0)))

    go : (b : Bool) → names l.var.0 e ≡ b → (entry_of l.var.0 newer ≡ Some (Equal v k) → root newer l ≡ root newer (turned l.negative k)) → cond b (Some e) (entry_of l.var.0 newer) ≡ Some (Equal v k)
        → root (e ∷ newer) l ≡ root (e ∷ newer) (turned l.negative k)
    go true n r q = here n (some_entry e (Equal v k) q)
    go false n r q =
        root_skip e newer l n
        ∙ (r q
        ∙ sym (past_this (other_is_placed active newer l.var.0 v k p.1 q)))

-- no depth is greater than the number of entries
pub depth_at_most : (k : ℕ) (s : List Entry) → depth k s ≤ length s
depth_at_most k [] = omega arith
depth_at_most k (e ∷ newer) = go (names k e) (depth_at_most k newer)
  where
    go : (b : Bool) → depth k newer ≤ length newer → cond b (suc (length newer)) (depth k newer) ≤ suc (length newer)
    go true d = omega arith
    go false d = omega arith

-- the entry of the other variable, if it has one, is newer
pub depth_replaced : (active : ℕ → Bool) (s : List Entry) (n : ℕ) (v : Own) (k : OwnLit) → AreOnce active s → ordered active s ≡ true → entry_of n s ≡ Some (Equal v k) → depth k.var.0 s < depth n s
depth_replaced active [] n v k c o h = cc
depth_replaced active (e ∷ newer) n v k c o h = go (names n e) (λ q. depth_replaced active newer n v k (once_newer active e newer c) p.1 q) h
  where
    p : (others_pass (λ j. active j || list_any (names j) newer) e ≡ true) × (ordered active newer ≡ true)
    p = and_parts _ _ o

    past_this : (active k.var.0 || list_any (names k.var.0) newer) ≡ true → depth k.var.0 (e ∷ newer) ≡ depth k.var.0 newer
    past_this q = cond_at (names k.var.0 e) (suc (length newer)) (depth k.var.0 newer) (not_named active e newer k.var.0 c q)

    go : (b : Bool) → (entry_of n newer ≡ Some (Equal v k) → depth k.var.0 newer < depth n newer) → cond b (Some e) (entry_of n newer) ≡ Some (Equal v k) → depth k.var.0 (e ∷ newer) < cond b (suc (length newer)) (depth n newer)
    go true r q =
        let a : depth k.var.0 (e ∷ newer) ≡ depth k.var.0 newer = past_this (sym (ap (others_pass (λ j. active j || list_any (names j) newer)) (some_entry e (Equal v k) q)) ∙ p.0) in
        let b : depth k.var.0 newer ≤ length newer = depth_at_most k.var.0 newer in
        omega arith
    go false r q =
        let a : depth k.var.0 (e ∷ newer) ≡ depth k.var.0 newer = past_this (other_is_placed active newer n v k p.1 q) in
        let b : depth k.var.0 newer < depth n newer = r q in
        omega arith
