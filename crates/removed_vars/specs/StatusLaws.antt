-- Where replacements lead to.
use Rattle.std.proofs.Common.{◌≡◌, ℕ, suc, ◌+◌, ◌<◌, ◌≤◌, ◌==◌, Bool, true, false, cond, ◌||◌, List, [], ◌∷◌, ◌++◌, Option, Some, None, ◌&&◌, refl, sym, ap, ap₂, ◌∙◌, arith, length, get_or, set, eqb-true, eq-eqb, ne_eqb, get_or-set_same, get_or-set_other}
use Rattle.std.proofs.lemmas.Bool.{and_parts, or_parts, true≢false, eqb-false}
use Rattle.std.specs.List.{list_any}
use Rattle.sat_lits.specs.Truth.{signed}
use Rattle.sat_lits.specs.declared.literal.Own.{Own}
use Rattle.sat_lits.specs.declared.literal.OwnLit.{OwnLit}
use Rattle.rebuild_stack.specs.Entries.{named, names, is_gone, is_block_of, times_named, others_pass, ordered}
use Rattle.rebuild_stack.specs.Roots.{turned, root}
use Rattle.rebuild_stack.specs.CommonLaws.{cond_at}
use Rattle.rebuild_stack.specs.OrderLaws.{unnamed}
use Rattle.rebuild_stack.specs.declared.entry.Entry.{Entry}
use Rattle.rebuild_stack.specs.declared.entry.Entry.TheVariants.{Fix, Equal, Gone}
use Rattle.rebuild_stack.specs.declared.entry.Root.{Root}
use Rattle.rebuild_stack.specs.declared.entry.Root.TheVariants.{Known, Last, Lost}
use Rattle.state_laws.specs.RootTableLaws.{entry_of, depth, entry_of-named, entry_of-push, root_without_entry, root_fixed, root_gone, depth_replaced, AreOnce, once_newer, depth_at_most}
use Rattle.removed_vars.specs.Removed.{last_lit}
use Rattle.removed_vars.specs.Statuses.{status_of, IsEnd}
use Rattle.removed_vars.specs.declared.removed.Status.{Status}
use Rattle.removed_vars.specs.declared.removed.Status.TheVariants.{Kept, Fixed, Replaced, Eliminated}

-- a variable that is said to be replaced has such an entry
pub status_replaced : (o : Option Entry) (k : OwnLit) → status_of o ≡ Replaced k → (v : Own) × (o ≡ Some (Equal v k))
status_replaced None k e = cc
status_replaced (Some (Fix l)) k e = cc
status_replaced (Some (Equal v l)) k e = (v, same l k e)
  where
    same : (x y : OwnLit) → Replaced x ≡ Replaced y → Some (Equal v x) ≡ Some (Equal v y)
    same x y q = let z : x ≡ y = cc in ap (λ (w : OwnLit). Some (Equal v w)) z
status_replaced (Some (Gone v cs)) k e = cc

-- an entry that does not name the variable is passed by
last_skip : (e : Entry) (newer : List Entry) (l : OwnLit) → names l.var.0 e ≡ false → last_lit (e ∷ newer) l ≡ last_lit newer l
last_skip (Fix k) newer l n = refl
last_skip (Equal v k) newer l n = cond_at (l.var.0 == v.0) (last_lit newer (turned l.negative k)) (last_lit newer l) n
last_skip (Gone v cs) newer l n = refl

-- a literal whose variable has no entry is the last one
pub last_without_entry : (s : List Entry) (l : OwnLit) → list_any (names l.var.0) s ≡ false → last_lit s l ≡ l
last_without_entry [] l h = refl
last_without_entry (e ∷ newer) l h =
    let p : (names l.var.0 e ≡ false) × (list_any (names l.var.0) newer ≡ false) = or_parts _ _ h in
    last_skip e newer l p.0 ∙ last_without_entry newer l p.1

-- a variable that an entry names is not named by newer ones
pub named_once : (active : ℕ → Bool) (e : Entry) (newer : List Entry) (k : ℕ) → AreOnce active (e ∷ newer) → names k e ≡ true → list_any (names k) newer ≡ false
named_once active e newer k h n = unnamed k newer (none (names k e) n (h k))
  where
    none : (b : Bool) → b ≡ true → cond {A = ℕ} b 1 0 + times_named k newer + cond {A = ℕ} (active k) 1 0 ≤ 1 → times_named k newer ≡ 0
    none true q c = omega arith
    none false q c = absurd (true≢false (sym q))

-- a variable whose entry is newer is not named by the oldest one
deeper : (k : ℕ) (e : Entry) (newer : List Entry) → depth k (e ∷ newer) ≤ length newer → names k e ≡ false
deeper k e newer h = go (names k e) h
  where
    go : (b : Bool) → cond b (suc (length newer)) (depth k newer) ≤ length newer → b ≡ false
    go true d = absurd (omega arith)
    go false d = refl

pub cond_here : {A : Type 0} (b : Bool) (x y : A) → b ≡ true → cond b x y ≡ x
cond_here true x y e = refl
cond_here false x y e = absurd (true≢false (sym e))

some_entry : (x y : Entry) → Some x ≡ Some y → x ≡ y
some_entry x y q = cc

-- a replaced literal leads where the literal that replaces it leads
pub last_replaced : (active : ℕ → Bool) (s : List Entry) (l : OwnLit) (v : Own) (k : OwnLit) → AreOnce active s → ordered active s ≡ true → entry_of l.var.0 s ≡ Some (Equal v k) → last_lit s l ≡ last_lit s (turned l.negative k)
last_replaced active [] l v k c o h = cc
last_replaced active (e ∷ newer) l v k c o h = go (names l.var.0 e) refl (last_replaced active newer l v k (once_newer active e newer c) (newer_order o)) h
  where
    newer_order : ordered active (e ∷ newer) ≡ true → ordered active newer ≡ true
    newer_order q =
        let p : (others_pass (λ j. active j || list_any (names j) newer) e ≡ true) × (ordered active newer ≡ true) = and_parts _ _ q in
        p.1

    bound : depth k.var.0 (e ∷ newer) < depth l.var.0 (e ∷ newer)
    bound = depth_replaced active (e ∷ newer) l.var.0 v k c o h

    here : names l.var.0 e ≡ true → e ≡ Equal v k → last_lit (e ∷ newer) l ≡ last_lit (e ∷ newer) (turned l.negative k)
    here n q =
        ap (λ (x : Entry). last_lit (x ∷ newer) l) q
        ∙ (cond_here (l.var.0 == v.0) (last_lit newer (turned l.negative k)) (last_lit newer l) (sym (ap (names l.var.0) q) ∙ n)
        ∙ sym (last_skip e newer (turned l.negative k) (deeper k.var.0 e newer
        (let d : depth l.var.0 (e ∷ newer) ≡ suc (length newer) = cond_here (names l.var.0 e) (suc (length newer)) (depth l.var.0 newer) n in let b : depth k.var.0 (e ∷ newer) < depth l.var.0 (e ∷ newer) = bound in omega arith))))

    go : (b : Bool) → names l.var.0 e ≡ b → (entry_of l.var.0 newer ≡ Some (Equal v k) → last_lit newer l ≡ last_lit newer (turned l.negative k)) → cond b (Some e) (entry_of l.var.0 newer) ≡ Some (Equal v k)
        → last_lit (e ∷ newer) l ≡ last_lit (e ∷ newer) (turned l.negative k)
    go true n r q = here n (some_entry e (Equal v k) q)
    go false n r q =
        last_skip e newer l n ∙ (r q ∙ sym (last_skip e newer (turned l.negative k) (deeper k.var.0 e newer
        (let d : depth l.var.0 (e ∷ newer) ≡ depth l.var.0 newer = cond_at (names l.var.0 e) (suc (length newer)) (depth l.var.0 newer) n in
        let b : depth k.var.0 (e ∷ newer) < depth l.var.0 (e ∷ newer) = bound in
        let m : depth l.var.0 newer ≤ length newer = depth_at_most l.var.0 newer in omega arith))))

-- a literal that is not replaced is the last one
pub last_end : (active : ℕ → Bool) (s : List Entry) (l : OwnLit) → AreOnce active s → IsEnd (status_of (entry_of l.var.0 s)) → last_lit s l ≡ l
last_end active [] l c h = refl
last_end active (e ∷ newer) l c h = go (names l.var.0 e) refl (last_end active newer l (once_newer active e newer c)) h
  where
    at : (e : Entry) → IsEnd (status_of (Some e)) → last_lit newer l ≡ l → last_lit (e ∷ newer) l ≡ l
    at (Fix k) i r = r
    at (Equal v k) i r = absurd i
    at (Gone v cs) i r = r

    go : (b : Bool) → names l.var.0 e ≡ b → (IsEnd (status_of (entry_of l.var.0 newer)) → last_lit newer l ≡ l) → IsEnd (status_of (cond b (Some e) (entry_of l.var.0 newer))) → last_lit (e ∷ newer) l ≡ l
    go true n r i = at e i (last_without_entry newer l (named_once active e newer l.var.0 c n))
    go false n r i = last_skip e newer l n ∙ r i

-- what the entry of the last literal says, the literal comes to
abbrev pub root_by_status : OwnLit → Status → Root
root_by_status l Kept = Last l
root_by_status l (Fixed value) = Known (signed l.negative value)
root_by_status l (Replaced k) = Last k
root_by_status l Eliminated = Lost l.var

pub root_end : (s : List Entry) (l : OwnLit) → IsEnd (status_of (entry_of l.var.0 s)) → root s l ≡ root_by_status l (status_of (entry_of l.var.0 s))
root_end s l i = go (entry_of l.var.0 s) refl i
  where
    same : (v : Own) → l.var.0 ≡ v.0 → v ≡ l.var
    same v q = ap (λ (n : ℕ). let w : Own = record { 0 = n } in w) (sym q)

    go : (o : Option Entry) → entry_of l.var.0 s ≡ o → IsEnd (status_of o) → root s l ≡ root_by_status l (status_of o)
    go None e i = root_without_entry s l e
    go (Some (Fix k)) e i = root_fixed s l k e
    go (Some (Equal v k)) e i = absurd i
    go (Some (Gone v cs)) e i = root_gone s l v cs e ∙ ap (λ (w : Own). Lost w) (same v (entry_of-named l.var.0 s (Gone v cs) e))

-- a table that is written where a new entry names its variable
pub written : (xs : List Status) (s : List Entry) (e : Entry) (at : ℕ) (x : Status) → at ≡ named e → x ≡ status_of (Some e) → at < length xs → list_any (names (named e)) s ≡ false → ((k : ℕ) → get_or xs k Kept ≡ status_of (entry_of k s))
    → (k : ℕ) → get_or (set xs at x) k Kept ≡ status_of (entry_of k (s ++ e ∷ []))
written xs s e at x n f l u h k = go (k == named e) refl ∙ ap status_of (sym (entry_of-push k s e u))
  where
    go : (b : Bool) → (k == named e) ≡ b → get_or (set xs at x) k Kept ≡ status_of (cond b (Some e) (entry_of k s))
    go true q = ap (λ (j : ℕ). get_or (set xs at x) j Kept) (eqb-true _ _ q ∙ sym n) ∙ (get_or-set_same xs at x Kept l ∙ f)
    go false q = get_or-set_other xs at k x Kept (λ z. eqb-false k (named e) q (z ∙ n)) ∙ h k

-- what is not replaced is at the end
pub end_from : (x : Status) → ((k : OwnLit) → x ≡ Replaced k → ⊥) → IsEnd x
end_from Kept h = tt
end_from (Fixed value) h = tt
end_from (Replaced k) h = h k refl
end_from Eliminated h = tt

-- whether a variable is said to be eliminated
abbrev pub is_eliminated : Status → Bool
is_eliminated Kept = false
is_eliminated (Fixed value) = false
is_eliminated (Replaced k) = false
is_eliminated Eliminated = true

-- a variable that no entry names has no block
no_block : (s : List Entry) (v : Own) → list_any (names v.0) s ≡ false → list_any (is_block_of v) s ≡ false
no_block [] v h = refl
no_block (e ∷ newer) v h =
    let p : (names v.0 e ≡ false) × (list_any (names v.0) newer ≡ false) = or_parts _ _ h in
    ap₂ ◌||◌ (not_this e (is_gone e) (λ q. eqb-false v.0 (named e) p.0 (sym q))) (no_block newer v p.1)
  where
    not_this : (e : Entry) (b : Bool) → (named e ≡ v.0 → ⊥) → (b && (named e == v.0)) ≡ false
    not_this e true h = ne_eqb (named e) v.0 h
    not_this e false h = refl

-- a variable is said to be eliminated exactly where a block of it stands in the stack
pub block_status : (active : ℕ → Bool) (s : List Entry) (v : Own) → AreOnce active s → is_eliminated (status_of (entry_of v.0 s)) ≡ list_any (is_block_of v) s
block_status active [] v c = refl
block_status active (e ∷ newer) v c = go (names v.0 e) refl (block_status active newer v (once_newer active e newer c))
  where
    this : (e : Entry) → named e ≡ v.0 → is_eliminated (status_of (Some e)) ≡ (is_block_of v e || false)
    this (Fix k) n = refl
    this (Equal w k) n = refl
    this (Gone w cs) n = ap (λ (b : Bool). b || false) (sym (eq-eqb w.0 v.0 n))

    other : (e : Entry) → (named e ≡ v.0 → ⊥) → is_block_of v e ≡ false
    other (Fix k) n = refl
    other (Equal w k) n = refl
    other (Gone w cs) n = ne_eqb w.0 v.0 n

    go : (b : Bool) → names v.0 e ≡ b → is_eliminated (status_of (entry_of v.0 newer)) ≡ list_any (is_block_of v) newer → is_eliminated (status_of (cond b (Some e) (entry_of v.0 newer))) ≡ (is_block_of v e || list_any (is_block_of v) newer)
    go true n r = this e (sym (eqb-true _ _ n)) ∙ ap (λ (b : Bool). is_block_of v e || b) (sym (no_block newer v (named_once active e newer v.0 c n)))
    go false n r = r ∙ ap (λ (b : Bool). b || list_any (is_block_of v) newer) (sym (other e (λ q. eqb-false v.0 (named e) n (sym q))))
