-- What is left of a stack where the `Gone` entries of some variables go.
use Rattle.std.proofs.Common.{◌≡◌, ℕ, zero, suc, ◌+◌, ◌<◌, ◌≤◌, ◌==◌, Bool, true, false, cond, not, ◌&&◌, ◌||◌, List, [], ◌∷◌, Some, filter, refl, sym, ap, ◌∙◌, arith, length, take, slice_get, remove, get_or, eqb-true, eq-eqb}
use Rattle.std.proofs.lemmas.Bool.{or_parts, or_left, true≢false}
use Rattle.std.proofs.lemmas.List.Folds.{list_any-append}
use Rattle.std.specs.List.{list_any}
use Rattle.sat_lits.specs.ListLaws.{any_get}
use Rattle.sat_lits.specs.Truth.{signed}
use Rattle.sat_lits.specs.declared.literal.OwnLit.{OwnLit}
use Rattle.rebuild_stack.specs.CommonLaws.{cond_at}
use Rattle.rebuild_stack.specs.Entries.{named, names, times_named}
use Rattle.rebuild_stack.specs.Roots.{root, turned}
use Rattle.rebuild_stack.specs.OrderLaws.{unnamed}
use Rattle.rebuild_stack.specs.declared.entry.Entry.{Entry}
use Rattle.rebuild_stack.specs.declared.entry.Entry.TheVariants.{Fix, Equal, Gone}
use Rattle.rebuild_stack.specs.declared.entry.Root.{Root}
use Rattle.rebuild_stack.specs.declared.entry.Root.TheVariants.{Known, Last, Lost}
use Rattle.state_laws.specs.RootTableLaws.{AreOnce, once_newer, entry_of, entry_of-none}
use Rattle.removed_vars.specs.CollectLaws.{read_at}
use Rattle.removed_vars.specs.Removed.{last_lit}
use Rattle.removed_vars.specs.Restoring.{stays}
use Rattle.removed_vars.specs.Statuses.{status_of, status_without}
use Rattle.removed_vars.specs.StatusLaws.{last_without_entry, named_once, cond_here}
use Rattle.removed_vars.specs.declared.removed.Status.{Status}
use Rattle.removed_vars.specs.declared.removed.Status.TheVariants.{Kept}

-- the entries that are left name no variable that passes
abbrev pub AreApart : (ℕ → Bool) → List Entry → Type 0
AreApart m s = (k : ℕ) → m k ≡ true → list_any (names k) (filter (stays m) s) ≡ false

-- so newer ones do not either
apart_newer : (m : ℕ → Bool) (e : Entry) (newer : List Entry) → AreApart m (e ∷ newer) → AreApart m newer
apart_newer m e newer h k q = go (stays m e) (h k q)
  where
    go : (b : Bool) → list_any (names k) (cond b (e ∷ filter (stays m) newer) (filter (stays m) newer)) ≡ false → list_any (names k) (filter (stays m) newer) ≡ false
    go true r = let p : (names k e ≡ false) × (list_any (names k) (filter (stays m) newer) ≡ false) = or_parts _ _ r in p.1
    go false r = r

-- and the variable of an entry that stays does not pass
apart_here : (m : ℕ → Bool) (e : Entry) (newer : List Entry) (k : ℕ) → AreApart m (e ∷ newer) → stays m e ≡ true → names k e ≡ true → m k ≡ false
apart_here m e newer k h s n = go (m k) refl
  where
    go : (b : Bool) → m k ≡ b → b ≡ false
    go true q =
        absurd (true≢false (sym (or_left _ _ n) ∙ (ap (λ b. list_any (names k) (cond b (e ∷ filter (stays m) newer) (filter (stays m) newer))) (sym s) ∙ h k q)))
    go false q = refl

-- a literal comes along them to the last literal where that passes, and else to what it came to
pub left_root : (active m : ℕ → Bool) (s : List Entry) (l : OwnLit) → AreOnce active s → AreApart m s → root (filter (stays m) s) l ≡ cond (m (last_lit s l).var.0) (Last (last_lit s l)) (root s l)
left_root active m [] l c h = go (m l.var.0)
  where
    go : (b : Bool) → Last l ≡ cond b (Last l) (Last l)
    go true = refl
    go false = refl
left_root active m (Fix k ∷ newer) l c h = go (l.var.0 == k.var.0) refl (left_root active m newer l (once_newer active (Fix k) newer c) (apart_newer m (Fix k) newer h))
  where
    x : Root
    x = Known (signed l.negative (not k.negative))

    rest : List Entry
    rest = filter (stays m) newer

    d : OwnLit
    d = last_lit newer l

    go : (b : Bool) → (l.var.0 == k.var.0) ≡ b → root rest l ≡ cond (m d.var.0) (Last d) (root newer l) → cond b x (root rest l) ≡ cond (m d.var.0) (Last d) (cond b x (root newer l))
    go true n r =
        let same : d ≡ l = last_without_entry newer l (named_once active (Fix k) newer l.var.0 c n) in
        sym (cond_at (m d.var.0) (Last d) x (ap (λ (z : OwnLit). m z.var.0) same ∙ apart_here m (Fix k) newer l.var.0 h refl n))
    go false n r = r
left_root active m (Equal v k ∷ newer) l c h =
    go (l.var.0 == v.0) (left_root active m newer l (once_newer active (Equal v k) newer c) (apart_newer m (Equal v k) newer h))
    (left_root active m newer (turned l.negative k) (once_newer active (Equal v k) newer c) (apart_newer m (Equal v k) newer h))
  where
    rest : List Entry
    rest = filter (stays m) newer

    by : OwnLit
    by = turned l.negative k

    comes : OwnLit → Root
    comes d = cond (m d.var.0) (Last d) (root newer l)

    go : (b : Bool) → root rest l ≡ cond (m (last_lit newer l).var.0) (Last (last_lit newer l)) (root newer l) → root rest by ≡ cond (m (last_lit newer by).var.0) (Last (last_lit newer by)) (root newer by)
        → cond b (root rest by) (root rest l) ≡ cond (m (cond b (last_lit newer by) (last_lit newer l)).var.0) (Last (cond b (last_lit newer by) (last_lit newer l))) (cond b (root newer by) (root newer l))
    go true r t = t
    go false r t = r
left_root active m (Gone v cs ∷ newer) l c h = go (left_root active m newer l (once_newer active (Gone v cs) newer c) (apart_newer m (Gone v cs) newer h)) (m v.0) refl
  where
    rest : List Entry
    rest = filter (stays m) newer

    d : OwnLit
    d = last_lit newer l

    own : (l.var.0 == v.0) ≡ true → m d.var.0 ≡ m v.0
    own n = ap (λ (z : OwnLit). m z.var.0) (last_without_entry newer l (named_once active (Gone v cs) newer l.var.0 c n)) ∙ ap m (eqb-true _ _ n)

    gone : root rest l ≡ cond (m d.var.0) (Last d) (root newer l) → m v.0 ≡ true → (b : Bool) → (l.var.0 == v.0) ≡ b → root rest l ≡ cond (m d.var.0) (Last d) (cond b (Lost v) (root newer l))
    gone old q true n = old ∙ (cond_here (m d.var.0) (Last d) (root newer l) (own n ∙ q) ∙ sym (cond_here (m d.var.0) (Last d) (Lost v) (own n ∙ q)))
    gone old q false n = old

    kept : root rest l ≡ cond (m d.var.0) (Last d) (root newer l) → m v.0 ≡ false → (b : Bool) → (l.var.0 == v.0) ≡ b → cond b (Lost v) (root rest l) ≡ cond (m d.var.0) (Last d) (cond b (Lost v) (root newer l))
    kept old q true n = sym (cond_at (m d.var.0) (Last d) (Lost v) (own n ∙ q))
    kept old q false n = old

    go : root rest l ≡ cond (m d.var.0) (Last d) (root newer l) → (x : Bool) → m v.0 ≡ x → root (cond (not (true && x)) (Gone v cs ∷ rest) rest) l ≡ cond (m d.var.0) (Last d) (cond (l.var.0 == v.0) (Lost v) (root newer l))
    go old true q = gone old q (l.var.0 == v.0) refl
    go old false q = kept old q (l.var.0 == v.0) refl

-- an entry that is left was there before
pub left_from : {X : Type 0} (p : X → Bool) (xs : List X) (i : ℕ) (x : X) → slice_get (filter p xs) i ≡ Some x → (j : ℕ) × (slice_get xs j ≡ Some x)
left_from {X = X} p [] i x e = cc
left_from {X = X} p (y ∷ xs) i x e = go (left_from p xs) (p y) i e
  where
    go : ((i : ℕ) (x : X) → slice_get (filter p xs) i ≡ Some x → (j : ℕ) × (slice_get xs j ≡ Some x)) → (b : Bool) (i : ℕ) → slice_get (cond b (y ∷ filter p xs) (filter p xs)) i ≡ Some x → (j : ℕ) × (slice_get (y ∷ xs) j ≡ Some x)
    go old true zero q = (0, q)
    go old true (suc i) q = let (j, r) = old i x q in (suc j, r)
    go old false i q = let (j, r) = old i x q in (suc j, r)

-- what is not named is not named by what is left
pub left_unnamed : (p : Entry → Bool) (s : List Entry) (k : ℕ) → list_any (names k) s ≡ false → list_any (names k) (filter p s) ≡ false
left_unnamed p [] k e = refl
left_unnamed p (x ∷ s) k e =
    let q : (names k x ≡ false) × (list_any (names k) s ≡ false) = or_parts _ _ e in
    go (p x) q.0 (left_unnamed p s k q.1)
  where
    go : (b : Bool) → names k x ≡ false → list_any (names k) (filter p s) ≡ false → list_any (names k) (cond b (x ∷ filter p s) (filter p s)) ≡ false
    go true n r = ap (λ b. b || list_any (names k) (filter p s)) n ∙ r
    go false n r = r

-- nor is it one that goes
none_goes : (m : ℕ → Bool) (s : List Entry) (k : ℕ) → list_any (names k) s ≡ false → list_any (λ e. names k e && not (stays m e)) s ≡ false
none_goes m [] k q = refl
none_goes m (x ∷ s) k q =
    let p : (names k x ≡ false) × (list_any (names k) s ≡ false) = or_parts _ _ q in
    ap (λ b. (b && not (stays m x)) || list_any (λ e. names k e && not (stays m e)) s) p.0 ∙ none_goes m s k p.1

-- what is said of each variable then
pub left_status : (active m : ℕ → Bool) (s : List Entry) → AreOnce active s → (k : ℕ) → status_without m k s (status_of (entry_of k s)) ≡ status_of (entry_of k (filter (stays m) s))
left_status active m [] c k = refl
left_status active m (e ∷ s) c k = go (left_status active m s (once_newer active e s c) k) (names k e) refl (stays m e)
  where
    goal : (n t : Bool) → Type 0
    goal n t = cond ((n && not t) || list_any (λ x. names k x && not (stays m x)) s) Kept (status_of (cond n (Some e) (entry_of k s))) ≡ status_of (entry_of k (cond t (e ∷ filter (stays m) s) (filter (stays m) s)))

    go : status_without m k s (status_of (entry_of k s)) ≡ status_of (entry_of k (filter (stays m) s)) → (n : Bool) → names k e ≡ n → (t : Bool) → goal n t
    go old true n true =
        ap (λ b. cond b Kept (status_of (Some e))) (none_goes m s k (named_once active e s k c n))
        ∙ sym (ap (λ b. status_of (cond b (Some e) (entry_of k (filter (stays m) s)))) n)
    go old true n false = sym (ap status_of (entry_of-none k (filter (stays m) s) (left_unnamed (stays m) s k (named_once active e s k c n))))
    go old false n true = old ∙ sym (ap (λ b. status_of (cond b (Some e) (entry_of k (filter (stays m) s)))) n)
    go old false n false = old

-- what is said after one entry more
pub forgot_more : (m : ℕ → Bool) (s : List Entry) (i : ℕ) (e : Entry) (k : ℕ) (x y z : Status) → e ≡ get_or s i e → i < length s → y ≡ status_without m k (take i s) x → z ≡ status_without m k (e ∷ []) y
    → z ≡ status_without m k (take (i + 1) s) x
forgot_more m s i e k x y z r l a b =
    b ∙ (ap (λ w. status_without m k (e ∷ []) w) a
    ∙ (both (list_any goes (take i s)) (goes e)
    ∙ ap (λ t. cond t Kept x) (sym (ap (list_any goes) (read_at s i e r l) ∙ list_any-append goes (take i s) (e ∷ [])))))
  where
    goes : Entry → Bool
    goes d = names k d && not (stays m d)

    both : (t u : Bool) → cond (u || false) Kept (cond t Kept x) ≡ cond (t || (u || false)) Kept x
    both true true = refl
    both true false = refl
    both false true = refl
    both false false = refl

-- where the others do not differ
left_alike : (p q : Entry → Bool) (s : List Entry) (k : ℕ) → ((e : Entry) → names k e ≡ false → q e ≡ p e) → list_any (names k) s ≡ false → filter q s ≡ filter p s
left_alike p q [] k h n = refl
left_alike p q (e ∷ s) k h n =
    let a : (names k e ≡ false) × (list_any (names k) s ≡ false) = or_parts _ _ n in
    ap (λ b. cond b (e ∷ filter q s) (filter q s)) (h e a.0) ∙ ap (λ z. cond (p e) (e ∷ z) z) (left_alike p q s k h a.1)

-- one variable more passes, and its entry is taken out
pub left_more : (p q : Entry → Bool) (s : List Entry) (at : ℕ) (x : Entry) → ((k : ℕ) → times_named k s ≤ 1) → ((e : Entry) → names (named x) e ≡ false → q e ≡ p e) → q x ≡ false → slice_get (filter p s) at ≡ Some x
    → filter q s ≡ remove (filter p s) at
left_more p q [] at x c h g f = cc
left_more p q (e ∷ s) at x c h g f = go (λ i t. left_more p q s i x newer h g t) (p e) refl at f
  where
    k : ℕ
    k = named x

    newer : (j : ℕ) → times_named j s ≤ 1
    newer j = let a : cond {A = ℕ} (names j e) 1 0 + times_named j s ≤ 1 = c j in omega arith

    once : (names k e ≡ true) → list_any (names k) s ≡ false
    once n =
        unnamed k s
        (let a : cond {A = ℕ} (names k e) 1 0 + times_named k s ≤ 1 = c k in
        let b : cond {A = ℕ} (names k e) 1 0 ≡ 1 = ap (λ (b : Bool). cond {A = ℕ} b 1 0) n in omega arith)

    found : (i : ℕ) → slice_get (filter p s) i ≡ Some x → names k e ≡ false
    found i r = each (names k e) refl
      where
        each : (b : Bool) → names k e ≡ b → b ≡ false
        each true n = let (j, t) = left_from p s i x r in absurd (true≢false (sym (any_get (names k) s j x t (eq-eqb k k refl)) ∙ once n))
        each false n = refl

    go : ((i : ℕ) → slice_get (filter p s) i ≡ Some x → filter q s ≡ remove (filter p s) i) → (b : Bool) → p e ≡ b → (at : ℕ) → slice_get (cond b (e ∷ filter p s) (filter p s)) at ≡ Some x → cond (q e) (e ∷ filter q s) (filter q s) ≡ remove (cond b (e ∷ filter p s) (filter p s)) at
    go old true r zero t =
        let same : e ≡ x = cc in
        ap (λ b. cond b (e ∷ filter q s) (filter q s)) (ap q same ∙ g) ∙ left_alike p q s k h (once (ap (names k) same ∙ eq-eqb k k refl))
    go old true r (suc i) t = ap (λ b. cond b (e ∷ filter q s) (filter q s)) (h e (found i t) ∙ r) ∙ ap (λ z. e ∷ z) (old i t)
    go old false r i t = ap (λ b. cond b (e ∷ filter q s) (filter q s)) (h e (found i t) ∙ r) ∙ old i t
