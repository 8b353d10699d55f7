-- What a literal leads to where the entries of marked variables are taken out.
use Rattle.std.proofs.Common.{◌≡◌, ℕ, ◌+◌, ◌≤◌, ◌==◌, Bool, true, false, cond, not, List, [], ◌∷◌, filter, refl, sym, ap, ◌∙◌, arith}
use Rattle.sat_lits.specs.Truth.{signed}
use Rattle.sat_lits.specs.declared.literal.Own.{Own}
use Rattle.sat_lits.specs.declared.literal.OwnLit.{OwnLit}
use Rattle.rebuild_stack.specs.Entries.{names, times_named}
use Rattle.rebuild_stack.specs.Roots.{root, turned, is_lost}
use Rattle.rebuild_stack.specs.RootLaws.{root_unnamed}
use Rattle.rebuild_stack.specs.OrderLaws.{unnamed}
use Rattle.rebuild_stack.specs.declared.entry.Entry.{Entry}
use Rattle.rebuild_stack.specs.declared.entry.Entry.TheVariants.{Fix, Equal, Gone}
use Rattle.rebuild_stack.specs.declared.entry.Root.{Root}
use Rattle.rebuild_stack.specs.declared.entry.Root.TheVariants.{Known, Last, Lost}
use Rattle.state_laws.specs.PlaceLaws.{one_if}
use Rattle.removed_vars.specs.Restoring.{stays}
use Rattle.restore_var.specs.Needs.{leads_to}

-- no variable is named twice
abbrev pub AreSingle : List Entry → Type 0
AreSingle s = (k : ℕ) → times_named k s ≤ 1

single_newer : (e : Entry) (newer : List Entry) → AreSingle (e ∷ newer) → AreSingle newer
single_newer e newer h k = let c : cond {A = ℕ} (names k e) 1 0 + times_named k newer ≤ 1 = h k in omega arith

-- a literal that still leads to an eliminated variable led there before, and the variable is not marked
pub lost_before : (marked : ℕ → Bool) (s : List Entry) (l : OwnLit) (x : Own) → AreSingle s → root (filter (stays marked) s) l ≡ Lost x → (root s l ≡ Lost x) × (marked x.0 ≡ false)
lost_before marked [] l x h e = cc
lost_before marked (Fix k ∷ newer) l x h e = go (l.var.0 == k.var.0) (lost_before marked newer l x (single_newer (Fix k) newer h)) e
  where
    go : (b : Bool) → (root (filter (stays marked) newer) l ≡ Lost x → (root newer l ≡ Lost x) × (marked x.0 ≡ false))
        → cond b (Known (signed l.negative (not k.negative))) (root (filter (stays marked) newer) l) ≡ Lost x → (cond b (Known (signed l.negative (not k.negative))) (root newer l) ≡ Lost x) × (marked x.0 ≡ false)
    go true r q = cc
    go false r q = r q
lost_before marked (Equal v k ∷ newer) l x h e =
    go (l.var.0 == v.0) (lost_before marked newer l x (single_newer (Equal v k) newer h)) (lost_before marked newer (turned l.negative k) x (single_newer (Equal v k) newer h)) e
  where
    go : (b : Bool) → (root (filter (stays marked) newer) l ≡ Lost x → (root newer l ≡ Lost x) × (marked x.0 ≡ false))
        → (root (filter (stays marked) newer) (turned l.negative k) ≡ Lost x → (root newer (turned l.negative k) ≡ Lost x) × (marked x.0 ≡ false))
        → cond b (root (filter (stays marked) newer) (turned l.negative k)) (root (filter (stays marked) newer) l) ≡ Lost x → (cond b (root newer (turned l.negative k)) (root newer l) ≡ Lost x) × (marked x.0 ≡ false)
    go true r t q = t q
    go false r t q = r q
lost_before marked (Gone v cs ∷ newer) l x h e = go (marked v.0) refl (lost_before marked newer l x (single_newer (Gone v cs) newer h)) e
  where
    same : Lost v ≡ Lost x → v ≡ x
    same q = cc

    last_lost : (k : OwnLit) → Last k ≡ Lost x → ⊥
    last_lost k q = cc

    kept : marked v.0 ≡ false → (b : Bool) → (root (filter (stays marked) newer) l ≡ Lost x → (root newer l ≡ Lost x) × (marked x.0 ≡ false))
        → cond b (Lost v) (root (filter (stays marked) newer) l) ≡ Lost x → (cond b (Lost v) (root newer l) ≡ Lost x) × (marked x.0 ≡ false)
    kept m true r q = (q, ap (λ (w : Own). marked w.0) (sym (same q)) ∙ m)
    kept m false r q = r q

    taken : (b : Bool) → (l.var.0 == v.0) ≡ b → (root newer l ≡ Lost x) × (marked x.0 ≡ false) → (cond b (Lost v) (root newer l) ≡ Lost x) × (marked x.0 ≡ false)
    taken true n r =
        let one : cond {A = ℕ} (l.var.0 == v.0) 1 0 ≡ 1 = one_if _ n in
        let c : cond {A = ℕ} (l.var.0 == v.0) 1 0 + times_named l.var.0 newer ≤ 1 = h l.var.0 in
        absurd (last_lost l (sym (root_unnamed newer l (unnamed l.var.0 newer (omega arith))) ∙ r.0))
    taken false n r = r

    go : (m : Bool) → marked v.0 ≡ m → (root (filter (stays marked) newer) l ≡ Lost x → (root newer l ≡ Lost x) × (marked x.0 ≡ false))
        → root (cond (not m) (Gone v cs ∷ filter (stays marked) newer) (filter (stays marked) newer)) l ≡ Lost x → (cond (l.var.0 == v.0) (Lost v) (root newer l) ≡ Lost x) × (marked x.0 ≡ false)
    go true m r q = taken (l.var.0 == v.0) refl (r q)
    go false m r q = kept m (l.var.0 == v.0) r q

-- a literal that led to none but marked ones leads to none
pub not_lost : (marked : ℕ → Bool) (s : List Entry) (l : OwnLit) → AreSingle s → leads_to marked (root s l) ≡ true → is_lost (root (filter (stays marked) s) l) ≡ false
not_lost marked s l h e = go (root (filter (stays marked) s) l) refl
  where
    clash : (b : Bool) → b ≡ true → b ≡ false → ⊥
    clash true p q = cc
    clash false p q = cc

    go : (r : Root) → root (filter (stays marked) s) l ≡ r → is_lost r ≡ false
    go (Known x) q = refl
    go (Last k) q = refl
    go (Lost x) q =
        let (a, b) = lost_before marked s l x h q in
        absurd (clash (marked x.0) (sym (ap (leads_to marked) a) ∙ e) b)
