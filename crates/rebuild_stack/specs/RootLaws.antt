-- What a literal comes to has the literal's value.
use Rattle.std.proofs.Common.{◌≡◌, ℕ, ◌==◌, Bool, true, false, cond, not, List, [], ◌∷◌, ◌++◌, refl, sym, ap, subst, ◌∙◌, eqb-true, append-nil}
use Rattle.std.proofs.lemmas.Bool.{and_parts, or_parts, true≢false}
use Rattle.std.specs.Bool.{beq}
use Rattle.std.specs.List.{list_any, list_all}
use Rattle.sat_lits.specs.Truth.{signed, clauses_value}
use Rattle.sat_lits.specs.ClauseLaws.{signed-signed, beq_true}
use Rattle.sat_lits.specs.declared.literal.OwnLit.{OwnLit}
use Rattle.rebuild_stack.specs.Values.{own_value}
use Rattle.rebuild_stack.specs.Entries.{rebuild, entry_value, names, is_gone}
use Rattle.rebuild_stack.specs.Roots.{turned, root, is_lost, root_value}
use Rattle.rebuild_stack.specs.CommonLaws.{cond_at, signed_true}
use Rattle.rebuild_stack.specs.declared.entry.Entry.{Entry}
use Rattle.rebuild_stack.specs.declared.entry.Entry.TheVariants.{Fix, Equal, Gone}
use Rattle.rebuild_stack.specs.declared.entry.Root.{Root}
use Rattle.rebuild_stack.specs.declared.entry.Root.TheVariants.{Known, Last, Lost}

-- a turned literal has the turned value
pub turned_value : (w : ℕ → Bool) (negative : Bool) (l : OwnLit) → own_value w (turned negative l) ≡ signed negative (own_value w l)
turned_value w negative l = signed-signed negative l.negative (w l.var.0)

pick : (w : ℕ → Bool) (b n x y : Bool) (s t : Root) → (is_lost s ≡ false → signed n x ≡ root_value w s) → (is_lost t ≡ false → signed n y ≡ root_value w t)
    → is_lost (cond b s t) ≡ false → signed n (cond b x y) ≡ root_value w (cond b s t)
pick w true n x y s t p q h = p h
pick w false n x y s t p q h = q h

-- in the rebuilt values a literal has the value of what it comes to
pub rebuild_root : (s : List Entry) (l : OwnLit) (w : ℕ → Bool) → is_lost (root s l) ≡ false → own_value (rebuild s w) l ≡ root_value w (root s l)
rebuild_root [] l w h = refl
rebuild_root (Fix k ∷ newer) l w h =
    pick w (l.var.0 == k.var.0) l.negative (not k.negative) (rebuild newer w l.var.0) (Known (signed l.negative (not k.negative))) (root newer l) (λ _. refl) (rebuild_root newer l w) h
rebuild_root (Equal v k ∷ newer) l w h =
    pick w (l.var.0 == v.0) l.negative (own_value (rebuild newer w) k) (rebuild newer w l.var.0) (root newer (turned l.negative k)) (root newer l)
    (λ g. sym (turned_value (rebuild newer w) l.negative k) ∙ rebuild_root newer (turned l.negative k) w g) (rebuild_root newer l w) h
rebuild_root (Gone v cs ∷ newer) l w h =
    pick w (l.var.0 == v.0) l.negative _ (rebuild newer w l.var.0) (Lost v) (root newer l) (λ g. absurd (true≢false g)) (rebuild_root newer l w) h

pick_one : (w : ℕ → Bool) (b z : Bool) (s t : Root) → (b ≡ true → is_lost s ≡ false → z ≡ root_value w s) → (is_lost t ≡ false → z ≡ root_value w t)
    → is_lost (cond b s t) ≡ false → z ≡ root_value w (cond b s t)
pick_one w true z s t p q h = p refl h
pick_one w false z s t p q h = q h

-- in values that all entries hold of, too
pub holds_root : (s : List Entry) (l : OwnLit) (w : ℕ → Bool) → list_all (entry_value w) s ≡ true → is_lost (root s l) ≡ false → own_value w l ≡ root_value w (root s l)
holds_root [] l w e h = refl
holds_root (Fix k ∷ newer) l w e h =
    let p : (own_value w k ≡ true) × (list_all (entry_value w) newer ≡ true) = and_parts _ _ e in
    pick_one w (l.var.0 == k.var.0) (own_value w l) (Known (signed l.negative (not k.negative))) (root newer l)
    (λ b g. ap (signed l.negative) (ap w (eqb-true _ _ b) ∙ signed_true _ _ p.0)) (holds_root newer l w p.1) h
holds_root (Equal v k ∷ newer) l w e h =
    let p : (beq (w v.0) (own_value w k) ≡ true) × (list_all (entry_value w) newer ≡ true) = and_parts _ _ e in
    pick_one w (l.var.0 == v.0) (own_value w l) (root newer (turned l.negative k)) (root newer l)
    (λ b g. ap (signed l.negative) (ap w (eqb-true _ _ b) ∙ beq_true _ _ p.0) ∙ (sym (turned_value w l.negative k) ∙ holds_root newer (turned l.negative k) w p.1 g)) (holds_root newer l w p.1) h
holds_root (Gone v cs ∷ newer) l w e h =
    let p : (clauses_value (own_value w) cs ≡ true) × (list_all (entry_value w) newer ≡ true) = and_parts _ _ e in
    pick_one w (l.var.0 == v.0) (own_value w l) (Lost v) (root newer l) (λ b g. absurd (true≢false g)) (holds_root newer l w p.1) h

-- entries that do not name a literal's variable leave it
pub root_past : (older newer : List Entry) (l : OwnLit) → list_any (names l.var.0) older ≡ false → root (older ++ newer) l ≡ root newer l
root_past [] newer l e = refl
root_past (Fix k ∷ older) newer l e =
    let p : ((l.var.0 == k.var.0) ≡ false) × (list_any (names l.var.0) older ≡ false) = or_parts _ _ e in
    cond_at (l.var.0 == k.var.0) (Known (signed l.negative (not k.negative))) (root (older ++ newer) l) p.0 ∙ root_past older newer l p.1
root_past (Equal v k ∷ older) newer l e =
    let p : ((l.var.0 == v.0) ≡ false) × (list_any (names l.var.0) older ≡ false) = or_parts _ _ e in
    cond_at (l.var.0 == v.0) (root (older ++ newer) (turned l.negative k)) (root (older ++ newer) l) p.0 ∙ root_past older newer l p.1
root_past (Gone v cs ∷ older) newer l e =
    let p : ((l.var.0 == v.0) ≡ false) × (list_any (names l.var.0) older ≡ false) = or_parts _ _ e in
    cond_at (l.var.0 == v.0) (Lost v) (root (older ++ newer) l) p.0 ∙ root_past older newer l p.1

-- a literal whose variable no entry names is left
pub root_unnamed : (s : List Entry) (l : OwnLit) → list_any (names l.var.0) s ≡ false → root s l ≡ Last l
root_unnamed s l e = subst (λ z. root z l ≡ Last l) (append-nil s) (root_past s [] l e)

cond_lost : (b : Bool) (s t : Root) → is_lost s ≡ false → is_lost t ≡ false → is_lost (cond b s t) ≡ false
cond_lost true s t p q = p
cond_lost false s t p q = q

-- one entry that is no `Gone` loses no literal
pub never_lost : (e : Entry) → is_gone e ≡ false → (l : OwnLit) → is_lost (root (e ∷ []) l) ≡ false
never_lost (Fix k) g l = cond_lost (l.var.0 == k.var.0) (Known (signed l.negative (not k.negative))) (Last l) refl refl
never_lost (Equal v k) g l = cond_lost (l.var.0 == v.0) (Last (turned l.negative k)) (Last l) refl refl
never_lost (Gone v cs) g l = absurd (true≢false g)
