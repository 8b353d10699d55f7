-- What undoing the entries of a stack does to a valuation.
use Rattle.std.proofs.Common.{◌≡◌, ℕ, ◌==◌, Bool, true, false, not, List, [], ◌∷◌, ◌++◌, refl, sym, ap, ◌∙◌}
use Rattle.std.proofs.lemmas.Bool.{and_parts, or_parts}
use Rattle.std.specs.List.{list_any, list_all}
use Rattle.sat_lits.specs.Truth.{signed, clauses_value}
use Rattle.sat_lits.specs.ClauseLaws.{with_value_same, with_value_other, beq_true}
use Rattle.sat_lits.specs.declared.literal.Own.{Own}
use Rattle.sat_lits.specs.declared.literal.OwnLit.{OwnLit}
use Rattle.rebuild_stack.specs.Values.{own_value}
use Rattle.rebuild_stack.specs.Entries.{undo, rebuild, entry_value, names}
use Rattle.rebuild_stack.specs.CommonLaws.{signed_true, with_value_kept}
use Rattle.rebuild_stack.specs.declared.entry.Entry.{Entry}
use Rattle.rebuild_stack.specs.declared.entry.Entry.TheVariants.{Fix, Equal, Gone}

-- the newer part of a stack is undone first
pub rebuild-append : (older newer : List Entry) (w : ℕ → Bool) → rebuild (older ++ newer) w ≡ rebuild older (rebuild newer w)
rebuild-append [] newer w = refl
rebuild-append (e ∷ older) newer w = ap (undo e) (rebuild-append older newer w)

-- an entry changes its own variable alone
pub undo_other : (e : Entry) (w : ℕ → Bool) (k : ℕ) → names k e ≡ false → undo e w k ≡ w k
undo_other (Fix l) w k h = with_value_other w l.var.0 _ k h
undo_other (Equal v l) w k h = with_value_other w v.0 _ k h
undo_other (Gone v cs) w k h = with_value_other w v.0 _ k h

-- a variable that no entry names keeps its value
pub rebuild_other : (s : List Entry) (w : ℕ → Bool) (k : ℕ) → list_any (names k) s ≡ false → rebuild s w k ≡ w k
rebuild_other [] w k h = refl
rebuild_other (e ∷ newer) w k h =
    let p : (names k e ≡ false) × (list_any (names k) newer ≡ false) = or_parts _ _ h in
    undo_other e (rebuild newer w) k p.0 ∙ rebuild_other newer w k p.1

-- a fixed literal is true
pub undo_fixed : (l : OwnLit) (w : ℕ → Bool) → own_value (undo (Fix l) w) l ≡ true
undo_fixed l w = ap (signed l.negative) (with_value_same w l.var.0 (not l.negative)) ∙ signed_not_self l.negative
  where
    signed_not_self : (b : Bool) → signed b (not b) ≡ true
    signed_not_self true = refl
    signed_not_self false = refl

-- a replaced variable has the value of its literal
pub undo_equal : (v : Own) (l : OwnLit) (w : ℕ → Bool) → undo (Equal v l) w v.0 ≡ own_value w l
undo_equal v l w = with_value_same w v.0 (own_value w l)

-- a variable whose clauses are all true keeps its value
pub undo_true_block : (v : Own) (cs : List (List OwnLit)) (w : ℕ → Bool) → clauses_value (own_value w) cs ≡ true → undo (Gone v cs) w ≡ w
undo_true_block v cs w h = with_value_kept w v.0 _ (ap (λ b. signed (not b) (w v.0)) h)

-- one of whose clauses is false is flipped
pub undo_false_block : (v : Own) (cs : List (List OwnLit)) (w : ℕ → Bool) → clauses_value (own_value w) cs ≡ false → undo (Gone v cs) w v.0 ≡ not (w v.0)
undo_false_block v cs w h = with_value_same w v.0 _ ∙ ap (λ b. signed (not b) (w v.0)) h

-- an entry that holds of the values changes nothing
pub undo_holding : (e : Entry) (w : ℕ → Bool) → entry_value w e ≡ true → undo e w ≡ w
undo_holding (Fix l) w h = with_value_kept w l.var.0 _ (sym (signed_true l.negative (w l.var.0) h))
undo_holding (Equal v l) w h = with_value_kept w v.0 _ (sym (beq_true (w v.0) (own_value w l) h))
undo_holding (Gone v cs) w h = undo_true_block v cs w h

-- values that all entries hold of stay
pub rebuild_holding : (s : List Entry) (w : ℕ → Bool) → list_all (entry_value w) s ≡ true → rebuild s w ≡ w
rebuild_holding [] w h = refl
rebuild_holding (e ∷ newer) w h =
    let p : (entry_value w e ≡ true) × (list_all (entry_value w) newer ≡ true) = and_parts _ _ h in
    ap (undo e) (rebuild_holding newer w p.1) ∙ undo_holding e w p.0

-- a fixed literal that no older entry names is true in the rebuilt values
pub rebuild_fixed : (older newer : List Entry) (l : OwnLit) (w : ℕ → Bool) → list_any (names l.var.0) older ≡ false → own_value (rebuild (older ++ Fix l ∷ newer) w) l ≡ true
rebuild_fixed older newer l w h =
    ap (λ (u : ℕ → Bool). own_value u l) (rebuild-append older (Fix l ∷ newer) w)
    ∙ (ap (signed l.negative) (rebuild_other older (undo (Fix l) (rebuild newer w)) l.var.0 h) ∙ undo_fixed l (rebuild newer w))

-- a replaced variable has the value of its literal in the rebuilt values, where no older entry names either
pub rebuild_equal : (older newer : List Entry) (v : Own) (l : OwnLit) (w : ℕ → Bool) → list_any (names v.0) older ≡ false → list_any (names l.var.0) older ≡ false → (l.var.0 == v.0) ≡ false
    → rebuild (older ++ Equal v l ∷ newer) w v.0 ≡ own_value (rebuild (older ++ Equal v l ∷ newer) w) l
rebuild_equal older newer v l w h k d =
    ap (λ (u : ℕ → Bool). u v.0) (rebuild-append older (Equal v l ∷ newer) w)
    ∙ (rebuild_other older after v.0 h ∙ (undo_equal v l (rebuild newer w)
    ∙ (ap (signed l.negative) (sym (undo_other (Equal v l) (rebuild newer w) l.var.0 d) ∙ sym (rebuild_other older after l.var.0 k))
    ∙ ap (λ (u : ℕ → Bool). own_value u l) (sym (rebuild-append older (Equal v l ∷ newer) w)))))
  where
    after : ℕ → Bool
    after = undo (Equal v l) (rebuild newer w)
