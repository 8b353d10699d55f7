-- The newest entry that takes a variable out.
use Rattle.std.proofs.Common.{◌≡◌, ℕ, zero, suc, ◌+◌, ◌<◌, true, false, List, [], ◌∷◌, Some, get_or, drop, length, sym, ap, ◌∙◌, subst, arith, eqb-true}
use Rattle.std.specs.List.{list_any, slice_get}
use Rattle.std.proofs.lemmas.Bool.{false≢true}
use Rattle.sat_lits.specs.declared.literal.Own.{Own}
use Rattle.rebuild_stack.specs.declared.entry.Entry.{Entry}
use Rattle.rebuild_stack.specs.declared.entry.Entry.TheVariants.{Fix, Equal, Gone}
use Rattle.rebuild_stack.specs.Entries.{is_block_of, IsNewestBlock}

slice_get_at : {X : Type 0} (xs : List X) (i : ℕ) (x : X) → i < length xs → x ≡ get_or xs i x → slice_get xs i ≡ Some x
slice_get_at [] i x h e = absurd (omega arith)
slice_get_at (y ∷ xs) zero x h e = ap Some (sym e)
slice_get_at (y ∷ xs) (suc i) x h e = slice_get_at xs i x (omega arith) e

-- an entry of the variable that no newer one follows is the newest
pub newest_block : (v : Own) (s : List Entry) (at next : ℕ) (e : Entry) → at + 1 ≡ next → at < length s → e ≡ get_or s at e → is_block_of v e ≡ true → list_any (is_block_of v) (drop next s) ≡ false → IsNewestBlock v s at
newest_block v s at next (Fix l) n h e t r = absurd (false≢true t)
newest_block v s at next (Equal w l) n h e t r = absurd (false≢true t)
newest_block v s at next (Gone w cs) n h e t r = record {
  clauses = cs;
  entry = slice_get_at s at (Gone w cs) h e ∙ ap (λ (k : Own). Some (Gone k cs)) (same_own w v (eqb-true w.0 v.0 t));
  newest = subst (λ k. list_any (is_block_of v) (drop k s) ≡ false) (sym n) r;
}
  where
    same_own : (a b : Own) → a.0 ≡ b.0 → a ≡ b
    same_own a b q = ap (λ (k : ℕ). let o : Own = record { 0 = k } in o) q
