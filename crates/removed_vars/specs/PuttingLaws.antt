-- Clauses that are merged from what their literals come to.
use Rattle.std.proofs.Common.{◌≡◌, ℕ, ◌+◌, ◌<◌, true, false, List, [], ◌∷◌, ◌++◌, Some, None, refl, ap, ◌∙◌, length, get_or, take, map}
use Rattle.std.proofs.lemmas.Grind.{take_at_read}
use Rattle.std.proofs.lemmas.List.Folds.{fold_stuck, fold-map}
use Rattle.std.proofs.lemmas.List.Sums.{fold-append}
use Rattle.sat_lits.specs.declared.literal.OwnLit.{OwnLit}
use Rattle.rebuild_stack.specs.PutIn.{add_root, put_in}
use Rattle.rebuild_stack.specs.declared.entry.Root.{Root}
use Rattle.rebuild_stack.specs.declared.entry.Root.TheVariants.{Known, Last, Lost}

-- a clause that is settled stays so
add_root_none : (r : Root) → add_root r None ≡ None
add_root_none (Known true) = refl
add_root_none (Known false) = refl
add_root_none (Last k) = refl
add_root_none (Lost v) = refl

-- one more root is merged
pub put_in_more : (roots : List Root) (i : ℕ) (d : Root) (lits : List OwnLit) → i < length roots → put_in (λ r. r) (take i roots) ≡ Some lits → put_in (λ r. r) (take (i + 1) roots) ≡ add_root (get_or roots i d) (Some lits)
put_in_more roots i d lits l e =
    ap (put_in (λ r. r)) (taken roots i d l) ∙ (fold-append (λ o r. add_root r o) (Some []) (take i roots) (get_or roots i d ∷ []) ∙ ap (add_root (get_or roots i d)) e)
  where
    taken : (xs : List Root) (n : ℕ) (x : Root) → n < length xs → take (n + 1) xs ≡ take n xs ++ get_or xs n x ∷ []
    taken xs n x h = (take_at_read xs n x h).1

-- a root that settles the clause
pub put_in_stuck : (roots : List Root) (i : ℕ) (d : Root) (lits : List OwnLit) → i < length roots → put_in (λ r. r) (take i roots) ≡ Some lits → add_root (get_or roots i d) (Some lits) ≡ None → None ≡ put_in (λ r. r) roots
put_in_stuck roots i d lits l e s = fold_stuck (λ o r. add_root r o) None add_root_none (Some []) roots i d l (ap (add_root (get_or roots i d)) e ∙ s)

-- literals may be followed before they are merged
pub put_in-map : {L : Type 0} (f : L → Root) (c : List L) → put_in (λ r. r) (map f c) ≡ put_in f c
put_in-map f c = fold-map (λ o r. add_root r o) f (Some []) c
