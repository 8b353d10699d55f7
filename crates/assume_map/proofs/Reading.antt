-- What an assumption comes to, read from the last literal that replacements lead to.
use Rattle.std.proofs.Common.{◌≡◌, Bool, true, false, not, Option, Some, None, List, refl, sym, ap, ◌∙◌}
use Rattle.std.specs.Bool.{beq}
use Rattle.std.proofs.lemmas.Bool.{true≢false}
use Rattle.sat_lits.specs.Truth.{signed}
use Rattle.sat_lits.specs.declared.literal.OwnLit.{OwnLit}
use Rattle.rebuild_stack.specs.Roots.{root, is_lost}
use Rattle.rebuild_stack.specs.declared.entry.Entry.{Entry}
use Rattle.rebuild_stack.specs.declared.entry.Entry.TheVariants.{Fix, Equal, Gone}
use Rattle.rebuild_stack.specs.declared.entry.Root.TheVariants.{Known, Last}
use Rattle.state_laws.specs.RootTableLaws.{entry_of, root_without_entry, root_fixed, root_gone}
use Rattle.removed_vars.specs.Removed.{fixed_value}
use Rattle.removed_vars.specs.Statuses.{status_of, IsEnd}

signed_not : (n x : Bool) → not (beq x n) ≡ signed n x
signed_not true true = refl
signed_not true false = refl
signed_not false true = refl
signed_not false false = refl

-- a last literal that is fixed
pub known_root : (s : List Entry) (l : OwnLit) (value : Bool) → Some value ≡ fixed_value (entry_of l.var.0 s) → Known (not (beq value l.negative)) ≡ root s l
known_root s l value h = go (entry_of l.var.0 s) refl h
  where
    same : (x y : Bool) → Some x ≡ Some y → x ≡ y
    same x y q = cc

    go : (o : Option Entry) → entry_of l.var.0 s ≡ o → Some value ≡ fixed_value o → Known (not (beq value l.negative)) ≡ root s l
    go None e q = cc
    go (Some (Fix k)) e q = ap (λ (b : Bool). Known b) (signed_not l.negative value ∙ ap (signed l.negative) (same value (not k.negative) q)) ∙ sym (root_fixed s l k e)
    go (Some (Equal v k)) e q = cc
    go (Some (Gone v cs)) e q = cc

-- and one that is not
pub last_root : (s : List Entry) (l : OwnLit) → None ≡ fixed_value (entry_of l.var.0 s) → IsEnd (status_of (entry_of l.var.0 s)) → is_lost (root s l) ≡ false → Last l ≡ root s l
last_root s l h i t = go (entry_of l.var.0 s) refl h i
  where
    go : (o : Option Entry) → entry_of l.var.0 s ≡ o → None ≡ fixed_value o → IsEnd (status_of o) → Last l ≡ root s l
    go None e q j = sym (root_without_entry s l e)
    go (Some (Fix k)) e q j = cc
    go (Some (Equal v k)) e q j = absurd j
    go (Some (Gone v cs)) e q j = absurd (true≢false (sym (ap is_lost (root_gone s l v cs e)) ∙ t))
