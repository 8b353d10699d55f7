-- Literals that are not false.
use Rattle.std.proofs.Common.{◌≡◌, ◌<◌, ◌||◌, ◌-◌, ℕ, Bool, true, false, not, List, length, take, drop, get_or, Option, Some, None, IfSome, IfNone, refl, sym, ap, subst, ◌∙◌}
use Rattle.std.specs.Bool.{beq}
use Rattle.std.specs.List.{list_any, list_all}
use Rattle.std.specs.Option.{is_some}
use Rattle.std.proofs.lemmas.Bool.{and_from, and_parts, or_left, or_right, true≢false, not_from_false}
use Rattle.std.proofs.lemmas.Option.{same_Some, none-some}
use Rattle.std.proofs.lemmas.List.{take-append-drop, take_rest}
use Rattle.std.proofs.lemmas.List.Folds.{list_any_at, list_any-append, list_all-append}
use Rattle.sat_lits.specs.InLits.{same_lit}
use Rattle.sat_lits.specs.declared.literal.InLit.{InLit}
use Rattle.trail.specs.declared.trail.Step.{Step}
use Rattle.trail.specs.Trail.{false_in, shaped, step_in, value_in}
use Rattle.trail.specs.Laws.{set_in-step_in, none_of-unset, any_of-step, value_in-step, value_in-false, same_lit_self}
use Rattle.propagate.specs.Watched.{open_but}

-- a literal that has no value false is not false
pub not_false : (t : List Step) (l : InLit) → shaped t ≡ true → (value_in t l ≡ Some false → ⊥) → false_in t l ≡ false
not_false t l h n = go (step_in t l.var.0) refl
  where
    go : (o : Option Step) → step_in t l.var.0 ≡ o → false_in t l ≡ false
    go None e = none_of-unset (λ s. not (beq s.lit.negative l.negative)) t l.var.0 (set_in-step_in t l.var.0 ∙ ap is_some e)
    go (Some s) e = any_of-step (λ r. not (beq r.lit.negative l.negative)) t l.var.0 s h e ∙ by_sign (beq s.lit.negative l.negative) (value_in-step t l s h e)
      where
        by_sign : (b : Bool) → value_in t l ≡ Some b → not b ≡ false
        by_sign true v = refl
        by_sign false v = absurd (n v)

-- one that was found is open
pub found_open : (t : List Step) (other : InLit) (c : List InLit) (i : ℕ) (d : InLit) → i < length c → false_in t (get_or c i d) ≡ false → same_lit other (get_or c i d) ≡ false → open_but t other c (get_or c i d) ≡ true
found_open t other c i d h f s =
    and_from _ _ (list_any_at (same_lit (get_or c i d)) c i d h (same_lit_self (get_or c i d))) (and_from _ _ (not_from_false _ f) (not_from_false _ s))

-- one that is open in a part of a clause is open in the clause
open_in : (t : List Step) (other : InLit) (part c : List InLit) (l : InLit) → (list_any (same_lit l) part ≡ true → list_any (same_lit l) c ≡ true) → open_but t other part l ≡ true → open_but t other c l ≡ true
open_in t other part c l f o = and_from _ _ (f (and_parts _ _ o).0) (and_parts _ _ o).1

pub open_behind : (t : List Step) (other : InLit) (c : List InLit) (n : ℕ) (l : InLit) → open_but t other (take (length c - n) (drop n c)) l ≡ true → open_but t other c l ≡ true
open_behind t other c n l o =
    open_in t other (drop n c) c l (λ h. ap (list_any (same_lit l)) (sym (take-append-drop n c)) ∙ list_any-append (same_lit l) (take n c) (drop n c) ∙ or_right _ _ h)
    (subst (λ (part : List InLit). open_but t other part l ≡ true) (take_rest c n) o)

pub open_before : (t : List Step) (other : InLit) (c : List InLit) (n : ℕ) (found : Option (InLit × ℕ)) → IfSome found (λ f. open_but t other (take n c) f.0 ≡ true) → IfSome found (λ f. open_but t other c f.0 ≡ true)
open_before t other c n None o = o
open_before t other c n (Some f) o =
    open_in t other (take n c) c f.0 (λ h. ap (list_any (same_lit f.0)) (sym (take-append-drop n c)) ∙ list_any-append (same_lit f.0) (take n c) (drop n c) ∙ or_left _ _ h) o

-- where there is none behind a place and none before it, there is none
pub none_left : (t : List Step) (other : InLit) (c : List InLit) (n : ℕ) (found : Option (InLit × ℕ)) → list_all (λ m. same_lit other m || false_in t m) (take (length c - n) (drop n c)) ≡ true
    → IfNone found (list_all (λ m. same_lit other m || false_in t m) (take n c) ≡ true) → IfNone found (list_all (λ m. same_lit other m || false_in t m) c ≡ true)
none_left t other c n (Some f) b h = h
none_left t other c n None b h =
    ap (list_all (λ m. same_lit other m || false_in t m)) (sym (take-append-drop n c)) ∙ list_all-append (λ m. same_lit other m || false_in t m) (take n c) (drop n c)
    ∙ and_from _ _ h (ap (list_all (λ m. same_lit other m || false_in t m)) (sym (take_rest c n)) ∙ b)

-- a literal that has a value is false where it is not true
pub value_is : (t : List Step) (l : InLit) (b : Bool) → shaped t ≡ true → value_in t l ≡ Some b → not b ≡ false_in t l
value_is t l true h e = sym (not_false t l h (λ f. two (sym e ∙ f)))
  where
    two : Some true ≡ Some false → ⊥
    two g = true≢false (same_Some _ _ g)
value_is t l false h e = sym (value_in-false t l e)

-- and one that has none is not
pub value_none_is : (t : List Step) (l : InLit) → shaped t ≡ true → value_in t l ≡ None → false ≡ false_in t l
value_none_is t l h e = sym (not_false t l h (λ f. none-some false (sym e ∙ f)))
