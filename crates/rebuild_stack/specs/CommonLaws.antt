-- Facts on tests of lists, on clauses over any kind of literal, and on valuations.
use Rattle.std.proofs.Common.{◌≡◌, ℕ, ◌==◌, Bool, true, false, cond, not, ◌||◌, List, refl, sym, ap, ◌∙◌, eqb-true}
use Rattle.std.proofs.lemmas.Bool.{true≢false}
use Rattle.std.proofs.Math.Path.{fun_ext}
use Rattle.std.specs.List.{list_all}
use Rattle.sat_lits.specs.Truth.{signed, with_value}
use Rattle.sat_lits.specs.ListLaws.{all_mono}
use Rattle.rebuild_stack.specs.Values.{each_lit}

-- a choice by a false test is its second value
pub cond_at : {A : Type 0} (b : Bool) (x y : A) → b ≡ false → cond b x y ≡ y
cond_at true x y e = absurd (true≢false e)
cond_at false x y e = refl

pub or_true : (a : Bool) → (a || true) ≡ true
or_true true = refl
or_true false = refl

pub or_false : (a : Bool) → (a || false) ≡ a
or_false true = refl
or_false false = refl

pub or_comm : (a b : Bool) → (a || b) ≡ (b || a)
or_comm true b = sym (or_true b)
or_comm false b = sym (or_false b)

pub or_assoc : (a b c : Bool) → ((a || b) || c) ≡ (a || (b || c))
or_assoc true b c = refl
or_assoc false b c = refl

-- where each literal that passes one test passes another, clauses of the first pass the second
pub each_mono : {L : Type 0} (p q : L → Bool) → ((l : L) → p l ≡ true → q l ≡ true) → (cs : List (List L)) → each_lit p cs ≡ true → each_lit q cs ≡ true
each_mono p q h cs e = all_mono (list_all p) (list_all q) (all_mono p q h) cs e

-- the variable of a true literal has the value that the sign says
pub signed_true : (negative value : Bool) → signed negative value ≡ true → value ≡ not negative
signed_true true true e = sym e
signed_true true false e = refl
signed_true false value e = e

-- a valuation that is given a value that it has stays
pub with_value_kept : (w : ℕ → Bool) (var : ℕ) (value : Bool) → value ≡ w var → with_value w var value ≡ w
with_value_kept w var value e = fun_ext (λ n. go n (n == var) refl)
  where
    go : (n : ℕ) (b : Bool) → (n == var) ≡ b → cond b value (w n) ≡ w n
    go n true f = e ∙ ap w (sym (eqb-true n var f))
    go n false f = refl
