-- Beginnings of one log, and lists of views.
use Rattle.std.proofs.Common.{◌≡◌, ◌≢◌, ◌⊎◌, ℕ, zero, suc, ◌+◌, ◌<◌, ◌≤◌, Bool, true, false, List, [], ◌∷◌, ◌++◌, length, get_or, set, nat_lt, if◌then◌else◌, refl, sym, ap, ◌∙◌, subst, ⊎_elim, inl, inr, arith}
use Rattle.std.proofs.lemmas.Bool.Decides.{nat_tests}
use mathlib.Core.Option.{some, some-ne-none, some-injective}
use lib.ListN.{get_elem?}
use Rattle.atomic_table.proofs.Lists.{at_set}
use Rattle.share_turn.specs.declared.view.View.{View}
use Rattle.sat_lits.specs.declared.shared.Shared.{Shared}
use Rattle.share_store.specs.Log.{StartsWith}
use Rattle.share_store.specs.Laws.{starts_refl, starts_none}
use Rattle.share_turn.specs.Views.{longer}
use Rattle.share_turn.specs.Board.{live}

-- of two beginnings of one list the longer begins with the shorter
shorter_first : (a b c d : List Shared) → a ++ c ≡ b ++ d → length a ≤ length b → StartsWith b a
shorter_first [] b c d e h = starts_none b
shorter_first (x ∷ a) [] c d e h = absurd (omega arith)
shorter_first (x ∷ a) (y ∷ b) c d e h =
    let tail : a ++ c ≡ b ++ d = cc in
    let head : x ≡ y = cc in
    let t = shorter_first a b c d tail (omega arith) in
    record { rest = t.rest; is = (λ i. sym head i ∷ t.is i) }

-- the longer of two beginnings of a log begins with both, and begins the log
longer_by : (log a b : List Shared) (t : Bool) → nat_lt (length a) (length b) ≡ t → StartsWith log a → StartsWith log b
    → StartsWith (if t then b else a) a × StartsWith (if t then b else a) b × StartsWith log (if t then b else a)
longer_by log a b true e f g = (shorter_first a b f.rest g.rest (sym f.is ∙ g.is) (let h : length a < length b = grind (arith, nat_tests) in omega arith), starts_refl b, g)
longer_by log a b false e f g = (starts_refl a, shorter_first b a g.rest f.rest (sym g.is ∙ f.is) (let h : length b ≤ length a = grind (arith, nat_tests) in omega arith), f)

-- the same, as `longer` chooses
pub longer_both : (log a b : List Shared) → StartsWith log a → StartsWith log b → StartsWith (longer a b) a × StartsWith (longer a b) b × StartsWith log (longer a b)
longer_both log a b f g = longer_by log a b (nat_lt (length a) (length b)) refl f g

-- a place where something stands is below the length
pub inside : {A : Type 0} (l : List A) (i : ℕ) (a : A) → get_elem? l i ≡ some a → i < length l
inside [] i a e = absurd (some-ne-none a (sym e))
inside (x ∷ xs) zero a e = omega arith
inside (x ∷ xs) (suc i) a e = let h = inside xs i a e in omega arith

-- what stands in a list with one more at its end stands in the list, or is that one
pub at_end : {A : Type 0} (l : List A) (a b : A) (j : ℕ) → get_elem? (l ++ a ∷ []) j ≡ some b → (get_elem? l j ≡ some b) ⊎ ((j ≡ length l) × (a ≡ b))
at_end [] a b zero e = inr (refl, some-injective a b e)
at_end [] a b (suc j) e = absurd (some-ne-none b (sym e))
at_end (x ∷ xs) a b zero e = inl e
at_end (x ∷ xs) a b (suc j) e = ⊎_elim (λ t. inl t) (λ t. inr (ap suc t.0, t.1)) (at_end xs a b j e)

-- where the view of one pass changes, and the fact holds of the new one, it holds of each
pub each_set : (P : ℕ → View → Type 0) (views : List View) (id : ℕ) (w : View) → P id w → ((j : ℕ) (u : View) → j ≢ id → get_elem? views j ≡ some u → P j u)
    → (j : ℕ) (u : View) → get_elem? (set views id w) j ≡ some u → P j u
each_set P views id w mine others j u e =
    ⊎_elim
    (λ (x : (j ≡ id) × (w ≡ u)). subst (λ (y : ℕ × View). P y.0 y.1) (λ i. (sym x.0 i, x.1 i)) mine)
    (λ (x : (j ≢ id) × (get_elem? views j ≡ some u)). others j u x.0 x.1)
    (at_set views id j w u e)

-- 1 for a pass that was not joined, 0 for one that was
abbrev pub weight : View → ℕ
weight v = if v.spent then 0 else 1

-- the number of passes after one view changed
pub live_set : (vs : List View) (i : ℕ) (v w : View) → get_elem? vs i ≡ some v → live (set vs i w) + weight v ≡ live vs + weight w
live_set [] i v w e = absurd (some-ne-none v (sym e))
live_set (x ∷ xs) zero v w e = let p : weight x ≡ weight v = ap weight (some-injective x v e) in omega arith
live_set (x ∷ xs) (suc i) v w e = let h = live_set xs i v w e in omega arith

-- it stays where the change joins no pass
pub live_same : (vs : List View) (i : ℕ) (v w : View) → get_elem? vs i ≡ some v → w.spent ≡ v.spent → live (set vs i w) ≡ live vs
live_same vs i v w e same = let h = live_set vs i v w e in let p : weight w ≡ weight v = ap (λ b. if b then 0 else 1) same in omega arith

-- the number of passes with one more
pub live_end : (vs : List View) (w : View) → live (vs ++ w ∷ []) ≡ live vs + weight w
live_end [] w = omega arith
live_end (x ∷ xs) w = let h = live_end xs w in omega arith

-- below the length something stands
pub there : {A : Type 0} (l : List A) (i : ℕ) → i < length l → (a : A) × (get_elem? l i ≡ some a)
there [] i h = absurd (omega arith)
there (x ∷ xs) zero h = (x, refl)
there (x ∷ xs) (suc i) h = there xs i (omega arith)

-- a pass that was not joined counts
pub live_one : (vs : List View) (i : ℕ) (v : View) → get_elem? vs i ≡ some v → v.spent ≡ false → 1 ≤ live vs
live_one [] i v e alive = absurd (some-ne-none v (sym e))
live_one (x ∷ xs) zero v e alive = let p : weight x ≡ 1 = ap weight (some-injective x v e) ∙ ap (λ b. if b then 0 else 1) alive in omega arith
live_one (x ∷ xs) (suc i) v e alive = let h = live_one xs i v e alive in omega arith

-- and two of them count twice
pub live_two : (vs : List View) (i j : ℕ) (v u : View) → i ≢ j → get_elem? vs i ≡ some v → get_elem? vs j ≡ some u → v.spent ≡ false → u.spent ≡ false → 2 ≤ live vs
live_two [] i j v u n e f a b = absurd (some-ne-none v (sym e))
live_two (x ∷ xs) zero zero v u n e f a b = absurd (n refl)
live_two (x ∷ xs) zero (suc j) v u n e f a b = let p : weight x ≡ 1 = ap weight (some-injective x v e) ∙ ap (λ t. if t then 0 else 1) a in let h = live_one xs j u f b in omega arith
live_two (x ∷ xs) (suc i) zero v u n e f a b = let p : weight x ≡ 1 = ap weight (some-injective x u f) ∙ ap (λ t. if t then 0 else 1) b in let h = live_one xs i v e a in omega arith
live_two (x ∷ xs) (suc i) (suc j) v u n e f a b = let h = live_two xs i j v u (λ same. n (ap suc same)) e f a b in omega arith

-- the number at a place, as the two look-ups give it
pub index_of : (l : List ℕ) (i n : ℕ) → get_elem? l i ≡ some n → get_or l i 0 ≡ n
index_of [] i n e = absurd (some-ne-none n (sym e))
index_of (x ∷ xs) zero n e = some-injective x n e
index_of (x ∷ xs) (suc i) n e = index_of xs i n e
