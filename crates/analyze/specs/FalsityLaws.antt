-- Facts on literals that are false by a level, and on the way back, that every crate above may cite.
use Rattle.std.proofs.Common.{◌≡◌, ◌<◌, ◌≤◌, ℕ, true, false, not, eqb, leb, ◌&&◌, ◌||◌, List, ⊎_elim, arith, eq-eqb}
use Rattle.std.proofs.lemmas.Bool.{and_parts, or_cases, eqb-true, leb-true, not-true, both_ways, false_from_ne_true}
use Rattle.std.specs.List.{list_all}
use Rattle.sat_lits.specs.InLits.{opposite}
use Rattle.sat_lits.specs.ListLaws.{all_or_any, any_mono, any_filter}
use Rattle.sat_lits.specs.declared.literal.InLit.{InLit}
use Rattle.trail.specs.declared.trail.Step.{Step}
use Rattle.trail.specs.Trail.{false_in, set_in, shaped, back_to}
use Rattle.trail.specs.Laws.{opposite_var, only_one, filter_any}
use Rattle.analyze.specs.Falsity.{false_at, false_by}

-- a literal that is false by a level is false
pub by_false : (t : List Step) (b : ℕ) (l : InLit) → false_by t b l ≡ true → false_in t l ≡ true
by_false t b l e = any_mono (λ (s : Step). opposite s.lit l && leb s.level b) (λ (s : Step). opposite s.lit l) (λ s o. (and_parts (opposite s.lit l) (leb s.level b) o).0) t e

pub at_false : (t : List Step) (b : ℕ) (l : InLit) → false_at t b l ≡ true → false_in t l ≡ true
at_false t b l e = any_mono (λ (s : Step). opposite s.lit l && eqb s.level b) (λ (s : Step). opposite s.lit l) (λ s o. (and_parts (opposite s.lit l) (eqb s.level b) o).0) t e

-- a literal that is false by a level is so after the way back to it
pub false_back : (t : List Step) (k : ℕ) (l : InLit) → false_by t k l ≡ true → false_in (back_to k t) l ≡ true
false_back t k l e = any_filter (λ (s : Step). opposite s.lit l) (λ (s : Step). leb s.level k) t e

-- the steps of the variable of a literal stand at the level by which it is false
pub only_level : (t : List Step) (k : ℕ) (l : InLit) → shaped t ≡ true → false_at t k l ≡ true → list_all (λ s. not (eqb s.lit.var.0 l.var.0) || eqb s.level k) t ≡ true
only_level t k l e f =
    only_one (λ (s : Step). opposite s.lit l && eqb s.level k) (λ (s : Step). eqb s.level k) t l.var.0 e
    (λ s a. eq-eqb _ _ (opposite_var s.lit l (and_parts (opposite s.lit l) (eqb s.level k) a).0)) (λ s a. (and_parts (opposite s.lit l) (eqb s.level k) a).1) f

-- the way back unsets a literal that is false by a higher level
pub gone_unset : (t : List Step) (k b : ℕ) (l : InLit) → shaped t ≡ true → false_at t k l ≡ true → b < k → set_in (back_to b t) l.var.0 ≡ false
gone_unset t k b l e f h = false_from_ne_true _ (λ (g : set_in (back_to b t) l.var.0 ≡ true).
    all_or_any (λ (s : Step). not (eqb s.lit.var.0 l.var.0) || eqb s.level k) (λ (s : Step). eqb s.lit.var.0 l.var.0 && leb s.level b) ⊥ t (only_level t k l e f)
    (filter_any (λ (s : Step). eqb s.lit.var.0 l.var.0) (λ (s : Step). leb s.level b) t g)
    (λ s c d. let p : (eqb s.lit.var.0 l.var.0 ≡ true) × (leb s.level b ≡ true) = and_parts _ _ d in
    ⊎_elim (λ (x : not (eqb s.lit.var.0 l.var.0) ≡ true). both_ways _ (not-true _ x) p.0)
    (λ (x : eqb s.level k ≡ true). let y : s.level ≡ k = eqb-true _ _ x in let z : s.level ≤ b = leb-true _ _ p.1 in absurd (omega arith)) (or_cases _ _ c)))
