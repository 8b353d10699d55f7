-- What the test for a known clause tells.
use Rattle.std.proofs.Common.{◌≡◌, ℕ, Bool, true, false, ◌==◌, List, [], ◌∷◌, All, get_or, Some, refl, sym, ap, ◌∙◌, true≢false}
use Rattle.std.specs.Bool.{beq}
use Rattle.std.specs.List.{list_any, slice_get}
use Rattle.std.specs.Cmp.Lexicographic.{pointwise}
use Rattle.std.proofs.lemmas.Bool.{and_parts, and_from, eqb-true, eq-eqb}
use Rattle.std.proofs.lemmas.List.Folds.{list_any_at}
use Rattle.std.proofs.lemmas.Option.{slice_get_within, get_or_from_slice_get}
use Rattle.sat_lits.specs.ListLaws.{any_place, any_map}
use Rattle.sat_lits.specs.ClauseLaws.{beq_true}
use Rattle.sat_lits.specs.declared.literal.Lit.{Lit}
use Rattle.sat_lits.specs.declared.shared.Shared.{Shared}
use Rattle.race_model.specs.Events.{same_lit, is_known}
use Rattle.race_model.specs.Turns.{solver_and_clause, SameButAfter}

beq_itself : (b : Bool) → beq b b ≡ true
beq_itself true = refl
beq_itself false = refl

-- a clause passes the test with itself
clause_itself : (c : List Lit) → pointwise same_lit c c ≡ true
clause_itself [] = refl
clause_itself (l ∷ ls) = and_from _ _ (and_from _ _ (eq-eqb l.var.0 l.var.0 refl) (beq_itself l.negative)) (clause_itself ls)

-- literals that the test calls one are one
lits_alike : (l m : Lit) → same_lit l m ≡ true → l ≡ m
lits_alike l m e =
    let parts : ((l.var.0 == m.var.0) ≡ true) × (beq l.negative m.negative ≡ true) = and_parts _ _ e in
    let number : l.var.0 ≡ m.var.0 = eqb-true l.var.0 m.var.0 parts.0 in
    let sign : l.negative ≡ m.negative = beq_true l.negative m.negative parts.1 in
    λ i. record { var = record { 0 = number i }; negative = sign i }

-- and so are clauses
clauses_alike : (c d : List Lit) → pointwise same_lit c d ≡ true → c ≡ d
clauses_alike [] [] e = refl
clauses_alike [] (m ∷ ms) e = absurd (true≢false (sym e))
clauses_alike (l ∷ ls) [] e = absurd (true≢false (sym e))
clauses_alike (l ∷ ls) (m ∷ ms) e =
    let parts : (same_lit l m ≡ true) × (pointwise same_lit ls ms ≡ true) = and_parts _ _ e in
    let head : l ≡ m = lits_alike l m parts.0 in
    let tail : ls ≡ ms = clauses_alike ls ms parts.1 in
    λ i. head i ∷ tail i

-- no entry has a clause that is not known
pub lacks_unknown : (log : List Shared) (clause : List Lit) → is_known log clause ≡ false → All (λ (e : Shared). e.clause ≡ clause → ⊥) log
lacks_unknown log clause unknown k d within same =
    true≢false
    (sym (list_any_at (λ (e : Shared). pointwise same_lit e.clause clause) log k d within (ap (λ c. pointwise same_lit c clause) same ∙ clause_itself clause)) ∙ unknown)

-- a clause that no entry has is not known
pub unknown_lacks : (log : List Shared) (clause : List Lit) → All (λ (e : Shared). e.clause ≡ clause → ⊥) log → is_known log clause ≡ false
unknown_lacks log clause lacks = go (is_known log clause) refl
  where
    no_place : (i : ℕ) × (e : Shared) × (slice_get log i ≡ Some e) × (pointwise same_lit e.clause clause ≡ true) → ⊥
    no_place (i, e, stands, same) =
        let at : get_or log i e ≡ e = get_or_from_slice_get log i e e stands in
        lacks i e (slice_get_within log i e stands) (ap (λ (x : Shared). x.clause) at ∙ clauses_alike e.clause clause same)

    go : (b : Bool) → is_known log clause ≡ b → b ≡ false
    go true known = absurd (no_place (any_place (λ (e : Shared). pointwise same_lit e.clause clause) log known))
    go false known = refl

-- logs with the same clauses know the same ones
pub known_alike : (log other : List Shared) (clause : List Lit) → SameButAfter log other → is_known log clause ≡ is_known other clause
known_alike log other clause same =
    sym (any_map by_pair solver_and_clause log) ∙ (ap (list_any by_pair) same ∙ any_map by_pair solver_and_clause other)
  where
    by_pair : ℕ × List Lit → Bool
    by_pair p = pointwise same_lit p.1 clause
