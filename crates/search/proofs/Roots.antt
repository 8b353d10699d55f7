-- Literals of level 0, and a clause that is false there.
use Rattle.std.proofs.Common.{◌≡◌, ◌<◌, ◌≤◌, ℕ, Bool, true, List, [], ◌∷◌, Option, Some, None, refl, arith, ltb-true}
use Rattle.std.proofs.lemmas.Bool.{and_parts, and_from, both_ways}
use Rattle.sat_lits.specs.Truth.{clause_value}
use Rattle.sat_lits.specs.ListLaws.{all_or_any}
use Rattle.sat_lits.specs.declared.literal.ClauseId.{ClauseId}
use Rattle.trail.specs.declared.trail.Step.{Step}
use Rattle.trail.specs.Trail.{shaped, shaped_step, level_of, false_in}
use Rattle.trail.specs.Laws.{level_up}
use Rattle.clause_store.specs.Store.{Held}
use Rattle.propagate.specs.Units.{false_clause}
use Rattle.propagate.specs.Reasons.{names, has_reason, reasoned, lit_value, steps_value, held_value}
use Rattle.propagate.specs.Laws.{named_all, reason_value, false_value}

-- a trail of level 0 follows from the clauses
roots : (w : ℕ → Bool) (held : List Held) (t : List Step) → held_value w held ≡ true → shaped t ≡ true → reasoned held t ≡ true → level_of t ≤ 0 → steps_value w t ≡ true
roots w held [] a e r z = refl
roots w held (s ∷ older) a e r z =
    let p : (shaped_step older s ≡ true) × (shaped older ≡ true) = and_parts _ _ e in
    let q : (has_reason held older s s.reason ≡ true) × (reasoned held older ≡ true) = and_parts _ _ r in
    let u : level_of older ≤ s.level = level_up older s p.0 in
    let i : steps_value w older ≡ true = roots w held older a p.1 q.1 (omega arith) in
    and_from _ _ (go s.reason q.0 i) i
  where
    go : (o : Option ClauseId) → has_reason held older s o ≡ true → steps_value w older ≡ true → lit_value w s.lit ≡ true
    go None f i = absurd (let l : level_of older < s.level = ltb-true _ _ f in omega arith)
    go (Some id) f i = reason_value w held older s id a i f

-- so no valuation makes all clauses true where one is false there
pub root_conflict : (w : ℕ → Bool) (held : List Held) (t : List Step) (id : ClauseId) → held_value w held ≡ true → shaped t ≡ true → reasoned held t ≡ true → level_of t ≡ 0 → names held id (false_clause t) ≡ true → ⊥
root_conflict w held t id a e r z f =
    let i : steps_value w t ≡ true = roots w held t a e r (omega arith) in
    named_all (λ (h : Held). clause_value (lit_value w) h.lits) (false_clause t) held id ⊥ f a
    (λ h v g. all_or_any (false_in t) (lit_value w) ⊥ h.lits g v (λ l x y. both_ways _ (false_value w t l i x) y))
