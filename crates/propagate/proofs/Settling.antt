-- One clause, by its watched literals.
use Rattle.std.proofs.Common.{◌≡◌, Bool, true, ◌||◌, List, [], ◌∷◌, Option, Some, None, option_map, refl, sym, ap, ◌∙◌, eq-eqb}
use Rattle.std.specs.List.{list_any, list_all}
use Rattle.std.proofs.lemmas.Bool.{and_from, not_from_false, false≢true}
use Rattle.std.proofs.lemmas.Option.{same_Some}
use Rattle.sat_lits.specs.InLits.{same_lit}
use Rattle.sat_lits.specs.declared.literal.InLit.{InLit}
use Rattle.sat_lits.specs.declared.literal.ClauseId.{ClauseId}
use Rattle.trail.specs.declared.trail.Step.{Step}
use Rattle.trail.specs.Trail.{Assignment, true_in, false_in, unset_in, level_of, value_in, shaped}
use Rattle.trail.specs.Laws.{value_in-none, same_lit_eq}
use Rattle.clause_store.specs.Store.{Held, clause_at}
use Rattle.propagate.specs.Units.{gives, unit_by}
use Rattle.propagate.specs.Reasons.{names, passes, Extends}
use Rattle.propagate.proofs.Walking.{named}
use Rattle.sat_lits.specs.ListLaws.{any_mono}

-- what an id's clause passes, its literals do
pub names_at : (held : List Held) (id : ClauseId) (lits : List InLit) (test : List InLit → Bool) → option_map (λ h. h.lits) (clause_at held id.0) ≡ Some lits → names held id test ≡ true → test lits ≡ true
names_at held id lits test e n = go (clause_at held id.0) e n
  where
    go : (o : Option Held) → option_map (λ h. h.lits) o ≡ Some lits → passes test o ≡ true → test lits ≡ true
    go None f m = absurd (false≢true m)
    go (Some h) f m = ap test (sym (same_Some h.lits lits f)) ∙ m

-- a clause is unit by a watched literal that is unset, where all others are false
pub unit_left : (held : List Held) (t : List Step) (id : ClauseId) (lits : List InLit) (other : InLit) → option_map (λ h. h.lits) (clause_at held id.0) ≡ Some lits → shaped t ≡ true → value_in t other ≡ None
    → names held id (λ c. list_any (same_lit other) c) ≡ true → list_all (λ m. same_lit other m || false_in t m) lits ≡ true → names held id (unit_by t other) ≡ true
unit_left held t id lits other e h v n a =
    named held id lits (unit_by t other) e (and_from _ _ (not_from_false _ (value_in-none t other h v)) (and_from _ _ (names_at held id lits (λ c. list_any (same_lit other) c) e n) a))

-- its literal is assigned
pub extends_one : (held : List Held) (from to : Assignment) (l : InLit) (id : ClauseId) → names held id (unit_by from.steps l) ≡ true
    → to ≡ record from { steps = record { lit = l; level = level_of from.steps; reason = Some id } ∷ from.steps } → Extends held from.steps to.steps
extends_one held from to l id u e =
    record {
      newer = record { lit = l; level = level_of from.steps; reason = Some id } ∷ [];
      parts = ap (λ (z : Assignment). z.steps) e;
      derived = and_from _ _ (and_from _ _ u (eq-eqb (level_of from.steps) (level_of from.steps) refl)) refl;
    }

-- a clause that gives an unset literal is unit by it
pub unit_given : (held : List Held) (t : List Step) (id : ClauseId) (l : InLit) → unset_in t l ≡ true → names held id (gives t l) ≡ true → names held id (unit_by t l) ≡ true
unit_given held t id l u n = go (clause_at held id.0) n
  where
    go : (o : Option Held) → passes (gives t l) o ≡ true → passes (unit_by t l) o ≡ true
    go None f = absurd (false≢true f)
    go (Some h) f = and_from _ _ u f

pub unset_none : (t : List Step) (l : InLit) → shaped t ≡ true → value_in t l ≡ None → unset_in t l ≡ true
unset_none t l h v = not_from_false _ (value_in-none t l h v)

-- a true literal of a clause makes it true
pub true_named : (held : List Held) (t : List Step) (id : ClauseId) (lits : List InLit) (one : InLit) → option_map (λ h. h.lits) (clause_at held id.0) ≡ Some lits → list_any (same_lit one) lits ≡ true → true_in t one ≡ true → names held id (λ c. list_any (true_in t) c) ≡ true
true_named held t id lits one e a o = named held id lits (λ c. list_any (true_in t) c) e (any_mono (same_lit one) (true_in t) (λ l q. ap (true_in t) (sym (same_lit_eq one l q)) ∙ o) lits a)
