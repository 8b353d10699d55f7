-- All clauses of a store, one after another.
use Rattle.std.proofs.Common.{◌≡◌, ℕ, Bool, true, false, cond, eqb, List, [], ◌∷◌, map, Option, Some, None, option_map, option_to_list, refl, ap₂, sym, ap, ◌∙◌}
use Rattle.std.specs.Option.{is_some}
use Rattle.std.proofs.lemmas.Bool.{false≢true, eqb-true}
use Rattle.std.proofs.lemmas.Option.{same_Some, none-some}
use Rattle.sat_lits.specs.declared.literal.InLit.{InLit}
use Rattle.sat_lits.specs.declared.literal.ClauseId.{ClauseId}
use Rattle.clause_store.specs.Store.{Held, Store, clause_at, is_live, before}
use Rattle.clause_store.specs.Laws.{before-none}
use Rattle.propagate.specs.declared.watches.Taken.{Taken}
use Rattle.propagate.specs.Taken.{lits_found}
use Rattle.propagate.specs.Watching.{taken_as}
use Rattle.propagate.specs.Reasons.{names, passes}

-- where the literals of a clause pass a test, its id names one that does
pub named : (held : List Held) (id : ClauseId) (lits : List InLit) (test : List InLit → Bool) → option_map (λ h. h.lits) (clause_at held id.0) ≡ Some lits → test lits ≡ true → names held id test ≡ true
named held id lits test e l = go (clause_at held id.0) e
  where
    go : (o : Option Held) → option_map (λ h. h.lits) o ≡ Some lits → passes test o ≡ true
    go None g = absurd (none-some lits g)
    go (Some h) g = ap test (same_Some h.lits lits g) ∙ l

-- at the end of a walk all clauses are behind it
pub walk_end : (held : List Held) (now : Option ClauseId) → now ≡ None → before held now ≡ held
walk_end held now e = ap (before held) e ∙ before-none held

abbrev one : ℕ → List InLit → List Taken
one n lits = record { id = record { 0 = n }; lits = lits } ∷ []

taken_found : (held : List Held) (n : ℕ) (lits : List InLit) → option_map (λ h. h.lits) (clause_at held n) ≡ Some lits → one n lits ≡ map taken_as (option_to_list (clause_at held n))
taken_found [] n lits e = absurd (none-some lits e)
taken_found (h ∷ rest) n lits e = go (eqb h.id n) refl e (λ (f : option_map (λ k. k.lits) (clause_at rest n) ≡ Some lits). taken_found rest n lits f)
  where
    go : (b : Bool) → eqb h.id n ≡ b → option_map (λ k. k.lits) (cond b (Some h) (clause_at rest n)) ≡ Some lits → (option_map (λ k. k.lits) (clause_at rest n) ≡ Some lits → one n lits ≡ map taken_as (option_to_list (clause_at rest n)))
        → one n lits ≡ map taken_as (option_to_list (cond b (Some h) (clause_at rest n)))
    go true g f more = ap₂ one (sym (eqb-true _ _ g)) (sym (same_Some h.lits lits f))
    go false g f more = more f

found_lits : (o : Option Held) → is_some o ≡ true → option_map (λ h. h.lits) o ≡ Some (lits_found o)
found_lits None e = absurd (false≢true e)
found_lits (Some h) e = refl

-- a live clause is taken over with its id and its literals
pub taken_one : (then now : Store) (id : ClauseId) → then ≡ now → is_live now.held id.0 ≡ true → record { id = id; lits = lits_found (clause_at then.held id.0) } ∷ [] ≡ map taken_as (option_to_list (clause_at now.held id.0))
taken_one then now id e live =
    ap (λ (s : Store). one id.0 (lits_found (clause_at s.held id.0))) e
    ∙ taken_found now.held id.0 (lits_found (clause_at now.held id.0)) (found_lits (clause_at now.held id.0) live)
