-- The inner numbers that are in use.
use Rattle.std.specs.Prelude.{ℕ, suc, ◌==◌, Bool, List, [], ◌∷◌, Some, None}
use Rattle.std.specs.declared.option.Option.{Option}
use Rattle.std.specs.List.{list_any, list_all}
use Rattle.sat_lits.specs.declared.literal.Own.{Own}
use Rattle.sat_lits.specs.declared.literal.InLit.{InLit}
use Rattle.trail.specs.declared.trail.Step.{Step}
use Rattle.clause_store.specs.Store.{Held}
use Rattle.var_maps.specs.Maps.{Maps}

-- the places that have an owner, where the first place has this number
abbrev pub owned_from : ℕ → List (Option Own) → List ℕ
owned_from n [] = []
owned_from n (None ∷ rest) = owned_from (suc n) rest
owned_from n (Some v ∷ rest) = n ∷ owned_from (suc n) rest

-- the inner numbers that active variables have, rising; there are as many as active variables
abbrev pub in_use : Maps → List ℕ
in_use m = owned_from 0 m.owners

-- whether a number is one of these
abbrev pub is_among : List ℕ → ℕ → Bool
is_among numbers v = list_any (λ n. n == v) numbers

-- whether the variables of literals are
abbrev pub lits_among : List ℕ → List InLit → Bool
lits_among numbers lits = list_all (λ l. is_among numbers l.var.0) lits

-- whether those of all clauses are
abbrev pub clauses_among : List ℕ → List Held → Bool
clauses_among numbers held = list_all (λ clause. lits_among numbers clause.lits) held

-- whether those of a trail are
abbrev pub steps_among : List ℕ → List Step → Bool
steps_among numbers steps = list_all (λ s. is_among numbers s.lit.var.0) steps
