-- Values of own variables. A valuation is a function from own numbers to values.
use Rattle.std.specs.Prelude.{ℕ, Bool, false, List, slice_index_or}
use Rattle.std.specs.List.{list_all}
use Rattle.sat_lits.specs.Truth.{signed}
use Rattle.sat_lits.specs.declared.literal.OwnLit.{OwnLit}

-- the values of a list, by number, and false past its end
abbrev pub values_of : List Bool → ℕ → Bool
values_of values n = slice_index_or values n false

-- a positive literal has its variable's value, a negative one the opposite
abbrev pub own_value : (ℕ → Bool) → OwnLit → Bool
own_value w l = signed l.negative (w l.var.0)

-- whether each literal of each clause passes
abbrev pub each_lit : {L : Type 0} → (L → Bool) → List (List L) → Bool
each_lit p clauses = list_all (λ c. list_all p c) clauses
