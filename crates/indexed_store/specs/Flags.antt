-- Flags of variables, and which clauses clear them.
use Rattle.std.specs.Prelude.{ℕ, Bool, false, not, ◌&&◌, List, slice_index_or}
use Rattle.std.specs.List.{list_any}
use Rattle.sat_lits.specs.declared.literal.InLit.{InLit}
use Rattle.indexed_store.specs.Lists.{is_in}

-- whether the flag of a variable is set
abbrev pub is_flagged : List Bool → ℕ → Bool
is_flagged flags v = slice_index_or flags v false

-- whether a clause is hard and holds a variable
abbrev pub is_hard_with : ℕ → Bool → List InLit → Bool
is_hard_with v learned lits = not learned && list_any (is_in v) lits
