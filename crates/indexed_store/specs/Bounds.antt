-- When a variable may be eliminated: few clauses hold it, and their resolvents are not more, and short.
use Rattle.std.specs.Prelude.{ℕ, Bool, ◌&&◌, List, map, filter, length, nat_le, count_by, true, false}
use Rattle.std.specs.List.{list_all}
use Rattle.sat_lits.specs.declared.literal.InLit.{InLit}
use Rattle.sat_lits.specs.declared.literal.OwnLit.{OwnLit}
use Rattle.clause_store.specs.Store.{Held, hard_of}
use Rattle.state_laws.specs.Resolution.{has_sign, mentions, resolvents}

-- whether at most 16 clauses hold the variable with each sign
abbrev pub are_few : ℕ → List (List OwnLit) → Bool
are_few v cs = nat_le (count_by (has_sign v false) cs) 16 && nat_le (count_by (has_sign v true) cs) 16

-- whether no clause has more than 32 literals
abbrev pub are_short : List (List OwnLit) → Bool
are_short cs = list_all (λ c. nat_le (length c) 32) cs

-- whether clauses that hold a variable meet the bound
abbrev pub are_bounded : ℕ → List (List OwnLit) → Bool
are_bounded v cs = are_few v cs && (nat_le (length (resolvents v cs)) (length cs) && are_short (resolvents v cs))

-- a stored literal with its inner number as an own one
abbrev pub as_own : InLit → OwnLit
as_own l = record { var = record { 0 = l.var.0 }; negative = l.negative }

-- the hard clauses that hold an inner variable, with inner numbers as own ones
abbrev pub hard_with : ℕ → List Held → List (List OwnLit)
hard_with i held = filter (mentions i) (map (map as_own) (hard_of held))

-- whether the hard clauses of an inner variable meet the bound
abbrev pub is_bounded : ℕ → List Held → Bool
is_bounded i held = are_bounded i (hard_with i held)
