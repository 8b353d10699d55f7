-- Pairs of stored clauses that are joined where a variable is eliminated, counted without joining them.
use Rattle.std.specs.Prelude.{ℕ, ◌==◌, Bool, true, false, not, ◌&&◌, ◌||◌, cond, List, filter, length, sum_by, option_to_list}
use Rattle.std.specs.Bool.{beq}
use Rattle.std.specs.List.{list_all, list_any}
use Rattle.sat_lits.specs.declared.literal.InLit.{InLit}
use Rattle.clause_store.specs.Store.{Held, clause_at, hard_of}

-- the literals of the hard clause of an id, if there is one
abbrev pub hard_at : List Held → ℕ → List (List InLit)
hard_at held id = hard_of (option_to_list (clause_at held id))

-- whether a clause holds the literal of a variable that is negative, or positive
abbrev pub holds_lit : ℕ → Bool → List InLit → Bool
holds_lit i negative c = list_any (λ l. (l.var.0 == i) && beq negative l.negative) c

-- whether the negation of no positive literal of one clause, but that of a variable, stands in another
abbrev pub is_apart : ℕ → List InLit → List InLit → Bool
is_apart i c d = list_all (λ l. l.negative || ((l.var.0 == i) || not (holds_lit l.var.0 true d))) c

-- whether two clauses, but for a variable, have no opposite literals
abbrev pub may_join : ℕ → List InLit → List InLit → Bool
may_join i c d = is_apart i c d && is_apart i d c

-- whether a clause without the positive literal of a variable is joined with another, and that is no tautology
abbrev pub joins_right : ℕ → List InLit → List InLit → Bool
joins_right i c d = not (holds_lit i false d) && may_join i c d

-- with how many clauses one is joined that is without the negative literal of a variable
abbrev pub count_right : ℕ → List (List InLit) → List InLit → ℕ
count_right i ds c = cond (holds_lit i true c) 0 (length (filter (joins_right i c) ds))

-- how many pairs of clauses are joined
abbrev pub count_pairs : ℕ → List (List InLit) → ℕ
count_pairs i cs = sum_by (count_right i cs) cs
