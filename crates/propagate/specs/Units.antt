-- Clauses under a trail. A list of steps stands newest first.
use Rattle.std.specs.Prelude.{Bool, ◌&&◌, ◌||◌, not, List}
use Rattle.std.specs.List.{list_any, list_all}
use Rattle.sat_lits.specs.InLits.{same_lit}
use Rattle.sat_lits.specs.declared.literal.InLit.{InLit}
use Rattle.trail.specs.declared.trail.Step.{Step}
use Rattle.trail.specs.Trail.{true_in, false_in, unset_in}
use Rattle.clause_store.specs.Store.{Held}

-- whether all literals of a clause are false
abbrev pub false_clause : List Step → List InLit → Bool
false_clause steps lits = list_all (false_in steps) lits

-- whether a clause holds a literal and all its others are false
abbrev pub gives : List Step → InLit → List InLit → Bool
gives steps l lits = list_any (same_lit l) lits && list_all (λ m. same_lit l m || false_in steps m) lits

-- whether a clause is unit by a literal: it gives it, and the literal is unset
abbrev pub unit_by : List Step → InLit → List InLit → Bool
unit_by steps l lits = unset_in steps l && gives steps l lits

-- whether a clause has a true literal or two unset ones
abbrev pub quiet_clause : List Step → List InLit → Bool
quiet_clause steps lits = list_any (true_in steps) lits || list_any (λ l. unset_in steps l && list_any (λ m. unset_in steps m && not (same_lit l m)) lits) lits

-- whether every clause has
abbrev pub all_quiet : List Step → List Held → Bool
all_quiet steps held = list_all (λ clause. quiet_clause steps clause.lits) held
