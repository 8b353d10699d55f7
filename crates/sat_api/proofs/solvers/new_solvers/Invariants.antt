use Rattle.std.proofs.Common.{◌≡◌, List, vec_len, vec_capacity}
use Rattle.sat_lits.specs.Meaning.{Problem}
use Rattle.sat_lits.specs.declared.shared.Shared.{Shared}
use Rattle.race.specs.Homes.{EachPlace, IsEntrant}
use Rattle.sat_api.proofs.solvers.new_solvers.Given as goal

abbrev pub invariant-numbers : goal.invariant-numbers
invariant-numbers l = record {
  many : vec_len l.solvers ≡ l.number;
  room : vec_capacity l.solvers ≡ l.count;
  entrants : (f : Problem) (log : List Shared) → EachPlace (IsEntrant f log) l.solvers.items;
}
