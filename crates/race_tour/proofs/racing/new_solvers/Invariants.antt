use Rattle.std.proofs.Common.{◌≡◌, List, vec_len}
use Rattle.sat_lits.specs.Meaning.{Problem}
use Rattle.sat_lits.specs.declared.shared.Shared.{Shared}
use Rattle.race.specs.Homes.{EachPlace, IsEntrant}
use Rattle.race_tour.proofs.racing.new_solvers.Given as goal

abbrev pub invariant-solvers : goal.invariant-solvers
invariant-solvers l = record {
  many : vec_len l.solvers ≡ l.number;
  entrants : (f : Problem) (log : List Shared) → EachPlace (IsEntrant f log) l.solvers.items;
}
