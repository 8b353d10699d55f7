use Rattle.std.proofs.Common.{◌≡◌, ◌||◌, take, true}
use Rattle.std.specs.List.{list_all}
use Rattle.sat_lits.specs.InLits.{same_lit}
use Rattle.trail.specs.Trail.{false_in}
use Rattle.propagate.proofs.table.find_open.Given as goal

abbrev pub invariant-loop-at : goal.invariant-loop-at
invariant-loop-at l = list_all (λ m. same_lit l.other m || false_in l.trail.steps m) (take l.at l.lits) ≡ true
