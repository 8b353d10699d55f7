-- What the fields of one solver mean, and what they keep.
use Rattle.one_solver.specs.Basic.{IsBasic}
use Rattle.one_solver.specs.Parts.{Parts}
use Rattle.one_solver.specs.declared.solver.OneSolver.TheInside.{Inside}

abbrev pub parts_of : Inside → Parts
parts_of s = record { number = s.number; kernel = s.state; book = s.book; took = s.took; conflicts = s.tally; interval = s.interval; assumptions = s.assumptions }

abbrev pub IsKept : Inside → Type 0
IsKept s = IsBasic s.state
