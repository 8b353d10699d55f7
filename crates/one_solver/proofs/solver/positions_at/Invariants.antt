use Rattle.std.proofs.Common.{◌≡◌, map, take}
use Rattle.std.specs.List.{slice_index}
use Rattle.one_solver.proofs.solver.positions_at.Given as goal

abbrev pub invariant-loop-place : goal.invariant-loop-place
invariant-loop-place l = l.found ≡ map (λ p. slice_index l.positions p) (take l.place-index l.places)
