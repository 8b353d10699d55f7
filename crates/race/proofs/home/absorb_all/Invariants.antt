use Rattle.std.proofs.Common.{◌≡◌, ℕ, ◌<◌, ◌≤◌, length, get_or}
use Rattle.one_solver.specs.Parts.{Parts}
use Rattle.race.specs.Homes.{Absorbs}
use Rattle.race.proofs.home.absorb_all.Given as goal

abbrev pub invariant-solvers : goal.invariant-solvers
invariant-solvers l =
    ((k : ℕ) (d : Parts) → k < l.place → Absorbs l.formula.problem k (get_or l.fn.solvers k d) (get_or l.solvers k d))
    × ((k : ℕ) (d : Parts) → l.place ≤ k → k < length l.solvers → get_or l.solvers k d ≡ get_or l.fn.solvers k d)
