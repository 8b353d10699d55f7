use Rattle.std.proofs.Common.{◌≡◌, ℕ, ◌+◌, ◌<◌, ◌≤◌, length, get_or, vec_len}
use Rattle.share_store.specs.Log.{StartsWith}
use Rattle.one_solver.specs.Parts.{Parts}
use Rattle.race.specs.Homes.{IsHome}
use Rattle.race.specs.Running.{IsSpent, HasEnded, IsFound, IsLate}
use Rattle.race.specs.Seating.{IsLeading, IsDone}
use Rattle.race.specs.Watching.{KnowsOutcome}
use Rattle.race.proofs.home.bring_home.Given as goal

abbrev pub invariant-homes : goal.invariant-homes
invariant-homes g l =
    (vec_len l.runners + 1 ≤ length l.solvers) × IsLeading l.fn.first.view.question l.exchange l.first
    × (l.first.view.alarmed ≡ l.fn.first.view.alarmed) × (l.first.view.splits ≡ l.fn.first.view.splits)
    × (l.first.view.joins + vec_len l.runners ≡ l.fn.first.view.joins + vec_len l.fn.runners) × StartsWith l.first.view.seen l.fn.first.view.seen
    × ((k : ℕ) (d : Parts) → 0 < k → k < length l.solvers → IsHome l.task.limit l.task.formula.now.problem l.first.view.seen k (get_or l.solvers k d))
    × ((d : Parts) → get_or l.solvers 0 d ≡ get_or l.fn.solvers 0 d)
    × ((k : ℕ) (d : _) → k < vec_len l.runners → IsDone l.task.limit l.fn.first.view.question l.exchange k (get_or l.runners.items k d).solver
    (get_or l.runners.items k d).watch.pass (get_or l.runners.items k d).ending)
    × (KnowsOutcome l.fn.first.view → KnowsOutcome l.first.view)
    × HasEnded l.fn.first.view.question l.first.view ((k : ℕ) (d : Parts) → vec_len l.runners < k → k < length l.solvers
    → IsSpent l.task.limit l.task.formula.now.problem (get_or l.solvers k d).conflicts) l.ended
    × ((k : ℕ) (d : _) → vec_len l.runners ≤ k → k < vec_len l.fn.runners → IsFound (get_or l.fn.runners.items k d).ending → IsFound l.ended)
    × ((k : ℕ) (d : _) → k < vec_len l.runners → get_or l.runners.items k d ≡ get_or l.fn.runners.items k d)
    × ((k : ℕ) (d : _) → vec_len l.runners ≤ k → k < vec_len l.fn.runners → IsLate (get_or l.fn.runners.items k d).ending → IsLate l.ended)

abbrev pub decreases-homes : goal.decreases-homes
decreases-homes g l = vec_len l.runners
