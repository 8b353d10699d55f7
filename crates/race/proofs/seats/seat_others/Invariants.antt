use Rattle.std.proofs.Common.{◌≡◌, ℕ, ◌+◌, ◌-◌, ◌<◌, ◌≤◌, length, get_or, vec_len, vec_capacity}
use Rattle.std.specs.declared.option.Option.{Option}
use Rattle.one_solver.specs.Parts.{Parts}
use Rattle.race.specs.Homes.{IsEntrant}
use Rattle.race.specs.Seating.{IsSeatOf, IsNewAt, SplitOff}
use Rattle.race.proofs.seats.seat_others.Given as goal

abbrev pub invariant-seats : goal.invariant-seats
invariant-seats l =
    (vec_len l.runners + 1 ≡ l.place) × (vec_capacity l.runners ≡ length l.solvers - 1) × SplitOff l.fn.first l.first (vec_len l.runners)
    × ((limit : Option ℕ) (k : ℕ) (d : _) → k < vec_len l.runners → IsSeatOf limit l.fn.first.view.question l.exchange k (get_or l.runners.items k d).solver (get_or l.runners.items k d).watch.pass)
    × ((k : ℕ) (d : Parts) → 0 < k → k < l.place → IsNewAt k (get_or l.solvers k d))
    × ((k : ℕ) (d : Parts) → l.place ≤ k → k < length l.solvers → IsEntrant l.fn.first.view.question.formula.problem l.fn.first.view.seen k (get_or l.solvers k d))
    × ((d : Parts) → get_or l.solvers 0 d ≡ get_or l.fn.solvers 0 d)
