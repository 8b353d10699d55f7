use Rattle.std.proofs.Common.{◌≡◌, ◌-◌, ◌^◌, ◌<◌, ℕ, true, All, length, get_or}
use Rattle.sat_lits.specs.Logs.{IsLegalLog}
use Rattle.share_store.specs.Log.{StartsWith}
use Rattle.one_solver.specs.Parts.{Parts}
use Rattle.race.specs.Homes.{EachPlace, IsHome}
use Rattle.race.proofs.rounds.settle.Given as goal

abbrev pub invariant-rounds : goal.invariant-rounds
invariant-rounds g l =
    EachPlace (IsHome l.task.limit l.task.formula.now.problem l.store) l.solvers × IsLegalLog l.task.formula.now.problem l.store
    × All (λ e. e.solver < length l.fn.solvers) l.store × StartsWith l.store l.fn.store
    × (l.stay ≡ true → (k : ℕ) (d : Parts) → k < length l.fn.solvers → (get_or l.solvers k d).conflicts ≡ (get_or l.fn.solvers k d).conflicts)

abbrev pub decreases-rounds : goal.decreases-rounds
decreases-rounds g l = 2 ^ 64 - length l.store
