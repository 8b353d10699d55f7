use Rattle.std.proofs.Common.{◌≡◌, ◌+◌, ℕ, ◌<◌, length}
use Rattle.pick_order.specs.Tournaments.{entrant}
use Rattle.pick_order.specs.Preferences.{candidate_in}
use Rattle.pick_order.proofs.tournament.enter_all.Given as goal

abbrev pub invariant-loop-v : goal.invariant-loop-v
invariant-loop-v l = (j : ℕ) → j < l.v → entrant l.places (length l.preferences + j) ≡ candidate_in l.preferences j
