use Rattle.std.proofs.Common.{◌≡◌, ◌+◌, ℕ, ◌<◌, ◌≤◌, option_map}
use Rattle.pick_order.specs.Tournaments.{entrant}
use Rattle.pick_order.specs.Preferences.{rescaled_candidate}
use Rattle.pick_order.proofs.tournament.rescale_all.Given as goal

abbrev pub invariant-loop-k : goal.invariant-loop-k
invariant-loop-k l = record {
  rescaled : (j : ℕ) → j < l.k → entrant l.places (l.count + j) ≡ option_map rescaled_candidate (entrant l.initial.places (l.count + j));
  same : (j : ℕ) → l.k ≤ j → entrant l.places (l.count + j) ≡ entrant l.initial.places (l.count + j);
}
