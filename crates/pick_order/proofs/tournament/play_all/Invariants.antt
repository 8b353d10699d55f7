use Rattle.std.proofs.Common.{◌≡◌, ℕ, ◌<◌, ◌≤◌}
use Rattle.pick_order.specs.Tournaments.{IsPlayedAt, entrant}
use Rattle.pick_order.proofs.tournament.play_all.Given as goal

abbrev pub invariant-down : goal.invariant-down
invariant-down l = record {
  within : l.place ≤ l.count;
  played : (k : ℕ) → l.place ≤ k → k < l.count → IsPlayedAt l.places k;
  same : (k : ℕ) → l.count ≤ k → entrant l.places k ≡ entrant l.initial.places k;
}

abbrev pub decreases-down : goal.decreases-down
decreases-down l = l.place
