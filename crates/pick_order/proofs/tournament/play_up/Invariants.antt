use Rattle.std.proofs.Common.{◌≡◌, ◌+◌, ◌<◌, ◌≤◌, drop}
use Rattle.pick_order.specs.Tournaments.{IsPlayedBut}
use Rattle.pick_order.proofs.tournament.play_up.Given as goal

abbrev pub invariant-up : goal.invariant-up
invariant-up l = record {
  from : 1 ≤ l.place;
  within : l.place < l.count + l.count;
  others : IsPlayedBut l.places l.count l.place;
  same : drop l.count l.places ≡ drop l.count l.initial.places;
}

abbrev pub decreases-up : goal.decreases-up
decreases-up l = l.place
