-- What the fields of a tournament mean, and what they keep.
use Rattle.std.specs.Prelude.{◌≡◌, ◌+◌, List, Option, length, drop}
use Rattle.pick_order.specs.declared.preference.Candidate.{Candidate}
use Rattle.pick_order.specs.declared.tournament.Tournament.TheInside.{Inside}
use Rattle.pick_order.specs.Tournaments.{IsPlayed}

-- the entrants stand last
abbrev pub entrants_of : Inside → List (Option Candidate)
entrants_of t = drop t.count t.places.items

-- each match is played
pub record IsPlayedOut (t : Inside) : Type 0 where
  pub sized : length t.places.items ≡ t.count + t.count
  pub played : IsPlayed t.places.items t.count
