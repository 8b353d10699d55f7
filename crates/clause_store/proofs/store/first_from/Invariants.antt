use Rattle.std.proofs.Common.{◌≡◌, ◌-◌, ◌≤◌, length, take}
use Rattle.clause_store.specs.Words.{held_from, places_of}
use Rattle.clause_store.proofs.store.first_from.Given as goal

abbrev pub invariant-walk : goal.invariant-walk
invariant-walk l = record {
  within : l.place ≤ length l.words;
  passed : held_from 0 (take l.place (places_of l.words)) ≡ held_from 0 (take l.start (places_of l.words));
}

abbrev pub decreases-walk : goal.decreases-walk
decreases-walk l = length l.words - l.place
