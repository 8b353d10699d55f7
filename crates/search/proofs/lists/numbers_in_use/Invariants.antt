use Rattle.std.proofs.Common.{◌≡◌, map, take}
use Rattle.search.specs.InUse.{owned_from}
use Rattle.search.proofs.lists.numbers_in_use.Given as goal

abbrev pub invariant-loop-number : goal.invariant-loop-number
invariant-loop-number l = map (λ inner. inner.0) l.numbers ≡ owned_from 0 (take l.number l.maps.owners)
