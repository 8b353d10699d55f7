use Rattle.std.proofs.Common.{◌≡◌, ◌-◌, true, length, map, IfSome}
use Rattle.clause_store.specs.Store.{before, is_live}
use Rattle.propagate.specs.Watching.{taken_as}
use Rattle.propagate.proofs.watches.take_all_over.Given as goal

abbrev pub invariant-walk : goal.invariant-walk
invariant-walk l = IfSome l.next (λ id. is_live l.store.held id.0 ≡ true) × (l.taken.items ≡ map taken_as (before l.store.held l.next))

abbrev pub decreases-walk : goal.decreases-walk
decreases-walk l = length l.store.held - length (before l.store.held l.next)
