use Rattle.std.proofs.Common.{[]}
use Rattle.indexed_store.proofs.Rooms.{Changing}
use Rattle.indexed_store.proofs.lists.clear_each.Given as goal

abbrev pub invariant-each : goal.invariant-each
invariant-each l = Changing (λ ids. []) l.initial.list-items l.list-items l.list-index
