use Rattle.std.proofs.Common.{filter}
use Rattle.indexed_store.specs.declared.short_id.ShortId.{ShortId}
use Rattle.clause_store.specs.Store.{is_live}
use Rattle.indexed_store.proofs.Rooms.{Changing}
use Rattle.indexed_store.proofs.lists.sweep.Given as goal

abbrev pub invariant-each : goal.invariant-each
invariant-each l = Changing (filter (λ (id : ShortId). is_live l.store.held id.0)) l.initial.list-items l.list-items l.list-index
