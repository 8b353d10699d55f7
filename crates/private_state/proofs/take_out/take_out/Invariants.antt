use Rattle.std.proofs.Common.{take}
use Rattle.indexed_store.specs.Occurrences.{clauses_at}
use Rattle.private_state.specs.Resolving.{Takes}
use Rattle.private_state.proofs.take_out.take_out.Given as goal

abbrev pub invariant-walk : goal.invariant-walk
invariant-walk l = Takes l.maps (clauses_at l.store.held (take l.id-index l.ids)) l.to
