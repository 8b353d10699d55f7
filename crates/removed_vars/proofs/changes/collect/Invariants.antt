use Rattle.std.proofs.Common.{take, [], ◌∷◌}
use Rattle.rebuild_stack.specs.Roots.{root}
use Rattle.rebuild_stack.specs.Entries.{named}
use Rattle.indexed_store.specs.Occurrences.{clauses_at}
use Rattle.removed_vars.specs.Fresh.{Collects}
use Rattle.removed_vars.proofs.changes.collect.Given as goal

abbrev pub invariant-walk : goal.invariant-walk
invariant-walk l = Collects l.maps (root (l.entry ∷ [])) (named l.entry) (clauses_at l.store.held (take l.id-index l.ids)) l.to
