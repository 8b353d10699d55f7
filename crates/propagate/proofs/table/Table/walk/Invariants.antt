use Rattle.std.proofs.Common.{◌≡◌, length}
use Rattle.propagate.specs.Watched.{code_of}
use Rattle.propagate.proofs.Spelling.{steps_from}
use Rattle.propagate.proofs.Turning.{AtEntry}
use Rattle.propagate.proofs.table.Table.walk.Given as goal

abbrev pub invariant-walk : goal.invariant-walk
invariant-walk l = AtEntry l.store.held l.taken l.fn.lit l.fn.trail l.trail l.fn.self l.self l.before l.entry l.missed × (l.key ≡ code_of l.fn.lit)

abbrev pub decreases-walk : goal.decreases-walk
decreases-walk l = steps_from l.self.next.items (length l.self.next.items) l.entry
