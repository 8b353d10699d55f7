use Rattle.std.proofs.Common.{◌-◌}
use Rattle.propagate.proofs.Passing.{AtPlace}
use Rattle.propagate.proofs.table.Table.pass.Given as goal

abbrev pub invariant-literals : goal.invariant-literals
invariant-literals l = AtPlace l.store.held l.taken l.fn.trail l.trail l.fn.self l.self l.at l.missed

abbrev pub decreases-literals : goal.decreases-literals
decreases-literals l = l.trail.reserved - l.at
