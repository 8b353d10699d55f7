use Rattle.std.proofs.Common.{◌-◌, length}
use Rattle.propagate.proofs.Freshing.{AtFresh}
use Rattle.propagate.proofs.table.Table.look_fresh.Given as goal

abbrev pub invariant-look : goal.invariant-look
invariant-look l = AtFresh l.store.held l.taken l.done l.fn.trail l.trail l.fn.self l.self l.fresh.items l.at l.fn.walked l.walked

abbrev pub decreases-look : goal.decreases-look
decreases-look l = length l.fresh.items - l.at
