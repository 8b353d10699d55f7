use Rattle.std.proofs.Common.{take}
use Rattle.removed_vars.specs.Fresh.{Stores}
use Rattle.removed_vars.proofs.restoring.hard_fresh.Given as goal

abbrev pub invariant-each : goal.invariant-each
invariant-each l = Stores l.maps l.fresh.items (take l.clause-index l.clauses)
