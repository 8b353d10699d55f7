use Rattle.std.proofs.Common.{take}
use Rattle.state_laws.specs.Held.{Adds}
use Rattle.removed_vars.specs.Fresh.{in_clauses}
use Rattle.removed_vars.proofs.changes.add_some.Given as goal

abbrev pub invariant-each : goal.invariant-each
invariant-each l = Adds l.initial.store l.store l.ids.items (in_clauses (take l.clause-index l.fresh))
