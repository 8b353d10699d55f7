use Rattle.std.proofs.Common.{take}
use Rattle.state_laws.specs.Resolution.{joins}
use Rattle.removed_vars.specs.Fresh.{Stores}
use Rattle.private_state.proofs.resolve.join_all.Given as goal

abbrev pub invariant-each : goal.invariant-each
invariant-each l = Stores l.maps l.fresh.items (joins (take l.left-index l.lefts) l.rights)
