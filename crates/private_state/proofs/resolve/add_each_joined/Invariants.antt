use Rattle.std.proofs.Common.{◌++◌, ◌∷◌, [], take}
use Rattle.state_laws.specs.Resolution.{joins}
use Rattle.removed_vars.specs.Fresh.{Stores}
use Rattle.private_state.specs.Resolving.{Clauses}
use Rattle.private_state.proofs.resolve.add_each_joined.Given as goal

abbrev pub invariant-each : goal.invariant-each
invariant-each l = (cs : Clauses) → Stores l.maps l.initial.to.items cs → Stores l.maps l.to.items (cs ++ joins (l.left ∷ []) (take l.right-index l.rights))
