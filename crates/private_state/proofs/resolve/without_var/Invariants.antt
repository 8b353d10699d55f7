use Rattle.std.proofs.Common.{◌≡◌, take}
use Rattle.state_laws.specs.Resolution.{without_var}
use Rattle.private_state.proofs.resolve.without_var.Given as goal

abbrev pub invariant-each : goal.invariant-each
invariant-each l = l.rest ≡ without_var l.var.0 (take l.lit-index l.lits)
