use Rattle.std.proofs.Common.{◌≡◌, take}
use Rattle.state_laws.specs.Resolution.{rests}
use Rattle.private_state.proofs.resolve.rests.Given as goal

abbrev pub invariant-each : goal.invariant-each
invariant-each l = l.lists.items ≡ rests l.var.0 l.value (take l.at l.block)
