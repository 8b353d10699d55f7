use Rattle.std.proofs.Common.{◌≡◌, take, map}
use Rattle.state_laws.specs.Held.{inner_value}
use Rattle.private_state.proofs.values.own_values.Given as goal

abbrev pub invariant-loop-var : goal.invariant-loop-var
invariant-loop-var l = l.own.items ≡ map (inner_value l.inner) (take l.var l.maps.inners)
