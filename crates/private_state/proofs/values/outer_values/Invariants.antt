use Rattle.std.proofs.Common.{◌≡◌, take, map}
use Rattle.rebuild_stack.specs.Values.{values_of}
use Rattle.private_state.proofs.values.outer_values.Given as goal

abbrev pub invariant-loop-var : goal.invariant-loop-var
invariant-loop-var l = l.outer ≡ map (λ v. values_of l.own v.0) (take l.var l.maps.outers)
