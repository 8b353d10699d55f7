use Rattle.std.proofs.Common.{◌≡◌, ◌≤◌, count_by, take}
use Rattle.state_laws.specs.Resolution.{has_sign}
use Rattle.private_state.proofs.bound.count_sign.Given as goal

abbrev pub invariant-each : goal.invariant-each
invariant-each l =
    record {
      counted : l.count ≡ count_by (has_sign l.var.0 l.negative) (take l.at l.block);
      below : l.count ≤ l.at;
    }
