use Rattle.std.proofs.Common.{◌≡◌, true, take, length, nat_le}
use Rattle.std.specs.List.{list_all}
use Rattle.private_state.proofs.bound.are_short.Given as goal

abbrev pub invariant-each : goal.invariant-each
invariant-each l = list_all (λ clause. nat_le (length clause.lits) 32) (take l.clause-index l.fresh) ≡ true
