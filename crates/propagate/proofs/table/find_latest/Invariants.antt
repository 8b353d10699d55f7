use Rattle.std.proofs.Common.{◌≡◌, true, false, IfSome}
use Rattle.std.specs.List.{list_any}
use Rattle.sat_lits.specs.InLits.{same_lit}
use Rattle.propagate.proofs.table.find_latest.Given as goal

abbrev pub invariant-loop-lit : goal.invariant-loop-lit
invariant-loop-lit l = IfSome l.latest (λ lit. (list_any (same_lit lit) l.lits ≡ true) × (same_lit l.other lit ≡ false))
