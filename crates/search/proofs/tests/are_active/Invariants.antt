use Rattle.std.proofs.Common.{◌≡◌, take, true}
use Rattle.search.specs.InUse.{in_use, lits_among}
use Rattle.search.proofs.tests.are_active.Given as goal

abbrev pub invariant-loop-lit : goal.invariant-loop-lit
invariant-loop-lit l = lits_among (in_use l.state.maps) (take l.lit-index l.lits) ≡ true
