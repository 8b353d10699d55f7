use Rattle.std.proofs.Common.{◌≡◌, take}
use Rattle.state_laws.specs.Held.{own_clause}
use Rattle.removed_vars.proofs.literals.in_lits.Given as goal

abbrev pub invariant-loop-lit : goal.invariant-loop-lit
invariant-loop-lit l = own_clause l.maps l.stored ≡ take l.lit-index l.lits
