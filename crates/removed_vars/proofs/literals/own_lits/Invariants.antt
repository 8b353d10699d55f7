use Rattle.std.proofs.Common.{◌≡◌, take}
use Rattle.state_laws.specs.Held.{own_clause}
use Rattle.removed_vars.proofs.literals.own_lits.Given as goal

abbrev pub invariant-loop-lit : goal.invariant-loop-lit
invariant-loop-lit l = l.own ≡ own_clause l.maps (take l.lit-index l.lits)
