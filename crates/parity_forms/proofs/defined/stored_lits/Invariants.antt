use Rattle.std.proofs.Common.{◌≡◌, map, take}
use Rattle.parity_forms.specs.InMaps.{stored_lit}
use Rattle.parity_forms.proofs.defined.stored_lits.Given as goal

abbrev pub invariant-loop-lit : goal.invariant-loop-lit
invariant-loop-lit l = l.stored ≡ map (stored_lit l.maps) (take l.lit-index l.lits)
