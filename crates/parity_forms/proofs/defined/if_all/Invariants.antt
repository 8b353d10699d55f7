use Rattle.std.proofs.Common.{◌≡◌, ◌∷◌, false, map, take}
use Rattle.parity_forms.specs.Parities.{in_lit_of}
use Rattle.parity_forms.specs.InMaps.{in_negated}
use Rattle.parity_forms.proofs.defined.if_all.Given as goal

abbrev pub invariant-loop-lit : goal.invariant-loop-lit
invariant-loop-lit l = l.clause ≡ in_lit_of l.fn.var false ∷ map in_negated (take l.lit-index l.lits)
