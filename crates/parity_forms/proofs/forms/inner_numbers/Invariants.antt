use Rattle.std.proofs.Common.{◌≡◌, map, take}
use Rattle.parity_forms.specs.Parities.{number_of}
use Rattle.parity_forms.proofs.forms.inner_numbers.Given as goal

abbrev pub invariant-loop-var : goal.invariant-loop-var
invariant-loop-var l = l.numbers ≡ map (number_of l.maps) (take l.var-index l.vars)
