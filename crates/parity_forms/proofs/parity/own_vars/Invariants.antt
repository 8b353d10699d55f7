use Rattle.std.proofs.Common.{◌≡◌, map, take}
use Rattle.xor_cut.specs.Pieces.{own_var}
use Rattle.parity_forms.proofs.parity.own_vars.Given as goal

abbrev pub invariant-loop-number : goal.invariant-loop-number
invariant-loop-number l = l.vars ≡ map own_var (take l.number-index l.numbers)
