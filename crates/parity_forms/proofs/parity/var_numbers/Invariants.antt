use Rattle.std.proofs.Common.{◌≡◌, map, take}
use Rattle.parity_forms.proofs.parity.var_numbers.Given as goal

abbrev pub invariant-loop-var : goal.invariant-loop-var
invariant-loop-var l = l.numbers ≡ map (λ v. v.0) (take l.var-index l.vars)
