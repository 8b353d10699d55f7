use Rattle.std.proofs.Common.{◌≡◌, suc, map, take}
use Rattle.dimacs_text.specs.Commands.{greatest}
use Rattle.sat_run.proofs.carry.reach_of_vars.Given as goal

abbrev pub invariant-loop-var : goal.invariant-loop-var
invariant-loop-var l = l.reach ≡ greatest (map (λ x. suc x.0) (take l.var-index l.vars))
