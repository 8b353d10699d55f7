use Rattle.std.proofs.Common.{◌≡◌, suc, map, take}
use Rattle.dimacs_text.specs.Commands.{greatest}
use Rattle.sat_run.proofs.carry.reach_of_lits.Given as goal

abbrev pub invariant-loop-lit : goal.invariant-loop-lit
invariant-loop-lit l = l.reach ≡ greatest (map (λ x. suc x.var.0) (take l.lit-index l.lits))
