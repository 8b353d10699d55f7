use Rattle.std.proofs.Common.{◌≡◌, true, All, take}
use Rattle.race.proofs.choice.is_refuted.Given as goal

abbrev pub invariant-solvers : goal.invariant-solvers
invariant-solvers l = All (λ s. s.kernel.okay ≡ true) (take l.solver-index l.solvers)
