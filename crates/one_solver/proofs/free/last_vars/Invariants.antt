use Rattle.std.proofs.Common.{◌≡◌, take}
use Rattle.one_solver.specs.Roots.{last_vars}
use Rattle.one_solver.proofs.free.last_vars.Given as goal

abbrev pub invariant-loop-lit : goal.invariant-loop-lit
invariant-loop-lit l = l.last.items ≡ last_vars l.state (take l.lit-index l.lits)
