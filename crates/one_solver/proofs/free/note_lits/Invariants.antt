use Rattle.std.proofs.Common.{◌≡◌, ◌++◌, take}
use Rattle.one_solver.specs.Roots.{lost_vars}
use Rattle.one_solver.proofs.free.note_lits.Given as goal

abbrev pub invariant-loop-lit : goal.invariant-loop-lit
invariant-loop-lit l = l.lost.items ≡ l.initial.lost.items ++ lost_vars l.state (take l.lit-index l.lits)
