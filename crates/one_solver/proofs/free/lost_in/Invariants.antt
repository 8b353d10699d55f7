use Rattle.std.proofs.Common.{◌≡◌, take}
use Rattle.one_solver.specs.Roots.{lost_vars, all_lits}
use Rattle.one_solver.proofs.free.lost_in.Given as goal

abbrev pub invariant-loop-item : goal.invariant-loop-item
invariant-loop-item l = l.lost.items ≡ lost_vars l.state (all_lits (take l.item-index l.items))
