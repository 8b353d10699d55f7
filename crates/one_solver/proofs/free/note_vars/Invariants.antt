use Rattle.std.proofs.Common.{◌≡◌, ◌++◌, take, true}
use Rattle.sat_lits.specs.declared.formula.Item.TheVariants.{Parity}
use Rattle.one_solver.specs.Roots.{lost_vars, lits_of}
use Rattle.one_solver.proofs.free.note_vars.Given as goal

abbrev pub invariant-loop-var : goal.invariant-loop-var
invariant-loop-var l = l.lost.items ≡ l.initial.lost.items ++ lost_vars l.state (lits_of (Parity (take l.var-index l.vars) true))
