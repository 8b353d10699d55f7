use Rattle.one_solver.proofs.Keeping.{AtForgetting}
use Rattle.one_solver.proofs.learned.drop_old.Given as goal

abbrev pub invariant-loop-id : goal.invariant-loop-id
invariant-loop-id l = AtForgetting l.initial.state l.state l.id-index
