use Rattle.clause_store.proofs.Closing.{AtClose}
use Rattle.clause_store.proofs.store.close_up.Given as goal

abbrev pub invariant-loop-place : goal.invariant-loop-place
invariant-loop-place l = AtClose l.fn.words l.words l.end l.place l.stays l.mark l.closed_mark
