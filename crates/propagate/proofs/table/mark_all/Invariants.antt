use Rattle.std.proofs.Common.{◌≡◌, vec_capacity}
use Rattle.propagate.proofs.Keeping.{AtMark}
use Rattle.propagate.proofs.table.mark_all.Given as goal

abbrev pub invariant-loop-place : goal.invariant-loop-place
invariant-loop-place l = AtMark l.lits l.done.items l.fn.starts.items l.starts.items l.place l.walked × (vec_capacity l.done ≡ vec_capacity l.fn.done) × (vec_capacity l.starts ≡ vec_capacity l.fn.starts)
