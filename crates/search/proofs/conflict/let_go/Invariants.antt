use Rattle.search.specs.Ordering.{HasSame}
use Rattle.search.proofs.Passing.{IsLeft}
use Rattle.search.proofs.conflict.let_go.Given as goal

abbrev pub invariant-loop-place : goal.invariant-loop-place
invariant-loop-place l = record {
  same : HasSame l.fn.order.known l.order.known;
  left : IsLeft l.order l.trail.steps l.level l.place;
}
