use Rattle.pick_order.specs.Orders.{HasSamePassed}
use Rattle.search.specs.Ordering.{HasSame}
use Rattle.search.proofs.conflict.bump_all.Given as goal

abbrev pub invariant-loop-var : goal.invariant-loop-var
invariant-loop-var l = record {
  same : HasSame l.fn.order.known l.order.known;
  passed : HasSamePassed l.fn.order l.order;
}
