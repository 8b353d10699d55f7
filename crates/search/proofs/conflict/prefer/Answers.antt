use Rattle.std.proofs.Common.{ap, ◌∙◌}
use Rattle.pick_order.specs.Orders.{Order, is_passed}
use Rattle.search.specs.Ordering.{is_ordered}
use Rattle.search.proofs.conflict.prefer.Goals as goal

pub returns-clause-same : goal.returns-clause-same
returns-clause-same c v = ap (λ (o : Order). is_ordered o.known v) c.grow_increment.ensures ∙ c.bump_all.ensures.same v

pub returns-clause-passed : goal.returns-clause-passed
returns-clause-passed c v = ap (λ (o : Order). is_passed o v) c.grow_increment.ensures ∙ c.bump_all.ensures.passed v
