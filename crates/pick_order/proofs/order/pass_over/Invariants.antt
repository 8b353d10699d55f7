use Rattle.std.specs.Option.{is_some}
use Rattle.std.specs.List.{count_by}
use Rattle.pick_order.specs.Queues.{IsPlaced, HasLostSet}
use Rattle.pick_order.proofs.order.pass_over.Given as goal

abbrev pub invariant-first : goal.invariant-first
invariant-first l = record {
  placed : IsPlaced l.tournament;
  lost : HasLostSet l.trail.steps l.initial.tournament l.tournament;
}

abbrev pub decreases-first : goal.decreases-first
decreases-first l = count_by is_some l.tournament
