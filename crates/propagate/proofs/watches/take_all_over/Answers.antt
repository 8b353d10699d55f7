use Rattle.std.proofs.Common.{◌∙◌, ap, map}
use Rattle.propagate.specs.Watching.{taken_as}
use Rattle.clause_store.specs.Laws.{shorter}
use Rattle.propagate.proofs.Walking.{walk_end}
use Rattle.propagate.proofs.watches.take_all_over.Goals as goal

pub walk-smaller : goal.walk-smaller
walk-smaller c =
    shorter c.args.store.now.held c.walk.next c.in-Some.id c.after-next.result c.in-Some.is (rw c.in-Some.is at c.walk.invariant.0) c.after-next.ensures.step

pub returns : goal.returns
returns c = c.walk.invariant.1 ∙ ap (map taken_as) (walk_end c.args.store.now.held c.walk.next c.in_default.is)
