use Rattle.std.proofs.Common.{arith}
use Rattle.one_solver.proofs.Keeping.{forgetting_first, next_learned, next_dropped, newest_left}
use Rattle.one_solver.proofs.learned.drop_old.Goals as goal

pub loop-id-init : goal.loop-id-init
loop-id-init c = forgetting_first c.args.state.now c.requires.kept

pub drop_learned-requires : goal.drop_learned-requires
drop_learned-requires c = next_learned c.args.state.now c.loop-id.state c.args.ids.now c.saturating_sub-old.result c.loop-id.id-index c.requires.ids c.loop-id.invariant c.loop-id-test.true

pub loop-id-preserved : goal.loop-id-preserved
loop-id-preserved c =
    next_dropped c.args.state.now c.loop-id.state c.drop_learned.new.self c.args.ids.now c.saturating_sub-old.result c.loop-id.id-index c.requires.ids c.loop-id.invariant c.loop-id-test.true c.drop_learned.ensures

pub returns-clause-forgotten : goal.returns-clause-forgotten
returns-clause-forgotten c = c.loop-id.invariant.forgotten

pub returns-clause-newest : goal.returns-clause-newest
returns-clause-newest c = newest_left c.args.state.now c.loop-id.state c.args.ids.now c.args.keep c.saturating_sub-old.result c.loop-id.id-index c.requires.ids c.loop-id.invariant (omega arith) (omega arith)
