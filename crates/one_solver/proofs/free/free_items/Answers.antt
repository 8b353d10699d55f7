use Rattle.one_solver.specs.Roots.{all_lits}
use Rattle.std.proofs.Common.{◌∙◌}
use Rattle.std.proofs.lemmas.Result.{on_ok_weaker}
use Rattle.one_solver.specs.Settled.{CameBack}
use Rattle.one_solver.proofs.Freeing.{back_free, came_back}
use Rattle.one_solver.proofs.Taking.{basic_same}
use Rattle.one_solver.proofs.free.free_items.Goals as goal
use Rattle.one_solver.proofs.free.free_items.Goals.{After-restore}

back : (c : After-restore) → CameBack c.args.state.now c.restore.new.state
back c = came_back c.args.state.now c.restore.new.state c.deref.result.now c.restore.ensures.moves

pub returns-clause-basic : goal.returns-clause-basic
returns-clause-basic c = let d = (goal.at.returns-clause-basic c).After-restore in basic_same c.args.state.now c.restore.new.state c.requires.basic (back d).same

pub returns-clause-back : goal.returns-clause-back
returns-clause-back c = back ((goal.at.returns-clause-back c).After-restore)

pub returns-clause-free : goal.returns-clause-free
returns-clause-free c =
    let d = (goal.at.returns-clause-free c).After-restore in
    on_ok_weaker c.restore.result (λ h. back_free c.args.state.now c.restore.new.state (all_lits c.args.items.now) c.deref.result.now (c.deref.ensures.value ∙ c.in_ok-lost.ensures) (back d).same.definitions h) c.restore.ensures.free
