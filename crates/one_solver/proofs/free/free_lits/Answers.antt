use Rattle.std.proofs.Common.{◌++◌, List, ap, ◌∙◌}
use Rattle.std.proofs.lemmas.Result.{on_ok_weaker}
use Rattle.sat_lits.specs.declared.literal.Own.{Own}
use Rattle.state_laws.specs.State.{outer_count}
use Rattle.one_solver.specs.Roots.{lost_vars}
use Rattle.one_solver.specs.Settled.{CameBack}
use Rattle.one_solver.proofs.Freeing.{back_free, came_back, lits_there}
use Rattle.one_solver.proofs.Taking.{basic_same}
use Rattle.one_solver.proofs.free.free_lits.Goals as goal
use Rattle.one_solver.proofs.free.free_lits.Goals.{After-restore}

pub note_lits-requires : goal.note_lits-requires
note_lits-requires c = lits_there (outer_count c.args.state.now.definitions) c.args.lits.now c.requires.known

back : (c : After-restore) → CameBack c.args.state.now c.restore.new.state
back c = came_back c.args.state.now c.restore.new.state c.deref.result.now c.restore.ensures.moves

pub returns-clause-basic : goal.returns-clause-basic
returns-clause-basic c = let d = (goal.at.returns-clause-basic c).After-restore in basic_same c.args.state.now c.restore.new.state c.requires.basic (back d).same

pub returns-clause-back : goal.returns-clause-back
returns-clause-back c = back ((goal.at.returns-clause-back c).After-restore)

pub returns-clause-free : goal.returns-clause-free
returns-clause-free c =
    let d = (goal.at.returns-clause-free c).After-restore in
    on_ok_weaker c.restore.result (λ h. back_free c.args.state.now c.restore.new.state (c.args.lits.now) c.deref.result.now (c.deref.ensures.value ∙ (c.in_ok-note_lits.ensures ∙ ap (λ (z : List Own). z ++ lost_vars c.args.state.now c.args.lits.now) c.new-lost.ensures.items)) (back d).same.definitions h) c.restore.ensures.free
