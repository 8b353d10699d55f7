use Rattle.state_laws.specs.Kernel.{state_of}
use Rattle.sync_laws.specs.Met.{KeepsMet}
use Rattle.sync_laws.specs.KeepLaws.{keeps_trans}
use Rattle.one_solver.proofs.Freeing.{free_along}
use Rattle.one_solver.proofs.Eliminating.{OnlyDropped, dropped_left}
use Rattle.one_solver.proofs.Settling.{dropped_free}
use Rattle.one_solver.proofs.settle.settle.Goals as goal
use Rattle.one_solver.proofs.settle.settle.Goals.{After-fix_units, After-drop_subsumed}

dropped : (c : After-drop_subsumed) → OnlyDropped c.fix_units.new.state c.drop_subsumed.new.state
dropped c = let (n, d) = c.drop_subsumed.ensures.some in record { count = n; dropped = d; same = c.drop_subsumed.ensures.same }

pub repeat_rounds-requires-clause-free : goal.repeat_rounds-requires-clause-free
repeat_rounds-requires-clause-free c =
    let d = (goal.at.repeat_rounds-requires-clause-free c).After-drop_subsumed in
    dropped_free c.fix_units.new.state c.drop_subsumed.new.state c.args.assumptions.now (dropped d)
    (free_along c.free_lits.new.state c.fix_units.new.state c.args.assumptions.now c.fix_units.ensures.pushed c.in_ok-free_lits.ensures.free)

pub repeat_rounds-requires-clause-left : goal.repeat_rounds-requires-clause-left
repeat_rounds-requires-clause-left c =
    let d = (goal.at.repeat_rounds-requires-clause-left c).After-drop_subsumed in
    dropped_left c.fix_units.new.state c.drop_subsumed.new.state (dropped d) c.in_ok-fix_units.ensures.left

-- what is met stays so from step to step
fixed_met : (c : After-fix_units) → KeepsMet (state_of c.args.state.now) (state_of c.fix_units.new.state)
fixed_met c = keeps_trans (state_of c.args.state.now) (state_of c.free_lits.new.state) (state_of c.fix_units.new.state) c.free_lits.ensures.met c.fix_units.ensures.met

dropped_met : (c : After-drop_subsumed) → KeepsMet (state_of c.args.state.now) (state_of c.drop_subsumed.new.state)
dropped_met c =
    keeps_trans (state_of c.args.state.now) (state_of c.fix_units.new.state) (state_of c.drop_subsumed.new.state)
    (keeps_trans (state_of c.args.state.now) (state_of c.free_lits.new.state) (state_of c.fix_units.new.state) c.free_lits.ensures.met c.fix_units.ensures.met) c.drop_subsumed.ensures.met

pub returns-in_err-fix_units-clause-met : goal.returns-in_err-fix_units-clause-met
returns-in_err-fix_units-clause-met c = fixed_met ((goal.at.returns-in_err-fix_units-clause-met c).After-fix_units)

pub returns-in_err-drop_subsumed-clause-met : goal.returns-in_err-drop_subsumed-clause-met
returns-in_err-drop_subsumed-clause-met c = dropped_met ((goal.at.returns-in_err-drop_subsumed-clause-met c).After-drop_subsumed)

pub returns-clause-met : goal.returns-clause-met
returns-clause-met c =
    let d = (goal.at.returns-clause-met c).After-drop_subsumed in
    keeps_trans (state_of c.args.state.now) (state_of c.drop_subsumed.new.state) (state_of c.repeat_rounds.new.state) (dropped_met d) c.repeat_rounds.ensures.met
