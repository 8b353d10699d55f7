use Rattle.state_laws.specs.Kernel.{state_of}
use Rattle.sync_laws.specs.Met.{KeepsMet}
use Rattle.sync_laws.specs.KeepLaws.{keeps_trans}
use Rattle.one_solver.proofs.Freeing.{free_along}
use Rattle.one_solver.proofs.Settling.{replaced_pushed, pushed_stays, stay_both}
use Rattle.one_solver.proofs.settle.make_round.Goals as goal
use Rattle.one_solver.proofs.settle.make_round.Goals.{After-eliminate_others, After-fix_units}

pub returns-in_err-replaced-clause-stays : goal.returns-in_err-replaced-clause-stays
returns-in_err-replaced-clause-stays c =
    pushed_stays c.args.state.now c.replace_equivalent.new.state (replaced_pushed c.args.state.now c.replace_equivalent.new.state c.replace_equivalent.ensures.taken c.replace_equivalent.ensures.pushed)

pub eliminate_others-requires-clause-free : goal.eliminate_others-requires-clause-free
eliminate_others-requires-clause-free c =
    free_along c.args.state.now c.replace_equivalent.new.state c.args.assumptions.now
    (replaced_pushed c.args.state.now c.replace_equivalent.new.state c.replace_equivalent.ensures.taken c.replace_equivalent.ensures.pushed) c.requires.free

pub returns-in_err-eliminated-clause-stays : goal.returns-in_err-eliminated-clause-stays
returns-in_err-eliminated-clause-stays c =
    stay_both c.args.state.now c.replace_equivalent.new.state c.eliminate_others.new.state
    (pushed_stays c.args.state.now c.replace_equivalent.new.state (replaced_pushed c.args.state.now c.replace_equivalent.new.state c.replace_equivalent.ensures.taken c.replace_equivalent.ensures.pushed))
    c.eliminate_others.ensures.stays

pub returns-in_err-fix_units-clause-stays : goal.returns-in_err-fix_units-clause-stays
returns-in_err-fix_units-clause-stays c =
    stay_both c.args.state.now c.eliminate_others.new.state c.fix_units.new.state
    (stay_both c.args.state.now c.replace_equivalent.new.state c.eliminate_others.new.state
    (pushed_stays c.args.state.now c.replace_equivalent.new.state (replaced_pushed c.args.state.now c.replace_equivalent.new.state c.replace_equivalent.ensures.taken c.replace_equivalent.ensures.pushed))
    c.eliminate_others.ensures.stays) (pushed_stays c.eliminate_others.new.state c.fix_units.new.state c.fix_units.ensures.pushed)

pub returns-clause-stays : goal.returns-clause-stays
returns-clause-stays c =
    stay_both c.args.state.now c.eliminate_others.new.state c.fix_units.new.state
    (stay_both c.args.state.now c.replace_equivalent.new.state c.eliminate_others.new.state
    (pushed_stays c.args.state.now c.replace_equivalent.new.state (replaced_pushed c.args.state.now c.replace_equivalent.new.state c.replace_equivalent.ensures.taken c.replace_equivalent.ensures.pushed))
    c.eliminate_others.ensures.stays) (pushed_stays c.eliminate_others.new.state c.fix_units.new.state c.fix_units.ensures.pushed)

pub returns-clause-free : goal.returns-clause-free
returns-clause-free c = free_along c.eliminate_others.new.state c.fix_units.new.state c.args.assumptions.now c.fix_units.ensures.pushed c.eliminate_others.ensures.free

-- what is met stays so from step to step
eliminated_met : (c : After-eliminate_others) → KeepsMet (state_of c.args.state.now) (state_of c.eliminate_others.new.state)
eliminated_met c = keeps_trans (state_of c.args.state.now) (state_of c.replace_equivalent.new.state) (state_of c.eliminate_others.new.state) c.replace_equivalent.ensures.kept c.eliminate_others.ensures.met

fixed_met : (c : After-fix_units) → KeepsMet (state_of c.args.state.now) (state_of c.fix_units.new.state)
fixed_met c =
    keeps_trans (state_of c.args.state.now) (state_of c.eliminate_others.new.state) (state_of c.fix_units.new.state)
    (keeps_trans (state_of c.args.state.now) (state_of c.replace_equivalent.new.state) (state_of c.eliminate_others.new.state) c.replace_equivalent.ensures.kept c.eliminate_others.ensures.met) c.fix_units.ensures.met

pub returns-in_err-eliminated-clause-met : goal.returns-in_err-eliminated-clause-met
returns-in_err-eliminated-clause-met c = eliminated_met ((goal.at.returns-in_err-eliminated-clause-met c).After-eliminate_others)

pub returns-in_err-fix_units-clause-met : goal.returns-in_err-fix_units-clause-met
returns-in_err-fix_units-clause-met c = fixed_met ((goal.at.returns-in_err-fix_units-clause-met c).After-fix_units)

pub returns-clause-met : goal.returns-clause-met
returns-clause-met c = fixed_met ((goal.at.returns-clause-met c).After-fix_units)
