use Rattle.std.proofs.Common.{◌<◌, length, sym, subst}
use Rattle.race.specs.Answers.{RacesRight}
use Rattle.race.proofs.Deciding.{decided}
use Rattle.race.proofs.contest.race.Goals as goal
use Rattle.race.proofs.contest.race.Goals.{After-choose}
use Rattle.race.proofs.contest.race.Given.{Over}

right : (g : Over) (c : After-choose g) → RacesRight c.args.formula.now.problem c.args.assumptions.now c.args.limit
    (g.A.Alarm.raises c.args.alarm.now) (g.A.Alarm.raises c.compete-outcome.new.alarm) c.settle-stay.new.solvers c.choose.result
right g c = c.choose.ensures.right (g.A.Alarm.raises c.args.alarm.now) (g.A.Alarm.raises c.compete-outcome.new.alarm) c.compete-outcome.ensures.outcome

pub returns-clause-right : goal.returns-clause-right
returns-clause-right g c = right g (goal.at.returns-clause-right g c).After-choose

pub returns-clause-decides : goal.returns-clause-decides
returns-clause-decides g c many calm =
    let xs = c.settle-stay.new.solvers in
    let some : 0 < length xs = subst (λ n. 0 < n) (sym c.settle-stay.auto.solvers) (subst (λ n. 0 < n) (sym c.compete-outcome.auto.solvers) c.requires.some) in
    decided c.args.formula.now.problem c.args.assumptions.now c.args.limit (g.A.Alarm.raises c.args.alarm.now) (g.A.Alarm.raises c.compete-outcome.new.alarm) xs c.choose.result some
    (right g (goal.at.returns-clause-decides g c).After-choose) many calm
