use Rattle.std.proofs.Common.{subst}
use Rattle.race.specs.Answers.{Finished}
use Rattle.race.proofs.Deciding.{all_spent}
use Rattle.race.proofs.choice.choose.Goals as goal

pub returns-in-Ok-clause-right : goal.returns-in-Ok-clause-right
returns-in-Ok-clause-right g c before now told =
    let t = c.args.task.now in
    let f = t.formula.now.problem in
    all_spent t.limit f c.args.solvers.now c.in-Ok.counts c.in-Ok.ensures (subst (Finished f t.assumptions.now t.limit c.args.solvers.now c.args.outcome) c.in-None-Spent.is-1 c.requires.finished)
