use Rattle.std.proofs.Common.{◌∙◌}
use Rattle.race.proofs.Homing.{new_is_settled}
use Rattle.race.proofs.rounds.attend.Goals as goal

pub returns-in-Err-clause-settled : goal.returns-in-Err-clause-settled
returns-in-Err-clause-settled g c =
    let n = c.new.ensures in
    new_is_settled c.args.task.now.limit c.args.task.now.formula.now.problem c.catch_up.new.store c.args.solver.now.number c.new.result (n.number ∙ (c.number.ensures ∙ c.catch_up.ensures.same.number))
    (record { problem = n.problem; okay = n.okay; conflicts = n.conflicts; in_step = n.in_step })
