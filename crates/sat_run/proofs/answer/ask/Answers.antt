use Rattle.std.proofs.Common.{◌≡◌, map}
use Rattle.sat_api.specs.declared.error.ApiError.TheVariants.{Memory}
use Rattle.sat_run.proofs.Refusals.{only_memory_asked}
use Rattle.sat_run.proofs.answer.ask.Goals as goal
use Rattle.sat_run.proofs.answer.ask.Goals.{in-Memory, in_default}

pub prove-unreachable-requires : goal.prove-unreachable-requires
prove-unreachable-requires g c =
    let memory : c.in-Err.error ≡ Memory =
    only_memory_asked c.in-Err.error c.solve.result c.args.solver.now.problem.vars (map (λ l. l.var.0) c.args.assumptions.now) c.in-Err.is c.requires.known c.solve.ensures.no_such_var c.in-Err.ensures.only in
    elim c.match-matches.branch [ in-Memory w ↦ cc | in_default w ↦ w.in_default.not-Memory memory ]
