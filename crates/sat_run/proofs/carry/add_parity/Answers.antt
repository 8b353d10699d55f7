use Rattle.std.proofs.Common.{◌≡◌, ◌+◌, length, map}
use Rattle.sat_lits.specs.Formulas.{lit_count}
use Rattle.sat_api.specs.declared.error.ApiError.TheVariants.{Memory}
use Rattle.sat_run.proofs.Refusals.{only_memory}
use Rattle.sat_run.proofs.carry.add_parity.Goals as goal
use Rattle.sat_run.proofs.carry.add_parity.Goals.{in-Memory, in_default}

pub prove-unreachable-requires : goal.prove-unreachable-requires
prove-unreachable-requires c =
    let memory : c.in-Err.error ≡ Memory =
    only_memory c.in-Err.error c.add_xor_clause.result c.args.solver.now.problem.vars (lit_count c.args.solver.now.problem.items + length c.args.vars.now) c.args.solver.now.limits.lits
    (map (λ v. v.0) c.args.vars.now) c.in-Err.is c.requires.known c.requires.few c.add_xor_clause.ensures.no_such_var c.add_xor_clause.ensures.too_many_lits c.in-Err.ensures.only in
    elim c.match-matches.branch [ in-Memory w ↦ cc | in_default w ↦ w.in_default.not-Memory memory ]
