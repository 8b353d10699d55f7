use Rattle.std.proofs.Common.{ap, arith}
use Rattle.sat_lits.specs.Meaning.{Problem}
use Rattle.sat_lits.specs.declared.literal.Var.{Var}
use Rattle.sat_run.proofs.Room.{greatest_knows}
use Rattle.sat_run.proofs.carry.take_parity.Goals as goal

pub add_parity-requires-clause-known : goal.add_parity-requires-clause-known
add_parity-requires-clause-known c =
    greatest_knows (λ (v : Var). v.0) c.make_room.new.solver.problem.vars c.args.vars.now (omega (arith, ap (λ (f : Problem). f.vars) c.make_room.ensures.vars, c.reach_of_vars.ensures))
