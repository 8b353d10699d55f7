use Rattle.std.proofs.Common.{ap, arith}
use Rattle.sat_lits.specs.Meaning.{Problem}
use Rattle.sat_lits.specs.declared.literal.Lit.{Lit}
use Rattle.sat_run.proofs.Room.{greatest_knows}
use Rattle.sat_run.proofs.carry.take_clause.Goals as goal

pub add_clause-requires-clause-known : goal.add_clause-requires-clause-known
add_clause-requires-clause-known c =
    greatest_knows (λ (l : Lit). l.var.0) c.make_room.new.solver.problem.vars c.args.lits.now (omega (arith, ap (λ (f : Problem). f.vars) c.make_room.ensures.vars, c.reach_of_lits.ensures))
