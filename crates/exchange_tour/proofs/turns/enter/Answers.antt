use Rattle.exchange_tour.proofs.Pairing.{begins}
use Rattle.exchange_tour.proofs.turns.enter.Goals as goal

pub absorb-requires : goal.absorb-requires
absorb-requires c = record { front = begins c.args.solver.now c.args.formula.now.problem c.requires }
