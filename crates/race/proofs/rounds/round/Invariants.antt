use Rattle.race.specs.Homes.{InRound}
use Rattle.race.proofs.rounds.round.Given as goal

abbrev pub invariant-solvers : goal.invariant-solvers
invariant-solvers g l = InRound l.task.limit l.task.formula.now.problem l.fn.store l.fn.solvers l.place l.stay l.store l.solvers
