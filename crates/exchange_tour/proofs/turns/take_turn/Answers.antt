use Rattle.one_solver.specs.InStep.{in_step_follows}
use Rattle.exchange_tour.proofs.turns.take_turn.Goals as goal

pub step-answer-requires-clause-entries : goal.step-answer-requires-clause-entries
step-answer-requires-clause-entries c = in_step_follows c.args.solver.now c.args.store.now c.requires.legal c.requires.in_step
