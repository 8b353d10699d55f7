use Rattle.std.proofs.Common.{sym, subst}
use Rattle.sat_lits.specs.Meaning.{Problem}
use Rattle.sat_lits.specs.Logs.{IsLegalLog}
use Rattle.one_solver.specs.InStep.{in_step_follows}
use Rattle.exchange_tour.proofs.exchange.ask.Goals as goal

pub step-answer-requires-clause-entries : goal.step-answer-requires-clause-entries
step-answer-requires-clause-entries g c =
    in_step_follows c.begin_call.new.self c.args.store.now (subst (λ (f : Problem). IsLegalLog f c.args.store.now) (sym c.begin_call.ensures.problem) c.requires.legal) (c.begin_call.ensures.in_step c.args.store.now c.requires.in_step)
