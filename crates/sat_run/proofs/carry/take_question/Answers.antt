use Rattle.std.proofs.Common.{[], ◌∷◌, ap, refl, arith}
use Rattle.std.proofs.lemmas.Result.{err_from_is_err_and}
use Rattle.sat_lits.specs.Meaning.{Problem}
use Rattle.sat_lits.specs.declared.literal.Lit.{Lit}
use Rattle.dimacs_text.specs.declared.command.Command.TheVariants.{Solve}
use Rattle.sat_api.specs.State.{SolverState}
use Rattle.sat_run.specs.Questions.{questions_from}
use Rattle.sat_run.specs.World.{world}
use Rattle.sat_run.proofs.Room.{greatest_knows}
use Rattle.sat_run.proofs.Made.{grown, carries_question, stops_question, named_halt}
use Rattle.sat_run.proofs.carry.take_question.Goals as goal

pub answer-requires-clause-known : goal.answer-requires-clause-known
answer-requires-clause-known g c κs within =
    greatest_knows (λ (l : Lit). l.var.0) c.make_room.new.solver.problem.vars c.args.assumptions.now (omega (arith, ap (λ (f : Problem). f.vars) c.make_room.ensures.vars, c.reach_of_lits.ensures))

pub returns-clause-ok : goal.returns-clause-ok
returns-clause-ok g c =
    let made = λ (solver : SolverState). world c.args.shares solver (g.A.Alarm.raises c.args.alarm.now) (g.K.Sink.written c.args.sink.now) (g.K.Sink.faults c.args.sink.now) in
    let now = world c.args.shares c.answer.new.solver (g.A.Alarm.raises c.answer.new.alarm) (g.K.Sink.written c.answer.new.sink) (g.K.Sink.faults c.answer.new.sink) in
    let named = c.args.assumptions.now in
    carries_question named c.in_ok-answer.field-0 (made c.args.solver.now) (made c.make_room.new.solver) now
    (grown c.args.solver.now.problem c.make_room.new.solver.problem (Solve named) c.reach_of_lits.result refl c.reach_of_lits.ensures c.make_room.ensures.vars)
    c.make_room.ensures.kept refl refl refl c.in_ok-answer.ensures.ok

pub returns-in_err-answer-clause-err : goal.returns-in_err-answer-clause-err
returns-in_err-answer-clause-err g c =
    let p = err_from_is_err_and c.from_residual.result c.from_residual.ensures.1 in
    let made = λ (solver : SolverState). world c.args.shares solver (g.A.Alarm.raises c.args.alarm.now) (g.K.Sink.written c.args.sink.now) (g.K.Sink.faults c.args.sink.now) in
    let now = world c.args.shares c.answer.new.solver (g.A.Alarm.raises c.answer.new.alarm) (g.K.Sink.written c.answer.new.sink) (g.K.Sink.faults c.answer.new.sink) in
    let named = c.args.assumptions.now in
    let halt = c.in_err-answer.field-0.0 in
    rw p.1 (named_halt p.0 halt (questions_from c.args.solver.now.problem (Solve named ∷ [])) (made c.args.solver.now) now p.2
    (stops_question halt named (made c.args.solver.now) (made c.make_room.new.solver) now
    (grown c.args.solver.now.problem c.make_room.new.solver.problem (Solve named) c.reach_of_lits.result refl c.reach_of_lits.ensures c.make_room.ensures.vars)
    c.make_room.ensures.kept refl refl refl c.in_err-answer.ensures.err))
