use Rattle.std.proofs.lemmas.Result.{IfOk-weaker, IfErr-weaker}
use Rattle.dimacs_text.specs.Lists.{Ended, Refused}
use Rattle.sat_run.specs.World.{world}
use Rattle.sat_run.specs.Runs.{AnswersAll, StopsRight}
use Rattle.sat_run.proofs.Pieces.{end_room, end_on, end_lost}
use Rattle.sat_run.proofs.read.take_end.Goals as goal

pub carry_out_last-requires-clause-room : goal.carry_out_last-requires-clause-room
carry_out_last-requires-clause-room g c κs within =
    let h = c.requires.carried in
    let a = world c.args.shares c.args.solver.now (g.A.Alarm.raises c.args.alarm.now) (g.K.Sink.written c.args.sink.now) (g.K.Sink.faults c.args.sink.now) in
    end_room h.0 h.1 c.args.reader.now c.new-commands.result c.finish.new.to Ended h.2 a c.new-commands.ensures h.3 c.in-Ok.ensures.ok

pub refuse-requires-clause-room : goal.refuse-requires-clause-room
refuse-requires-clause-room g c κs within =
    let h = c.requires.carried in
    let a = world c.args.shares c.args.solver.now (g.A.Alarm.raises c.args.alarm.now) (g.K.Sink.written c.args.sink.now) (g.K.Sink.faults c.args.sink.now) in
    end_room h.0 h.1 c.args.reader.now c.new-commands.result c.finish.new.to (Refused c.in-Err-Refused.why) h.2 a c.new-commands.ensures h.3 (c.finish.ensures.refused c.in-Err-Refused.why (cc))

pub returns-in-Ok-clause-ok : goal.returns-in-Ok-clause-ok
returns-in-Ok-clause-ok g c =
    let a = world c.args.shares c.args.solver.now (g.A.Alarm.raises c.args.alarm.now) (g.K.Sink.written c.args.sink.now) (g.K.Sink.faults c.args.sink.now) in
    let b = world c.args.shares c.carry_out_last.new.solver (g.A.Alarm.raises c.carry_out_last.new.alarm) (g.K.Sink.written c.carry_out_last.new.sink) (g.K.Sink.faults c.carry_out_last.new.sink) in
    IfOk-weaker c.carry_out_last.result _ _ (λ report all input text start h.
    end_on (λ from r. AnswersAll r report from b) input text c.args.reader.now c.new-commands.result c.finish.new.to Ended start a c.new-commands.ensures h c.in-Ok.ensures.ok all) c.carry_out_last.ensures.ok

pub returns-in-Ok-clause-err : goal.returns-in-Ok-clause-err
returns-in-Ok-clause-err g c =
    let a = world c.args.shares c.args.solver.now (g.A.Alarm.raises c.args.alarm.now) (g.K.Sink.written c.args.sink.now) (g.K.Sink.faults c.args.sink.now) in
    let b = world c.args.shares c.carry_out_last.new.solver (g.A.Alarm.raises c.carry_out_last.new.alarm) (g.K.Sink.written c.carry_out_last.new.sink) (g.K.Sink.faults c.carry_out_last.new.sink) in
    IfErr-weaker c.carry_out_last.result _ _ (λ why all input text start h.
    end_on (λ from r. StopsRight why r from b) input text c.args.reader.now c.new-commands.result c.finish.new.to Ended start a c.new-commands.ensures h c.in-Ok.ensures.ok all) c.carry_out_last.ensures.err

pub returns-in-Err-Refused-clause-err : goal.returns-in-Err-Refused-clause-err
returns-in-Err-Refused-clause-err g c = λ input text start h.
    let a = world c.args.shares c.args.solver.now (g.A.Alarm.raises c.args.alarm.now) (g.K.Sink.written c.args.sink.now) (g.K.Sink.faults c.args.sink.now) in
    let b = world c.args.shares c.refuse.new.solver (g.A.Alarm.raises c.refuse.new.alarm) (g.K.Sink.written c.refuse.new.sink) (g.K.Sink.faults c.refuse.new.sink) in
    end_on (λ from r. StopsRight c.refuse.result r from b) input text c.args.reader.now c.new-commands.result c.finish.new.to (Refused c.in-Err-Refused.why) start a c.new-commands.ensures h
    (c.finish.ensures.refused c.in-Err-Refused.why (cc)) c.refuse.ensures

pub returns-clause-err : goal.returns-clause-err
returns-clause-err g c = λ input text start h.
    let a = world c.args.shares c.args.solver.now (g.A.Alarm.raises c.args.alarm.now) (g.K.Sink.written c.args.sink.now) (g.K.Sink.faults c.args.sink.now) in
    end_lost input text c.args.reader.now start a h
