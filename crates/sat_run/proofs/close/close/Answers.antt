use Rattle.dimacs_text.specs.Lists.{Ended}
use Rattle.sat_run.specs.Errors.{halted}
use Rattle.sat_run.specs.World.{world}
use Rattle.sat_run.proofs.Closing.{all_answered, last_stopped, named_stop, reading}
use Rattle.sat_run.proofs.close.close.Goals as goal

pub returns-in-Ok-clause-ok : goal.returns-in-Ok-clause-ok
returns-in-Ok-clause-ok g c = λ start given carries began.
    let a = world c.args.shares c.args.solver.now (g.A.Alarm.raises c.args.alarm.now) (g.K.Sink.written c.args.sink.now) (g.K.Sink.faults c.args.sink.now) in
    let b = world c.args.shares c.answer.new.solver (g.A.Alarm.raises c.answer.new.alarm) (g.K.Sink.written c.answer.new.sink) (g.K.Sink.faults c.answer.new.sink) in
    all_answered given c.in-Ok.report start a b began carries c.in-Ok.ensures.ok

pub returns-in-Err-clause-err : goal.returns-in-Err-clause-err
returns-in-Err-clause-err g c = λ start given carries began.
    let a = world c.args.shares c.args.solver.now (g.A.Alarm.raises c.args.alarm.now) (g.K.Sink.written c.args.sink.now) (g.K.Sink.faults c.args.sink.now) in
    let b = world c.args.shares c.answer.new.solver (g.A.Alarm.raises c.answer.new.alarm) (g.K.Sink.written c.answer.new.sink) (g.K.Sink.faults c.answer.new.sink) in
    named_stop c.from.result (halted c.in-Err.halt) (reading given Ended) start b c.from.ensures (last_stopped c.in-Err.halt given start a b began carries c.in-Err.ensures.err)
