use Rattle.std.proofs.Common.{◌++◌}
use Rattle.std.proofs.lemmas.Result.{IfOk-weaker, IfErr-weaker}
use Rattle.dimacs_text.specs.Lists.{Ended}
use Rattle.sat_run.specs.Errors.{halted}
use Rattle.sat_run.specs.World.{world}
use Rattle.sat_run.proofs.Joins.{carries_then}
use Rattle.sat_run.proofs.Closing.{stop_last, named_stop, reading}
use Rattle.sat_run.proofs.close.carry_out_last.Goals as goal

pub returns-in-Ok-clause-ok : goal.returns-in-Ok-clause-ok
returns-in-Ok-clause-ok g c =
    let a = world c.args.shares c.args.solver.now (g.A.Alarm.raises c.args.alarm.now) (g.K.Sink.written c.args.sink.now) (g.K.Sink.faults c.args.sink.now) in
    let b = world c.args.shares c.carry_out_all.new.solver (g.A.Alarm.raises c.carry_out_all.new.alarm) (g.K.Sink.written c.carry_out_all.new.sink) (g.K.Sink.faults c.carry_out_all.new.sink) in
    let all = c.args.commands.now in
    IfOk-weaker c.close.result _ _ (λ report last start given carries began. last start (given ++ all) (carries_then given all start a b carries c.in-Ok.ensures.ok) began) c.close.ensures.ok

pub returns-in-Ok-clause-err : goal.returns-in-Ok-clause-err
returns-in-Ok-clause-err g c =
    let a = world c.args.shares c.args.solver.now (g.A.Alarm.raises c.args.alarm.now) (g.K.Sink.written c.args.sink.now) (g.K.Sink.faults c.args.sink.now) in
    let b = world c.args.shares c.carry_out_all.new.solver (g.A.Alarm.raises c.carry_out_all.new.alarm) (g.K.Sink.written c.carry_out_all.new.sink) (g.K.Sink.faults c.carry_out_all.new.sink) in
    let all = c.args.commands.now in
    IfErr-weaker c.close.result _ _ (λ why last start given carries began. last start (given ++ all) (carries_then given all start a b carries c.in-Ok.ensures.ok) began) c.close.ensures.err

pub returns-in-Err-clause-err : goal.returns-in-Err-clause-err
returns-in-Err-clause-err g c = λ start given carries began.
    let a = world c.args.shares c.args.solver.now (g.A.Alarm.raises c.args.alarm.now) (g.K.Sink.written c.args.sink.now) (g.K.Sink.faults c.args.sink.now) in
    let b = world c.args.shares c.carry_out_all.new.solver (g.A.Alarm.raises c.carry_out_all.new.alarm) (g.K.Sink.written c.carry_out_all.new.sink) (g.K.Sink.faults c.carry_out_all.new.sink) in
    named_stop c.from.result (halted c.in-Err.halt) (reading (given ++ c.args.commands.now) Ended) start b c.from.ensures (stop_last c.in-Err.halt given c.args.commands.now Ended start a b began carries c.in-Err.ensures.err)
