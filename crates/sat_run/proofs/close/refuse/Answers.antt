use Rattle.std.proofs.Common.{◌++◌, refl}
use Rattle.dimacs_text.specs.Lists.{Refused}
use Rattle.sat_run.specs.Errors.{halted}
use Rattle.sat_run.specs.World.{world}
use Rattle.sat_run.proofs.Closing.{refusal_written, refusal_stops, stop_last, named_stop, reading}
use Rattle.sat_run.proofs.close.refuse.Goals as goal

pub returns-in-Ok-write_refusal : goal.returns-in-Ok-write_refusal
returns-in-Ok-write_refusal g c = λ start given carries began.
    let a = world c.args.shares c.args.solver.now (g.A.Alarm.raises c.args.alarm.now) (g.K.Sink.written c.args.sink.now) (g.K.Sink.faults c.args.sink.now) in
    let b = world c.args.shares c.carry_out_all.new.solver (g.A.Alarm.raises c.carry_out_all.new.alarm) (g.K.Sink.written c.carry_out_all.new.sink) (g.K.Sink.faults c.carry_out_all.new.sink) in
    let d = world c.args.shares c.carry_out_all.new.solver (g.A.Alarm.raises c.carry_out_all.new.alarm) (g.K.Sink.written c.write_refusal.new.sink) (g.K.Sink.faults c.write_refusal.new.sink) in
    refusal_written given c.args.commands.now c.args.why start a b d began carries c.in-Ok.ensures.ok refl refl refl c.in-Ok-write_refusal.ensures.whole c.in-Ok-write_refusal.ensures.kept

pub returns-in-Err-write_refusal : goal.returns-in-Err-write_refusal
returns-in-Err-write_refusal g c = λ start given carries began.
    let a = world c.args.shares c.args.solver.now (g.A.Alarm.raises c.args.alarm.now) (g.K.Sink.written c.args.sink.now) (g.K.Sink.faults c.args.sink.now) in
    let b = world c.args.shares c.carry_out_all.new.solver (g.A.Alarm.raises c.carry_out_all.new.alarm) (g.K.Sink.written c.carry_out_all.new.sink) (g.K.Sink.faults c.carry_out_all.new.sink) in
    let d = world c.args.shares c.carry_out_all.new.solver (g.A.Alarm.raises c.carry_out_all.new.alarm) (g.K.Sink.written c.write_refusal.new.sink) (g.K.Sink.faults c.write_refusal.new.sink) in
    named_stop c.from.result (halted c.in-Err-write_refusal.halt) (reading (given ++ c.args.commands.now) (Refused c.args.why)) start d c.from.ensures
    (refusal_stops c.in-Err-write_refusal.halt given c.args.commands.now c.args.why c.write_refusal.result start a b d c.in-Err-write_refusal.is began carries c.in-Ok.ensures.ok refl refl refl c.write_refusal.ensures)

pub returns-in-Err : goal.returns-in-Err
returns-in-Err g c = λ start given carries began.
    let a = world c.args.shares c.args.solver.now (g.A.Alarm.raises c.args.alarm.now) (g.K.Sink.written c.args.sink.now) (g.K.Sink.faults c.args.sink.now) in
    let b = world c.args.shares c.carry_out_all.new.solver (g.A.Alarm.raises c.carry_out_all.new.alarm) (g.K.Sink.written c.carry_out_all.new.sink) (g.K.Sink.faults c.carry_out_all.new.sink) in
    named_stop c.from-in-Err.result (halted c.in-Err.halt) (reading (given ++ c.args.commands.now) (Refused c.args.why)) start b c.from-in-Err.ensures
    (stop_last c.in-Err.halt given c.args.commands.now (Refused c.args.why) start a b began carries c.in-Err.ensures.err)
