use Rattle.std.proofs.Common.{◌++◌}
use Rattle.dimacs_text.specs.Grammar.{reading_of}
use Rattle.sat_run.specs.Progress.{limits_of}
use Rattle.sat_run.specs.Errors.{halted}
use Rattle.sat_run.specs.World.{world}
use Rattle.sat_run.proofs.Closing.{named_stop}
use Rattle.sat_run.proofs.Pieces.{piece_room, refusal_room, piece_carried, piece_stops, piece_refused, piece_lost_in}
use Rattle.sat_run.proofs.read.take_piece.Goals as goal

pub carry_out_all-requires-clause-room : goal.carry_out_all-requires-clause-room
carry_out_all-requires-clause-room g c κs within =
    let h = c.requires.carried in
    let a = world c.args.shares c.args.solver.now (g.A.Alarm.raises c.args.alarm.now) (g.K.Sink.written c.args.sink.now) (g.K.Sink.faults c.args.sink.now) in
    piece_room h.0 h.1 c.args.reader.now c.feed.new.self c.args.piece.now c.new-commands.result c.feed.new.to h.2 a c.new-commands.ensures h.3 c.in-Ok.ensures.ok

pub refuse-requires-clause-room : goal.refuse-requires-clause-room
refuse-requires-clause-room g c κs within =
    let h = c.requires.carried in
    let a = world c.args.shares c.args.solver.now (g.A.Alarm.raises c.args.alarm.now) (g.K.Sink.written c.args.sink.now) (g.K.Sink.faults c.args.sink.now) in
    refusal_room h.0 h.1 c.args.reader.now c.args.piece.now c.new-commands.result c.feed.new.to c.in-Err-Refused.why h.2 a c.new-commands.ensures h.3 (c.feed.ensures.refused c.in-Err-Refused.why (cc))

pub returns-in-Ok-carry_out_all-clause-ok : goal.returns-in-Ok-carry_out_all-clause-ok
returns-in-Ok-carry_out_all-clause-ok g c = λ input text start h.
    let a = world c.args.shares c.args.solver.now (g.A.Alarm.raises c.args.alarm.now) (g.K.Sink.written c.args.sink.now) (g.K.Sink.faults c.args.sink.now) in
    let b = world c.args.shares c.carry_out_all.new.solver (g.A.Alarm.raises c.carry_out_all.new.alarm) (g.K.Sink.written c.carry_out_all.new.sink) (g.K.Sink.faults c.carry_out_all.new.sink) in
    piece_carried input text c.args.reader.now c.feed.new.self c.args.piece.now c.new-commands.result c.feed.new.to start a b c.new-commands.ensures h c.in-Ok.ensures.ok c.in-Ok-carry_out_all.ensures.ok

pub returns-in-Ok-clause-err : goal.returns-in-Ok-clause-err
returns-in-Ok-clause-err g c = λ input text start h rest.
    let a = world c.args.shares c.args.solver.now (g.A.Alarm.raises c.args.alarm.now) (g.K.Sink.written c.args.sink.now) (g.K.Sink.faults c.args.sink.now) in
    let b = world c.args.shares c.carry_out_all.new.solver (g.A.Alarm.raises c.carry_out_all.new.alarm) (g.K.Sink.written c.carry_out_all.new.sink) (g.K.Sink.faults c.carry_out_all.new.sink) in
    named_stop c.from.result (halted c.in-Err.halt) (reading_of (limits_of input) ((text ++ c.args.piece.now) ++ rest)) start b c.from.ensures
    (piece_stops c.in-Err.halt input text c.args.reader.now c.feed.new.self c.args.piece.now c.new-commands.result c.feed.new.to start a b c.new-commands.ensures h c.in-Ok.ensures.ok c.in-Err.ensures.err rest)

pub returns-in-Err-Refused-clause-err : goal.returns-in-Err-Refused-clause-err
returns-in-Err-Refused-clause-err g c = λ input text start h rest.
    let a = world c.args.shares c.args.solver.now (g.A.Alarm.raises c.args.alarm.now) (g.K.Sink.written c.args.sink.now) (g.K.Sink.faults c.args.sink.now) in
    let b = world c.args.shares c.refuse.new.solver (g.A.Alarm.raises c.refuse.new.alarm) (g.K.Sink.written c.refuse.new.sink) (g.K.Sink.faults c.refuse.new.sink) in
    piece_refused c.refuse.result input text c.args.reader.now c.args.piece.now c.new-commands.result c.feed.new.to c.in-Err-Refused.why start a b c.new-commands.ensures h (c.feed.ensures.refused c.in-Err-Refused.why (cc)) c.refuse.ensures rest

pub returns-clause-err : goal.returns-clause-err
returns-clause-err g c = λ input text start h rest.
    let a = world c.args.shares c.args.solver.now (g.A.Alarm.raises c.args.alarm.now) (g.K.Sink.written c.args.sink.now) (g.K.Sink.faults c.args.sink.now) in
    piece_lost_in input text c.args.reader.now c.args.piece.now start a h rest
