use Rattle.std.proofs.Common.{◌≡◌, [], length, take, sym, subst, arith, rules}
use Rattle.std.proofs.lemmas.List.{length-take-le}
use Rattle.std.proofs.lemmas.Result.{IfOk-weaker, IfErr-weaker, err_from_is_err_and}
use Rattle.sat_lits.specs.Limits.{LimitNumbers}
use Rattle.dimacs_text.specs.Reads.{HasRead}
use Rattle.sat_run.specs.Progress.{limits_of}
use Rattle.sat_run.specs.Writing.{port}
use Rattle.sat_run.specs.World.{world}
use Rattle.sat_run.specs.declared.failures.Stop.TheVariants as stop
use Rattle.sat_run.proofs.Taken.{reads_none, reads_more, reads_little, reads_nothing, answers_end, stops_end, stops_piece, stops_read, answers_piece, stops_last, named_text}
use Rattle.sat_run.proofs.serve.serve.Goals as goal

pub reading-init : goal.reading-init
reading-init g c =
    let start = world c.args.shares c.args.solver.now (g.A.Alarm.raises c.args.alarm.now) (g.K.Sink.written c.args.sink.now) (g.K.Sink.faults c.args.sink.now) in
    reads_none c.args.limits.input c.new-reader.result (g.S.Source.left c.args.source.now) (g.S.Source.faults c.args.source.now) start
    (subst (λ (limits : LimitNumbers). HasRead limits [] [] c.new-reader.result) c.requires.others c.new-reader.ensures) c.requires.empty c.requires.standard

pub returns-in_err-count-clause-err : goal.returns-in_err-count-clause-err
returns-in_err-count-clause-err g c =
    let p = err_from_is_err_and c.from_residual.result c.from_residual.ensures.1 in
    let start = world c.args.shares c.args.solver.now (g.A.Alarm.raises c.args.alarm.now) (g.K.Sink.written c.args.sink.now) (g.K.Sink.faults c.args.sink.now) in
    let a = world c.args.shares c.reading.solver (g.A.Alarm.raises c.reading.alarm) (g.K.Sink.written c.reading.sink) (g.K.Sink.faults c.reading.sink) in
    let before = port (g.S.Source.left c.args.source.now) (g.S.Source.faults c.args.source.now) in
    let between = port (g.S.Source.left c.reading.source) (g.S.Source.faults c.reading.source) in
    let now = port (g.S.Source.left c.read.new.self) (g.S.Source.faults c.read.new.self) in
    rw p.1 (named_text p.0 stop.Read c.args.limits.input before now start a p.2
    (stops_read c.args.limits.input c.reading.taken c.reading.reader before between now start a c.reading.invariant c.in_err-count.ensures.bytes c.in_err-count.ensures.cause.failed))

pub returns-in_err-count-clause-little : goal.returns-in_err-count-clause-little
returns-in_err-count-clause-little g c =
    let start = world c.args.shares c.args.solver.now (g.A.Alarm.raises c.args.alarm.now) (g.K.Sink.written c.args.sink.now) (g.K.Sink.faults c.args.sink.now) in
    let a = world c.args.shares c.reading.solver (g.A.Alarm.raises c.reading.alarm) (g.K.Sink.written c.reading.sink) (g.K.Sink.faults c.reading.sink) in
    let before = port (g.S.Source.left c.args.source.now) (g.S.Source.faults c.args.source.now) in
    let between = port (g.S.Source.left c.reading.source) (g.S.Source.faults c.reading.source) in
    let now = port (g.S.Source.left c.read.new.self) (g.S.Source.faults c.read.new.self) in
    reads_nothing c.args.limits.input c.reading.taken 65536 c.reading.reader before.bytes between.bytes now.bytes before.faults between.faults start a c.reading.invariant c.in_err-count.ensures.bytes

pub take_end-requires-clause-carried : goal.take_end-requires-clause-carried
take_end-requires-clause-carried g c κs within = (c.args.limits.input, c.reading.invariant.text, _, c.reading.invariant.carried)

pub returns-then-count-eq0-clause-ok : goal.returns-then-count-eq0-clause-ok
returns-then-count-eq0-clause-ok g c =
    let start = world c.args.shares c.args.solver.now (g.A.Alarm.raises c.args.alarm.now) (g.K.Sink.written c.args.sink.now) (g.K.Sink.faults c.args.sink.now) in
    let a = world c.args.shares c.reading.solver (g.A.Alarm.raises c.reading.alarm) (g.K.Sink.written c.reading.sink) (g.K.Sink.faults c.reading.sink) in
    let b = world c.args.shares c.take_end.new.solver (g.A.Alarm.raises c.take_end.new.alarm) (g.K.Sink.written c.take_end.new.sink) (g.K.Sink.faults c.take_end.new.sink) in
    let before = port (g.S.Source.left c.args.source.now) (g.S.Source.faults c.args.source.now) in
    let between = port (g.S.Source.left c.reading.source) (g.S.Source.faults c.reading.source) in
    let now = port (g.S.Source.left c.read.new.self) (g.S.Source.faults c.read.new.self) in
    let room : length c.read.new.into ≡ 65536 = search rules in
    let end = c.in_ok-count.ensures.bytes.1 c.if-count-eq0.true (omega (arith, room)) in
    IfOk-weaker c.take_end.result _ _ (λ report all. answers_end c.args.limits.input c.reading.taken c.reading.reader report before between now start a b c.in_ok-count.count c.read.new.into c.reading.invariant c.if-count-eq0.true c.in_ok-count.ensures.bytes.0 end c.in_ok-count.ensures.cause.kept all) c.take_end.ensures.ok

pub returns-then-count-eq0-clause-err : goal.returns-then-count-eq0-clause-err
returns-then-count-eq0-clause-err g c =
    let start = world c.args.shares c.args.solver.now (g.A.Alarm.raises c.args.alarm.now) (g.K.Sink.written c.args.sink.now) (g.K.Sink.faults c.args.sink.now) in
    let a = world c.args.shares c.reading.solver (g.A.Alarm.raises c.reading.alarm) (g.K.Sink.written c.reading.sink) (g.K.Sink.faults c.reading.sink) in
    let b = world c.args.shares c.take_end.new.solver (g.A.Alarm.raises c.take_end.new.alarm) (g.K.Sink.written c.take_end.new.sink) (g.K.Sink.faults c.take_end.new.sink) in
    let before = port (g.S.Source.left c.args.source.now) (g.S.Source.faults c.args.source.now) in
    let between = port (g.S.Source.left c.reading.source) (g.S.Source.faults c.reading.source) in
    let now = port (g.S.Source.left c.read.new.self) (g.S.Source.faults c.read.new.self) in
    let room : length c.read.new.into ≡ 65536 = search rules in
    let end = c.in_ok-count.ensures.bytes.1 c.if-count-eq0.true (omega (arith, room)) in
    IfErr-weaker c.take_end.result _ _ (λ why all. stops_end c.args.limits.input c.reading.taken c.reading.reader why before between now start a b c.in_ok-count.count c.read.new.into c.reading.invariant c.if-count-eq0.true c.in_ok-count.ensures.bytes.0 end c.in_ok-count.ensures.cause.kept all) c.take_end.ensures.err

pub take_piece-requires-clause-carried : goal.take_piece-requires-clause-carried
take_piece-requires-clause-carried g c κs within = (c.args.limits.input, c.reading.invariant.text, _, c.reading.invariant.carried)

pub returns-in_err-take_piece-clause-err : goal.returns-in_err-take_piece-clause-err
returns-in_err-take_piece-clause-err g c =
    let p = err_from_is_err_and c.from_residual-in_err-take_piece.result c.from_residual-in_err-take_piece.ensures.1 in
    let start = world c.args.shares c.args.solver.now (g.A.Alarm.raises c.args.alarm.now) (g.K.Sink.written c.args.sink.now) (g.K.Sink.faults c.args.sink.now) in
    let a = world c.args.shares c.reading.solver (g.A.Alarm.raises c.reading.alarm) (g.K.Sink.written c.reading.sink) (g.K.Sink.faults c.reading.sink) in
    let b = world c.args.shares c.take_piece.new.solver (g.A.Alarm.raises c.take_piece.new.alarm) (g.K.Sink.written c.take_piece.new.sink) (g.K.Sink.faults c.take_piece.new.sink) in
    let before = port (g.S.Source.left c.args.source.now) (g.S.Source.faults c.args.source.now) in
    let between = port (g.S.Source.left c.reading.source) (g.S.Source.faults c.reading.source) in
    let now = port (g.S.Source.left c.read.new.self) (g.S.Source.faults c.read.new.self) in
    rw p.1 (named_text p.0 c.in_err-take_piece.field-0.0 c.args.limits.input before now start b p.2
    (stops_piece c.args.limits.input c.reading.taken c.reading.reader c.in_err-take_piece.field-0.0 before between now start a b (take c.in_ok-count.count c.read.new.into) c.reading.invariant c.in_ok-count.ensures.bytes.0 c.in_ok-count.ensures.cause.kept c.in_err-take_piece.ensures.err))

pub returns-then-ended-clause-ok : goal.returns-then-ended-clause-ok
returns-then-ended-clause-ok g c =
    let start = world c.args.shares c.args.solver.now (g.A.Alarm.raises c.args.alarm.now) (g.K.Sink.written c.args.sink.now) (g.K.Sink.faults c.args.sink.now) in
    let a = world c.args.shares c.reading.solver (g.A.Alarm.raises c.reading.alarm) (g.K.Sink.written c.reading.sink) (g.K.Sink.faults c.reading.sink) in
    let b = world c.args.shares c.take_piece.new.solver (g.A.Alarm.raises c.take_piece.new.alarm) (g.K.Sink.written c.take_piece.new.sink) (g.K.Sink.faults c.take_piece.new.sink) in
    let d = world c.args.shares c.close.new.solver (g.A.Alarm.raises c.close.new.alarm) (g.K.Sink.written c.close.new.sink) (g.K.Sink.faults c.close.new.sink) in
    let before = port (g.S.Source.left c.args.source.now) (g.S.Source.faults c.args.source.now) in
    let between = port (g.S.Source.left c.reading.source) (g.S.Source.faults c.reading.source) in
    let now = port (g.S.Source.left c.read.new.self) (g.S.Source.faults c.read.new.self) in
    IfOk-weaker c.close.result _ _ (λ report last. answers_piece c.args.limits.input c.reading.taken c.reading.reader c.take_piece.new.reader report before between now start a b d (take c.in_ok-count.count c.read.new.into) c.reading.invariant c.in_ok-count.ensures.bytes.0 c.in_ok-count.ensures.cause.kept c.in_ok-take_piece.ensures.ok
    (c.ended.ensures.settled c.if-ended.true (limits_of c.args.limits.input)) last) c.close.ensures.ok

pub returns-then-ended-clause-err : goal.returns-then-ended-clause-err
returns-then-ended-clause-err g c =
    let start = world c.args.shares c.args.solver.now (g.A.Alarm.raises c.args.alarm.now) (g.K.Sink.written c.args.sink.now) (g.K.Sink.faults c.args.sink.now) in
    let a = world c.args.shares c.reading.solver (g.A.Alarm.raises c.reading.alarm) (g.K.Sink.written c.reading.sink) (g.K.Sink.faults c.reading.sink) in
    let b = world c.args.shares c.take_piece.new.solver (g.A.Alarm.raises c.take_piece.new.alarm) (g.K.Sink.written c.take_piece.new.sink) (g.K.Sink.faults c.take_piece.new.sink) in
    let d = world c.args.shares c.close.new.solver (g.A.Alarm.raises c.close.new.alarm) (g.K.Sink.written c.close.new.sink) (g.K.Sink.faults c.close.new.sink) in
    let before = port (g.S.Source.left c.args.source.now) (g.S.Source.faults c.args.source.now) in
    let between = port (g.S.Source.left c.reading.source) (g.S.Source.faults c.reading.source) in
    let now = port (g.S.Source.left c.read.new.self) (g.S.Source.faults c.read.new.self) in
    IfErr-weaker c.close.result _ _ (λ why last. stops_last c.args.limits.input c.reading.taken c.reading.reader c.take_piece.new.reader why before between now start a b d (take c.in_ok-count.count c.read.new.into) c.reading.invariant c.in_ok-count.ensures.bytes.0 c.in_ok-count.ensures.cause.kept c.in_ok-take_piece.ensures.ok
    (c.ended.ensures.settled c.if-ended.true (limits_of c.args.limits.input)) last) c.close.ensures.err

pub overflow_add-taken : goal.overflow_add-taken
overflow_add-taken g c =
    let room : length c.read.new.into ≡ 65536 = search rules in
    omega (arith, c.reading.invariant.fits, c.reading.invariant.counted, c.requires.few, c.in_ok-count.ensures.bound, room)

pub reading-preserved : goal.reading-preserved
reading-preserved g c =
    let start = world c.args.shares c.args.solver.now (g.A.Alarm.raises c.args.alarm.now) (g.K.Sink.written c.args.sink.now) (g.K.Sink.faults c.args.sink.now) in
    let a = world c.args.shares c.reading.solver (g.A.Alarm.raises c.reading.alarm) (g.K.Sink.written c.reading.sink) (g.K.Sink.faults c.reading.sink) in
    let b = world c.args.shares c.take_piece.new.solver (g.A.Alarm.raises c.take_piece.new.alarm) (g.K.Sink.written c.take_piece.new.sink) (g.K.Sink.faults c.take_piece.new.sink) in
    reads_more c.args.limits.input c.reading.taken c.in_ok-count.count c.reading.reader c.take_piece.new.reader (g.S.Source.left c.args.source.now) (g.S.Source.left c.reading.source) (g.S.Source.left c.read.new.self)
    (g.S.Source.faults c.args.source.now) (g.S.Source.faults c.reading.source) (g.S.Source.faults c.read.new.self) start a b (take c.in_ok-count.count c.read.new.into) c.ended.result
    c.reading.invariant c.in_ok-count.ensures.bytes.0 (sym (length-take-le c.in_ok-count.count c.read.new.into (let b = c.in_ok-count.ensures.bound in b.0))) c.in_ok-count.ensures.cause.kept c.in_ok-take_piece.ensures.ok c.if-ended.false (c.ended.ensures.told (limits_of c.args.limits.input))

pub returns-then-count-eq0-clause-little : goal.returns-then-count-eq0-clause-little
returns-then-count-eq0-clause-little g c =
    let start = world c.args.shares c.args.solver.now (g.A.Alarm.raises c.args.alarm.now) (g.K.Sink.written c.args.sink.now) (g.K.Sink.faults c.args.sink.now) in
    let a = world c.args.shares c.reading.solver (g.A.Alarm.raises c.reading.alarm) (g.K.Sink.written c.reading.sink) (g.K.Sink.faults c.reading.sink) in
    let before = port (g.S.Source.left c.args.source.now) (g.S.Source.faults c.args.source.now) in
    let between = port (g.S.Source.left c.reading.source) (g.S.Source.faults c.reading.source) in
    let now = port (g.S.Source.left c.read.new.self) (g.S.Source.faults c.read.new.self) in
    reads_little c.args.limits.input c.reading.taken 65536 c.reading.reader before.bytes between.bytes now.bytes before.faults between.faults start a (take c.in_ok-count.count c.read.new.into) c.reading.invariant c.in_ok-count.ensures.bytes.0
    (let n = length-take-le c.in_ok-count.count c.read.new.into (let b = c.in_ok-count.ensures.bound in b.0) in let room : length c.read.new.into ≡ 65536 = search rules in omega (arith, n, c.in_ok-count.ensures.bound, room))

pub returns-in_err-take_piece-clause-little : goal.returns-in_err-take_piece-clause-little
returns-in_err-take_piece-clause-little g c =
    let start = world c.args.shares c.args.solver.now (g.A.Alarm.raises c.args.alarm.now) (g.K.Sink.written c.args.sink.now) (g.K.Sink.faults c.args.sink.now) in
    let a = world c.args.shares c.reading.solver (g.A.Alarm.raises c.reading.alarm) (g.K.Sink.written c.reading.sink) (g.K.Sink.faults c.reading.sink) in
    let before = port (g.S.Source.left c.args.source.now) (g.S.Source.faults c.args.source.now) in
    let between = port (g.S.Source.left c.reading.source) (g.S.Source.faults c.reading.source) in
    let now = port (g.S.Source.left c.read.new.self) (g.S.Source.faults c.read.new.self) in
    reads_little c.args.limits.input c.reading.taken 65536 c.reading.reader before.bytes between.bytes now.bytes before.faults between.faults start a (take c.in_ok-count.count c.read.new.into) c.reading.invariant c.in_ok-count.ensures.bytes.0
    (let n = length-take-le c.in_ok-count.count c.read.new.into (let b = c.in_ok-count.ensures.bound in b.0) in let room : length c.read.new.into ≡ 65536 = search rules in omega (arith, n, c.in_ok-count.ensures.bound, room))

pub returns-then-ended-clause-little : goal.returns-then-ended-clause-little
returns-then-ended-clause-little g c =
    let start = world c.args.shares c.args.solver.now (g.A.Alarm.raises c.args.alarm.now) (g.K.Sink.written c.args.sink.now) (g.K.Sink.faults c.args.sink.now) in
    let a = world c.args.shares c.reading.solver (g.A.Alarm.raises c.reading.alarm) (g.K.Sink.written c.reading.sink) (g.K.Sink.faults c.reading.sink) in
    let before = port (g.S.Source.left c.args.source.now) (g.S.Source.faults c.args.source.now) in
    let between = port (g.S.Source.left c.reading.source) (g.S.Source.faults c.reading.source) in
    let now = port (g.S.Source.left c.read.new.self) (g.S.Source.faults c.read.new.self) in
    reads_little c.args.limits.input c.reading.taken 65536 c.reading.reader before.bytes between.bytes now.bytes before.faults between.faults start a (take c.in_ok-count.count c.read.new.into) c.reading.invariant c.in_ok-count.ensures.bytes.0
    (let n = length-take-le c.in_ok-count.count c.read.new.into (let b = c.in_ok-count.ensures.bound in b.0) in let room : length c.read.new.into ≡ 65536 = search rules in omega (arith, n, c.in_ok-count.ensures.bound, room))

pub reading-smaller : goal.reading-smaller
reading-smaller g c =
    omega (arith, c.reading.invariant.fits, c.reading.invariant.counted, c.if-count-eq0.false)
