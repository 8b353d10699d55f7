use Rattle.std.proofs.Common.{[], ◌∷◌, List, length, ap}
use Rattle.std.proofs.lemmas.Result.{err_from_is_err_and}
use Rattle.sat_lits.specs.declared.shared.Shared.{Shared}
use Rattle.sat_run.specs.Questions.{question}
use Rattle.sat_run.specs.Reports.{text_of_block, block}
use Rattle.sat_run.specs.Writing.{port}
use Rattle.sat_run.specs.World.{world}
use Rattle.sat_run.specs.declared.failures.Halt.TheVariants.{Memory}
use Rattle.sat_run.proofs.Made.{answers_one, shared_within, block_is, stops_asking, stops_block, named_halt}
use Rattle.sat_run.proofs.answer.answer.Goals as goal

pub returns-in_err-answer-clause-err : goal.returns-in_err-answer-clause-err
returns-in_err-answer-clause-err g c =
    let p = err_from_is_err_and c.from_residual.result c.from_residual.ensures.1 in
    let q = question c.args.solver.now.problem c.args.assumptions.now in
    let x = port (g.K.Sink.written c.args.sink.now) (g.K.Sink.faults c.args.sink.now) in
    let a = world c.args.shares c.args.solver.now (g.A.Alarm.raises c.args.alarm.now) x.bytes x.faults in
    let b = world c.args.shares c.ask.new.solver (g.A.Alarm.raises c.ask.new.alarm) x.bytes x.faults in
    rw p.1 (named_halt p.0 Memory (q ∷ []) a b p.2 (stops_asking q c.args.shares c.args.solver.now c.ask.new.solver a.raised b.raised x c.ask.ensures.keeps c.ask.ensures.later))

pub returns-in_err-report-clause-err : goal.returns-in_err-report-clause-err
returns-in_err-report-clause-err g c =
    let p = err_from_is_err_and c.from_residual-in_err-report.result c.from_residual-in_err-report.ensures.1 in
    let q = question c.args.solver.now.problem c.args.assumptions.now in
    let x = port (g.K.Sink.written c.args.sink.now) (g.K.Sink.faults c.args.sink.now) in
    let a = world c.args.shares c.args.solver.now (g.A.Alarm.raises c.args.alarm.now) x.bytes x.faults in
    let b = world c.args.shares c.ask.new.solver (g.A.Alarm.raises c.ask.new.alarm) x.bytes x.faults in
    rw p.1 (named_halt p.0 Memory (q ∷ []) a b p.2 (stops_asking q c.args.shares c.args.solver.now c.ask.new.solver a.raised b.raised x c.ask.ensures.keeps c.ask.ensures.later))

pub entries_behind-entries-requires : goal.entries_behind-entries-requires
entries_behind-entries-requires g c =
    shared_within c.args.solver.now c.ask.new.solver (length c.shared-before.result.now) c.ask.ensures.keeps (ap (λ (es : List Shared). length es) c.shared-before.ensures.value)

pub returns-in_err-write_block-clause-err : goal.returns-in_err-write_block-clause-err
returns-in_err-write_block-clause-err g c =
    let p = err_from_is_err_and c.from_residual-in_err-write_block.result c.from_residual-in_err-write_block.ensures.1 in
    let q = question c.args.solver.now.problem c.args.assumptions.now in
    let s = c.args.solver.now in
    let t = c.ask.new.solver in
    let m = g.A.Alarm.raises c.args.alarm.now in
    let n = g.A.Alarm.raises c.ask.new.alarm in
    let x = port (g.K.Sink.written c.args.sink.now) (g.K.Sink.faults c.args.sink.now) in
    let y = port (g.K.Sink.written c.write_block.new.sink) (g.K.Sink.faults c.write_block.new.sink) in
    let a = world c.args.shares s m x.bytes x.faults in
    let b = world c.args.shares t n y.bytes y.faults in
    let halt = c.in_err-write_block.field-0.0 in
    let on = c.in_ok-report.ensures s c.args.assumptions.now m n c.ask.ensures.keeps.counted c.ask.ensures.later c.in_ok-answer.ensures.answers in
    let is = block_is c.in_ok-report.report c.args.shares s t (length c.shared-before.result.now) c.entries_behind-entries.result.now (ap (λ (es : List Shared). length es) c.shared-before.ensures.value) c.entries_behind-entries.ensures in
    rw p.1 (named_halt p.0 halt (q ∷ []) a b p.2
    (stops_block halt c.args.assumptions.now c.in_ok-report.report c.args.shares s t m n x y (text_of_block (block c.in_ok-report.report c.entries_behind-entries.result.now)) c.write_block.result c.in_err-write_block.was on c.ask.ensures.keeps c.ask.ensures.later is c.write_block.ensures))

pub returns-clause-ok : goal.returns-clause-ok
returns-clause-ok g c =
    let s = c.args.solver.now in
    let t = c.ask.new.solver in
    let m = g.A.Alarm.raises c.args.alarm.now in
    let n = g.A.Alarm.raises c.ask.new.alarm in
    let x = port (g.K.Sink.written c.args.sink.now) (g.K.Sink.faults c.args.sink.now) in
    let y = port (g.K.Sink.written c.write_block.new.sink) (g.K.Sink.faults c.write_block.new.sink) in
    let on = c.in_ok-report.ensures s c.args.assumptions.now m n c.ask.ensures.keeps.counted c.ask.ensures.later c.in_ok-answer.ensures.answers in
    let is = block_is c.in_ok-report.report c.args.shares s t (length c.shared-before.result.now) c.entries_behind-entries.result.now (ap (λ (es : List Shared). length es) c.shared-before.ensures.value) c.entries_behind-entries.ensures in
    answers_one c.args.assumptions.now c.in_ok-report.report c.args.shares s t m n x y (text_of_block (block c.in_ok-report.report c.entries_behind-entries.result.now)) on c.ask.ensures.keeps c.ask.ensures.later is c.in_ok-write_block.ensures.whole c.in_ok-write_block.ensures.kept
