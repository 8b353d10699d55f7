use Rattle.std.proofs.Common.{◌<◌, ◌≤◌, map, ap}
use Rattle.sat_lits.specs.Limits.{LimitNumbers}
use Rattle.sat_api.specs.State.{SolverState}
use Rattle.sat_run.specs.Writing.{port}
use Rattle.sat_run.specs.World.{world, outside}
use Rattle.sat_run.proofs.Ran.{ran_answer, ran_stop, ran_not}
use Rattle.sat_run.proofs.Options.{options_standard, options_threads}
use Rattle.sat_run.proofs.serve.run.Goals as goal

pub set-requires-clause-some : goal.set-requires-clause-some
set-requires-clause-some g c = (options_threads (map (λ word. word.now) c.args.words.now) c.in-Ok.options c.in-Ok.ensures.ok).0

pub set-requires-clause-few : goal.set-requires-clause-few
set-requires-clause-few g c = (options_threads (map (λ word. word.now) c.args.words.now) c.in-Ok.options c.in-Ok.ensures.ok).1

pub limits-requires : goal.limits-requires
limits-requires g c = options_standard (map (λ word. word.now) c.args.words.now) c.in-Ok.options c.in-Ok.ensures.ok

pub returns-in_default : goal.returns-in_default
returns-in_default g c = ran_not (map (λ word. word.now) c.args.words.now) _ _ c.in_default.ensures.err

pub returns-in-Ok-serve : goal.returns-in-Ok-serve
returns-in-Ok-serve g c =
    let shares = c.in-Ok.options.print_shared in
    let before = port (g.S.Source.left c.args.source.now) (g.S.Source.faults c.args.source.now) in
    let now = port (g.S.Source.left c.serve.new.source) (g.S.Source.faults c.serve.new.source) in
    let old = outside c.args.solver.now (g.A.Alarm.raises c.args.alarm.now) (g.K.Sink.written c.args.sink.now) (g.K.Sink.faults c.args.sink.now) in
    let between = world shares c.set.new.solver old.raised old.sink.bytes old.sink.faults in
    let new = outside c.serve.new.solver (g.A.Alarm.raises c.serve.new.alarm) (g.K.Sink.written c.serve.new.sink) (g.K.Sink.faults c.serve.new.sink) in
    ran_answer (map (λ word. word.now) c.args.words.now) c.in-Ok.options c.limits.result c.in-Ok-serve.report c.status.result before now old between new c.in-Ok.ensures.ok
    (ap (λ (limits : LimitNumbers). limits.input) c.limits.ensures) (ap (λ (s : SolverState). world shares s old.raised old.sink.bytes old.sink.faults) c.set.ensures)
    c.status.ensures c.in-Ok-serve.ensures.ok c.serve.ensures.little

pub returns-in-Err : goal.returns-in-Err
returns-in-Err g c =
    let shares = c.in-Ok.options.print_shared in
    let before = port (g.S.Source.left c.args.source.now) (g.S.Source.faults c.args.source.now) in
    let now = port (g.S.Source.left c.serve.new.source) (g.S.Source.faults c.serve.new.source) in
    let old = outside c.args.solver.now (g.A.Alarm.raises c.args.alarm.now) (g.K.Sink.written c.args.sink.now) (g.K.Sink.faults c.args.sink.now) in
    let between = world shares c.set.new.solver old.raised old.sink.bytes old.sink.faults in
    let new = outside c.serve.new.solver (g.A.Alarm.raises c.serve.new.alarm) (g.K.Sink.written c.serve.new.sink) (g.K.Sink.faults c.serve.new.sink) in
    ran_stop (map (λ word. word.now) c.args.words.now) c.in-Ok.options c.limits.result c.in-Err.stop c.status-in-Err.result before now old between new c.in-Ok.ensures.ok
    (ap (λ (limits : LimitNumbers). limits.input) c.limits.ensures) (ap (λ (s : SolverState). world shares s old.raised old.sink.bytes old.sink.faults) c.set.ensures)
    c.status-in-Err.ensures c.in-Err.ensures.err c.serve.ensures.little
