use Rattle.std.proofs.Common.{◌+◌, ◌-◌}
use Rattle.sat_run.specs.Progress.{Reads}
use Rattle.sat_run.specs.World.{world}
use Rattle.sat_run.proofs.serve.serve.Given as goal

abbrev pub invariant-reading : goal.invariant-reading
invariant-reading g l =
    Reads l.fn.limits.input l.taken l.reader (g.S.Source.left l.fn.source) (g.S.Source.left l.source) (g.S.Source.faults l.fn.source) (g.S.Source.faults l.source)
    (world l.fn.shares l.fn.solver (g.A.Alarm.raises l.fn.alarm) (g.K.Sink.written l.fn.sink) (g.K.Sink.faults l.fn.sink))
    (world l.shares l.solver (g.A.Alarm.raises l.alarm) (g.K.Sink.written l.sink) (g.K.Sink.faults l.sink))

abbrev pub decreases-reading : goal.decreases-reading
decreases-reading g l = l.fn.limits.input + 1 - l.taken
