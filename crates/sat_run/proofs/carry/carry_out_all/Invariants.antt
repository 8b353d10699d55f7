use Rattle.std.proofs.Common.{length}
use Rattle.sat_run.specs.Progress.{HasRoomFor}
use Rattle.sat_run.specs.World.{world}
use Rattle.sat_run.proofs.Done.{HasDone}
use Rattle.sat_run.proofs.carry.carry_out_all.Given as goal

abbrev pub invariant-loop-command : goal.invariant-loop-command
invariant-loop-command g l =
    record {
      done : HasDone l.fn.commands l.commands
          (world l.fn.shares l.fn.solver (g.A.Alarm.raises l.fn.alarm) (g.K.Sink.written l.fn.sink) (g.K.Sink.faults l.fn.sink))
          (world l.shares l.solver (g.A.Alarm.raises l.alarm) (g.K.Sink.written l.sink) (g.K.Sink.faults l.sink));
      room : HasRoomFor l.commands l.solver;
    }

abbrev pub decreases-loop-command : goal.decreases-loop-command
decreases-loop-command g l = length l.commands
