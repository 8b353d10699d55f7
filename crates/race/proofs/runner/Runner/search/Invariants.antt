use Rattle.std.proofs.Common.{◌-◌, ◌^◌}
use Rattle.race.specs.Running.{IsSearching, KeepsRunner}
use Rattle.race.proofs.runner.Runner.search.Given as goal

abbrev pub invariant-intervals : goal.invariant-intervals
invariant-intervals g l =
    IsSearching l.task.limit l.self.solver l.self.watch.pass.view
    × KeepsRunner l.fn.self.solver l.self.solver l.fn.self.watch.pass l.self.watch.pass
    (g.A.Alarm.raises l.fn.self.watch.alarm) (g.A.Alarm.raises l.self.watch.alarm) (g.A.Alarm.kept l.fn.self.watch.alarm l.self.watch.alarm)

abbrev pub decreases-intervals : goal.decreases-intervals
decreases-intervals g l = 2 ^ 20 - l.self.solver.interval
