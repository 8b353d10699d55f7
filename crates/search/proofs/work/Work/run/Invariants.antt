use Rattle.std.proofs.Common.{◌-◌, ◌^◌, length}
use Rattle.search_laws.specs.TrailNumber.{trail_number}
use Rattle.search.specs.InUse.{in_use}
use Rattle.search.proofs.Running.{AtTurn}
use Rattle.search.proofs.work.Work.run.Given as goal

abbrev pub invariant-moves : goal.invariant-moves
invariant-moves g l = AtTurn l.fn.state l.state l.fn.self l.self l.ends.own l.ends.left l.fn.tally l.tally (g.S.Alarm.raises l.fn.stop) (g.S.Alarm.raises l.stop) × g.S.Alarm.kept l.fn.stop l.stop

abbrev pub decreases-moves : goal.decreases-moves
decreases-moves g l = 3 ^ length (in_use l.state.maps) - trail_number (length (in_use l.state.maps)) l.self.trail.steps
