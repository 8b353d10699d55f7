use Rattle.std.proofs.Common.{false}
use Rattle.analyze.proofs.Decisions.{covers_more}
use Rattle.analyze.proofs.deciding.mark_all.Goals as goal

pub loop-lit-preserved : goal.loop-lit-preserved
loop-lit-preserved c =
    covers_more c.args.trail.now c.args.lits.now c.loop-lit.lit-index (record { var = record { 0 = 0 }; negative = false }) c.args.marks.now c.loop-lit.marks c.mark.new.self c.in_ok-_level._level c.loop-lit-test.true c.loop-lit.invariant c.in_ok-_level.ensures
