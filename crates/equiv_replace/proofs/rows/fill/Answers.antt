use Rattle.std.proofs.Common.{◌-◌, ◌≤◌, get_or, length, refl, arith}
use Rattle.equiv_replace.proofs.Rowing.{filling_down}
use Rattle.equiv_replace.proofs.rows.fill.Goals as goal

pub overflow_sub-start : goal.overflow_sub-start
overflow_sub-start c =
    (filling_down c.args.starts.now c.down.starts c.down.heads c.args.edges.now c.down.at (record { from = 0; to = 0 }) (get_or c.args.edges.now (c.down.at - 1) (record { from = 0; to = 0 })) c.requires.ends c.requires.inside c.down-test.true c.down.invariant.inside refl c.down.invariant.filling).0

pub down-preserved : goal.down-preserved
down-preserved c =
    record {
      inside = let h : c.down.at ≤ length c.args.edges.now = c.down.invariant.inside in omega arith;
      filling = (filling_down c.args.starts.now c.down.starts c.down.heads c.args.edges.now c.down.at (record { from = 0; to = 0 }) (get_or c.args.edges.now (c.down.at - 1) (record { from = 0; to = 0 })) c.requires.ends c.requires.inside c.down-test.true c.down.invariant.inside refl c.down.invariant.filling).1;
    }
