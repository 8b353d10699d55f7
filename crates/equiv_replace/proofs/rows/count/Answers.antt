use Rattle.equiv_replace.proofs.Rowing.{zero_sum}
use Rattle.equiv_replace.proofs.rows.count.Goals as goal

pub loop-edge-init : goal.loop-edge-init
loop-edge-init c = record { each = c.requires.zero; all = zero_sum c.args.counts.now c.requires.zero }
