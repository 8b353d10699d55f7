use Rattle.std.proofs.Common.{◌≡◌, ◌+◌, ◌-◌, ◌<◌, ◌≤◌, length, sum, arith}
use Rattle.equiv_replace.proofs.Rowing.{sum_next, sum_fits}
use Rattle.equiv_replace.proofs.rows.sum_up.Goals as goal

pub overflow_add-numbers : goal.overflow_add-numbers
overflow_add-numbers c =
    let l : c.loop-at.at < length c.args.numbers.now = c.loop-at-test.true in
    let n : length c.loop-at.numbers ≡ length c.args.numbers.now = c.loop-at.auto.numbers in
    let b : 1 ≤ c.loop-at.at = c.loop-at.auto.at in
    let r : sum c.args.numbers.now < 4294967296 = c.requires in
    omega (arith, sum_next c.args.numbers.now c.loop-at.numbers c.loop-at.at b l (c.loop-at.invariant.left c.loop-at.at (omega arith)) (c.loop-at.invariant.done (c.loop-at.at - 1) (omega arith) (omega arith)), sum_fits c.args.numbers.now (c.loop-at.at + 1))
