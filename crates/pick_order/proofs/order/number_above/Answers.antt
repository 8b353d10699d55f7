use Rattle.std.proofs.Common.{◌<◌, ◌≤◌, get_or, arith}
use Rattle.std.proofs.lemmas.Bool.Decides.{nat_tests}
use Rattle.sat_lits.specs.declared.literal.Inner.{Inner}
use Rattle.pick_order.proofs.Taking.{above_more}
use Rattle.pick_order.proofs.order.number_above.Goals as goal

pub loop-var-preserved : goal.loop-var-preserved
loop-var-preserved c =
    let d : Inner = record { 0 = 0 } in
    let a : c.loop-var.above ≤ c.max-above.result = grind (arith, nat_tests, c.max-above.ensures) in
    let b : (get_or c.args.vars.now c.loop-var.var-index (record { 0 = 0 })).0 < c.max-above.result = grind (arith, nat_tests, c.max-above.ensures) in
    record {
      above = above_more c.args.vars.now c.loop-var.var-index c.loop-var.above c.max-above.result d c.loop-var-test.true a b c.loop-var.invariant.above;
      limit = grind (arith, nat_tests, c.max-above.ensures);
    }
