use Rattle.std.proofs.Common.{◌∙◌, sym, false}
use Rattle.propagate.proofs.Opening.{found_open}
use Rattle.propagate.proofs.table.find_open.Goals as goal

pub returns-then-not-is_same-clause-some : goal.returns-then-not-is_same-clause-some
returns-then-not-is_same-clause-some c =
    found_open c.args.trail.now.steps c.args.other c.args.lits.now c.loop-at.at (record { var = record { 0 = 0 }; negative = false }) c.loop-at-test.true
    (sym c.is_false.ensures ∙ c.if-not-is_false.true)
    (sym c.is_same.ensures ∙ c.if-not-is_same.true)
