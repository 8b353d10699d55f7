use Rattle.std.proofs.Common.{false}
use Rattle.analyze.proofs.Marked.{marked_none, marked_more, may_mark_next}
use Rattle.analyze.proofs.walk.Walk.mark_all.Goals as goal

pub loop-lit-init : goal.loop-lit-init
loop-lit-init c = marked_none c.args.trail.now c.args.self.now c.requires.stands

pub mark-requires-clause-known : goal.mark-requires-clause-known
mark-requires-clause-known c =
    may_mark_next c.args.trail.now c.args.lits.now c.loop-lit.lit-index (record { var = record { 0 = 0 }; negative = false }) c.args.self.now c.loop-lit.self c.loop-lit-test.true c.requires.known c.loop-lit.invariant

pub loop-lit-preserved : goal.loop-lit-preserved
loop-lit-preserved c =
    marked_more c.args.trail.now c.args.lits.now c.loop-lit.lit-index (record { var = record { 0 = 0 }; negative = false }) c.args.self.now c.loop-lit.self c.mark.new.self c.loop-lit-test.true c.loop-lit.invariant c.in_ok-mark.ensures
