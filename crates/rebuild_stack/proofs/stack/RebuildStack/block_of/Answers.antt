use Rattle.std.proofs.Common.{arith, sym, ◌∙◌, ◌-◌}
use Rattle.rebuild_stack.proofs.Blocks.{newest_block}
use Rattle.rebuild_stack.proofs.stack.RebuildStack.block_of.Goals as goal

pub returns-then-is_block_of-clause-newest : goal.returns-then-is_block_of-clause-newest
returns-then-is_block_of-clause-newest c =
    rw (← c.self.view_is)
    (newest_block c.args.var c.self.inside.entries.items (c.loop-at.at - 1) c.loop-at.at c.index.result.now
    (omega arith) (omega (arith, c.self.inside.entries.ok.0)) c.index.ensures (sym c.is_block_of.ensures ∙ c.if-is_block_of.true) c.loop-at.invariant)
