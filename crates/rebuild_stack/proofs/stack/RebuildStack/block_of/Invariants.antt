use Rattle.std.proofs.Common.{◌≡◌, drop, false}
use Rattle.std.specs.List.{list_any}
use Rattle.rebuild_stack.specs.Entries.{is_block_of}
use Rattle.rebuild_stack.proofs.stack.RebuildStack.block_of.Given as goal

abbrev pub invariant-loop-at : goal.invariant-loop-at
invariant-loop-at l = list_any (is_block_of l.var) (drop l.at l.self-inside.entries.items) ≡ false
