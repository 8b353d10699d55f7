use Rattle.std.proofs.Common.{◌≡◌, drop}
use Rattle.rebuild_stack.specs.Values.{values_of}
use Rattle.rebuild_stack.specs.Entries.{rebuild}
use Rattle.rebuild_stack.proofs.stack.RebuildStack.rebuild.Given as goal

abbrev pub invariant-loop-at : goal.invariant-loop-at
invariant-loop-at l = values_of l.values ≡ rebuild (drop l.at l.self-inside.entries.items) (values_of l.initial.values)
