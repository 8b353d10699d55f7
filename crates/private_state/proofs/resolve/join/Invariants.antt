use Rattle.std.proofs.Common.{◌≡◌, ◌++◌, take, map}
use Rattle.rebuild_stack.specs.declared.entry.Root.TheVariants.{Last}
use Rattle.private_state.proofs.resolve.join.Given as goal

abbrev pub invariant-left : goal.invariant-left
invariant-left l = l.roots.items ≡ map Last (take l.lit-index l.left)

abbrev pub invariant-right : goal.invariant-right
invariant-right l = l.roots.items ≡ map Last (l.left ++ take l.lit-index l.right)
