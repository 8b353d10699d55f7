use Rattle.std.proofs.Common.{◌≡◌, take, map}
use Rattle.rebuild_stack.specs.Roots.{root}
use Rattle.removed_vars.specs.Restoring.{left_by}
use Rattle.removed_vars.proofs.restoring.add_put_in.Given as goal

abbrev pub invariant-loop-lit : goal.invariant-loop-lit
invariant-loop-lit l = l.roots.items ≡ map (root (left_by l.maps l.removed.entries)) (take l.lit-index l.lits)
