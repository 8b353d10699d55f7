use Rattle.std.proofs.Common.{◌≡◌, take}
use Rattle.rebuild_stack.specs.Roots.{root}
use Rattle.rebuild_stack.specs.PutIn.{put_in_all}
use Rattle.removed_vars.specs.Restoring.{left_by}
use Rattle.removed_vars.proofs.restoring.put_in_block.Given as goal

abbrev pub invariant-each : goal.invariant-each
invariant-each l = l.clauses.items ≡ put_in_all (root (left_by l.maps l.removed.entries)) (take l.at l.block)
