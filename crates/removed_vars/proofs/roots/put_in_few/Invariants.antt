use Rattle.std.proofs.Common.{◌≡◌, take, Some}
use Rattle.rebuild_stack.specs.PutIn.{put_in}
use Rattle.removed_vars.proofs.roots.put_in_few.Given as goal

abbrev pub invariant-merge : goal.invariant-merge
invariant-merge l = put_in (λ root. root) (take l.root-index l.roots) ≡ Some l.lits
