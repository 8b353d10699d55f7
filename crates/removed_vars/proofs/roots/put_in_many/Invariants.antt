use Rattle.std.proofs.Common.{◌≡◌, take, Some}
use Rattle.rebuild_stack.specs.PutIn.{put_in}
use Rattle.removed_vars.specs.Signs.{TellsSigns}
use Rattle.removed_vars.proofs.roots.put_in_many.Given as goal

abbrev pub invariant-merge : goal.invariant-merge
invariant-merge l =
    record {
      merged : put_in (λ root. root) (take l.root-index l.roots) ≡ Some l.lits;
      signs : TellsSigns l.signs l.lits;
    }
