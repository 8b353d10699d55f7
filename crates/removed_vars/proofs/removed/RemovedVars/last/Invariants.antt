use Rattle.std.proofs.Common.{◌≡◌}
use Rattle.rebuild_stack.specs.Roots.{root}
use Rattle.state_laws.specs.RootTableLaws.{depth}
use Rattle.removed_vars.specs.Removed.{last_lit}
use Rattle.removed_vars.proofs.removed.RemovedVars.last.Given as goal

abbrev pub invariant-follow : goal.invariant-follow
invariant-follow l =
    record {
      last : last_lit l.self.entries l.last ≡ last_lit l.self.entries l.fn.lit;
      root : root l.self.entries l.last ≡ root l.self.entries l.fn.lit;
    }

abbrev pub decreases-follow : goal.decreases-follow
decreases-follow l = depth l.last.var.0 l.self.entries
