use Rattle.std.proofs.Common.{◌≡◌, take}
use Rattle.std.specs.List.{list_any}
use Rattle.sat_lits.specs.declared.literal.Lit.{Lit}
use Rattle.assume_map.specs.Failed.{AreFailedLits}
use Rattle.assume_map.specs.Met.{has_met, same_outer}
use Rattle.assume_map.proofs.failed.failed_lits.Given as goal

abbrev pub invariant-loop-position : goal.invariant-loop-position
invariant-loop-position l =
    record {
      failed : AreFailedLits l.assumptions (take l.position-index l.positions) l.failed;
      met : (k : Lit) → has_met l.met k ≡ list_any (same_outer k) l.failed;
    }
