use Rattle.std.proofs.Common.{◌≡◌, ℕ, take, slice_index_or}
use Rattle.removed_vars.specs.Restoring.{active_in}
use Rattle.removed_vars.specs.Statuses.{status_without}
use Rattle.removed_vars.specs.declared.removed.Status.TheVariants.{Kept}
use Rattle.removed_vars.proofs.removed.forget_all.Given as goal

abbrev pub invariant-each : goal.invariant-each
invariant-each l = (k : ℕ) → slice_index_or l.statuses k Kept ≡ status_without (active_in l.maps) k (take l.entry-index l.entries) (slice_index_or l.fn.statuses k Kept)
