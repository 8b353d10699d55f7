use Rattle.std.proofs.Common.{slice_index_or}
use Rattle.removed_vars.specs.Restoring.{active_in}
use Rattle.removed_vars.specs.LeavingLaws.{forgot_more}
use Rattle.removed_vars.specs.declared.removed.Status.TheVariants.{Kept}
use Rattle.removed_vars.proofs.removed.forget_all.Goals as goal

pub each-preserved : goal.each-preserved
each-preserved c = λ k. forgot_more (active_in c.args.maps.now) c.args.entries.now c.each.entry-index c.entry-item.result k (slice_index_or c.args.statuses.now k Kept) (slice_index_or c.each.statuses k Kept) (slice_index_or c.forget.new.statuses k Kept)
    c.entry-item.is c.each-test.true (c.each.invariant k) (c.forget.ensures k)
