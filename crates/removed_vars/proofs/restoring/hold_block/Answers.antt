use Rattle.std.proofs.Common.{◌∙◌, ap}
use Rattle.std.specs.List.{list_all}
use Rattle.rebuild_stack.specs.Roots.{root}
use Rattle.rebuild_stack.specs.PutIn.{is_clean}
use Rattle.rebuild_stack.specs.PutInLaws.{put_in_all_clean}
use Rattle.removed_vars.specs.Restoring.{left_by}
use Rattle.removed_vars.proofs.restoring.hold_block.Goals as goal

pub hold_all-requires-clause-clean : goal.hold_all-requires-clause-clean
hold_all-requires-clause-clean c = ap (list_all is_clean) (c.deref.ensures.value ∙ c.in_ok-clauses.ensures) ∙ put_in_all_clean (root (left_by c.args.maps.now c.args.removed.now.entries)) c.args.block.now
