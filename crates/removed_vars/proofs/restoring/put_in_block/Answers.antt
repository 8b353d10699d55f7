use Rattle.std.proofs.Common.{◌∙◌, ◌++◌, ◌∷◌, [], ap, sym}
use Rattle.rebuild_stack.specs.Roots.{root}
use Rattle.rebuild_stack.specs.PutIn.{put_in_all}
use Rattle.removed_vars.specs.Restoring.{left_by}
use Rattle.removed_vars.specs.RestoringLaws.{put_more}
use Rattle.removed_vars.proofs.restoring.put_in_block.Goals as goal

pub each-preserved : goal.each-preserved
each-preserved c =
    c.in_ok-add_put_in.ensures
    ∙ (ap (λ z. z ++ put_in_all (root (left_by c.args.maps.now c.args.removed.now.entries)) (c.get.result.now ∷ [])) c.each.invariant
    ∙ sym (put_more (root (left_by c.args.maps.now c.args.removed.now.entries)) c.args.block.now c.each.at c.get.result.now c.get.ensures))
