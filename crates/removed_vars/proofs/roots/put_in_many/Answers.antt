use Rattle.std.proofs.Common.{◌∙◌, ap, Bool, false, Some, None, if◌then◌else◌}
use Rattle.rebuild_stack.specs.declared.entry.Root.TheVariants.{Known}
use Rattle.removed_vars.specs.PuttingLaws.{put_in_more, put_in_stuck}
use Rattle.removed_vars.proofs.roots.put_in_many.Goals as goal

pub returns-then-not-open : goal.returns-then-not-open
returns-then-not-open c =
    put_in_stuck c.args.roots.now c.merge.root-index (Known false) c.merge.lits c.merge-test.true c.merge.invariant.merged
    (c.in_ok-open.ensures.value ∙ ap (λ (b : Bool). if b then Some c.add_root.new.lits else None) c.if-not-open.true)

pub merge-preserved : goal.merge-preserved
merge-preserved c =
    record {
      merged = put_in_more c.args.roots.now c.merge.root-index (Known false) c.merge.lits c.merge-test.true c.merge.invariant.merged
          ∙ (c.in_ok-open.ensures.value ∙ ap (λ (b : Bool). if b then Some c.add_root.new.lits else None) c.if-not-open.false);
      signs = c.in_ok-open.ensures.signs c.if-not-open.false;
    }
