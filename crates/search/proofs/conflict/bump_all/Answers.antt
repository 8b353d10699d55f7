use Rattle.std.proofs.Common.{get_or, ap, ◌∙◌, List, Option}
use Rattle.sat_lits.specs.ListLaws.{all_at}
use Rattle.sat_lits.specs.declared.literal.Inner.{Inner}
use Rattle.pick_order.specs.declared.preference.Preference.{Preference}
use Rattle.search.specs.Ordering.{is_ordered}
use Rattle.search.proofs.Orders.{bumped_same}
use Rattle.search.proofs.conflict.bump_all.Goals as goal

pub bump-requires : goal.bump-requires
bump-requires c =
    c.loop-var.invariant.same (get_or c.args.vars.now c.loop-var.var-index (record { 0 = 0 })).0
    ∙ all_at (λ (v : Inner). is_ordered c.args.order.now.known v.0) c.args.vars.now c.loop-var.var-index (record { 0 = 0 }) c.loop-var-test.true c.requires

pub loop-var-preserved : goal.loop-var-preserved
loop-var-preserved c =
    record {
      same = λ v. ap (λ (known : List (Option Preference)). is_ordered known v) c.bump.ensures.known
          ∙ (bumped_same (get_or c.args.vars.now c.loop-var.var-index (record { 0 = 0 })).0 c.loop-var.order.increment c.loop-var.order.known v ∙ c.loop-var.invariant.same v);
      passed = λ v. c.bump.ensures.passed v ∙ c.loop-var.invariant.passed v;
    }
