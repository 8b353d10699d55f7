use Rattle.std.proofs.Common.{◌++◌, ap, ◌∙◌, option_to_list}
use Rattle.sat_lits.specs.Truth.{signed}
use Rattle.rebuild_stack.specs.declared.entry.Root.{Root}
use Rattle.parity_forms.specs.Parities.{left_number, turns}
use Rattle.parity_forms.specs.InMaps.{outer_root}
use Rattle.parity_forms.specs.ParityRootLaws.{left_more, rhs_more}
use Rattle.parity_forms.proofs.parity.put_roots.Goals as goal

pub each-preserved : goal.each-preserved
each-preserved c =
    record {
      numbers = left_more (outer_root c.args.maps.now c.args.removed.now.entries) c.args.numbers.now c.each.number-index 0 c.each.left.numbers c.put_root.new.left.numbers c.each-test.true
          ((c.in_ok-put_root.ensures {u = tt}).numbers ∙ ap (λ (r : Root). c.each.left.numbers ++ option_to_list (left_number r)) c.outer_root.ensures) c.each.invariant.numbers;
      rhs = rhs_more (outer_root c.args.maps.now c.args.removed.now.entries) c.args.numbers.now c.each.number-index 0 c.args.rhs c.each.left.rhs c.put_root.new.left.rhs c.each-test.true
          ((c.in_ok-put_root.ensures {u = tt}).rhs ∙ ap (λ (r : Root). signed (turns r) c.each.left.rhs) c.outer_root.ensures) c.each.invariant.rhs;
    }
