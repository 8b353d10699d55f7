use Rattle.std.proofs.Common.{◌==◌, ℕ, List, sym, ap, ◌∙◌, take, get_or}
use Rattle.sat_lits.specs.Truth.{signed}
use Rattle.parity_forms.specs.Marks.{is_odd_in}
use Rattle.removed_vars.specs.CollectLaws.{taken_at}
use Rattle.parity_forms.specs.OddLaws.{odd_in-push}
use Rattle.parity_forms.proofs.odd.marks_of.Goals as goal

pub each-preserved : goal.each-preserved
each-preserved c =
    λ n. c.in_ok-toggle.ensures {u = tt} n
    ∙ (ap (signed (get_or c.args.numbers.now c.each.number-index 0 == n)) (c.each.invariant n)
    ∙ (sym (odd_in-push (take c.each.number-index c.args.numbers.now) (get_or c.args.numbers.now c.each.number-index 0) n)
    ∙ ap (λ (z : List ℕ). is_odd_in z n) (sym (taken_at c.args.numbers.now c.each.number-index 0 c.each-test.true))))
