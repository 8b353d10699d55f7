use Rattle.std.proofs.Common.{◌++◌, ℕ, Bool, List, sym, ap, ap₂, ◌∙◌, drop, get_or, ◌+◌}
use Rattle.std.proofs.lemmas.List.{drop_more}
use Rattle.std.proofs.Math.Path.{fun_ext}
use Rattle.parity_forms.specs.Marks.{is_marked}
use Rattle.parity_forms.specs.OddLaws.{marked, marked_odd, marked_step}
use Rattle.parity_forms.proofs.odd.odd_numbers.Goals as goal

pub each-init : goal.each-init
each-init c =
    ap₂ {C = List ℕ} (λ (x : List ℕ) (f : ℕ → Bool). x ++ marked f c.args.numbers.now) c.new-odd.ensures (fun_ext (c.in_ok-marks.ensures {u = tt})) ∙ marked_odd c.args.numbers.now

pub each-preserved : goal.each-preserved
each-preserved c =
    let x : ℕ = get_or c.args.numbers.now c.each.number-index 0 in
    marked_step (is_marked c.each.marks) (is_marked c.take_marked.new.marks) c.each.odd c.take_marked.new.to x (drop (c.each.number-index + 1) c.args.numbers.now) _
    (c.in_ok-take_marked.ensures {u = tt}).to (c.in_ok-take_marked.ensures {u = tt}).marks
    (ap (λ (z : List ℕ). c.each.odd ++ marked (is_marked c.each.marks) z) (sym (drop_more c.args.numbers.now c.each.number-index 0 c.each-test.true)) ∙ c.each.invariant)
