use Rattle.std.proofs.Common.{◌∙◌, ◌++◌, ap, arith, string_bytes, not, get_or, false}
use Rattle.dimacs_text.specs.Texts.{literal_text}
use Rattle.dimacs_text.proofs.Printed.{values_text-more}
use Rattle.dimacs_text.proofs.print.write_values.Goals as goal

pub loop-var-preserved : goal.loop-var-preserved
loop-var-preserved c =
    c.in_ok-write_literal.ensures ∙ (ap (λ t. t ++ literal_text (not (get_or c.args.values.now c.loop-var.var false)) c.loop-var.var) c.loop-var.invariant ∙ values_text-more (string_bytes c.args.text.now) c.args.values.now c.loop-var.var (omega arith))
