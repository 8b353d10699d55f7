use Rattle.std.proofs.Common.{◌≡◌, ◌++◌, string_bytes, take}
use Rattle.dimacs_text.specs.Texts.{values_text}
use Rattle.dimacs_text.proofs.print.write_values.Given as goal

abbrev pub invariant-loop-var : goal.invariant-loop-var
invariant-loop-var l = string_bytes l.text ≡ string_bytes l.initial.text ++ values_text (take l.var l.values)
