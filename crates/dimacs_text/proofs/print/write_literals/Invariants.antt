use Rattle.std.proofs.Common.{◌≡◌, ◌++◌, string_bytes, take}
use Rattle.dimacs_text.specs.Texts.{literals_text}
use Rattle.dimacs_text.proofs.print.write_literals.Given as goal

abbrev pub invariant-loop-lit : goal.invariant-loop-lit
invariant-loop-lit l = string_bytes l.text ≡ string_bytes l.initial.text ++ literals_text (take l.lit-index l.lits)
