use Rattle.std.proofs.Common.{◌≡◌, ◌++◌, string_bytes, take}
use Rattle.dimacs_text.specs.Texts.{counts_text}
use Rattle.dimacs_text.proofs.print.write_counts.Given as goal

abbrev pub invariant-loop-count : goal.invariant-loop-count
invariant-loop-count l = string_bytes l.text ≡ string_bytes l.initial.text ++ counts_text (take l.count-index l.counts)
