use Rattle.std.proofs.Common.{◌≡◌, ◌++◌, drop}
use Rattle.parity_forms.specs.Marks.{is_marked}
use Rattle.parity_forms.specs.Parities.{odd_numbers}
use Rattle.parity_forms.specs.OddLaws.{marked}
use Rattle.parity_forms.proofs.odd.odd_numbers.Given as goal

abbrev pub invariant-each : goal.invariant-each
invariant-each l = l.odd ++ marked (is_marked l.marks) (drop l.number-index l.numbers) ≡ odd_numbers l.numbers
