use Rattle.std.proofs.Common.{◌≡◌, ℕ, take}
use Rattle.parity_forms.specs.Marks.{is_marked, is_odd_in}
use Rattle.parity_forms.proofs.odd.marks_of.Given as goal

abbrev pub invariant-each : goal.invariant-each
invariant-each l = (n : ℕ) → is_marked l.marks n ≡ is_odd_in (take l.number-index l.numbers) n
