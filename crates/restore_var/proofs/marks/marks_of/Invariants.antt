use Rattle.std.proofs.Common.{◌≡◌, ℕ, take}
use Rattle.restore_var.specs.Marks.{is_marked}
use Rattle.restore_var.specs.Needs.{is_among}
use Rattle.restore_var.proofs.marks.marks_of.Given as goal

abbrev pub invariant-each : goal.invariant-each
invariant-each l = (n : ℕ) → is_marked l.marks n ≡ is_among (take l.var-index l.vars) n
