use Rattle.std.proofs.Common.{◌≡◌, ◌++◌, take, drop, map}
use Rattle.sat_lits.specs.Meaning.{negated}
use Rattle.sat_lits.proofs.list.List+Lit.negate.Given as goal

abbrev pub invariant-loop-lit : goal.invariant-loop-lit
invariant-loop-lit l = l.lit-items ≡ map negated (take l.lit-index l.initial.lit-items) ++ drop l.lit-index l.initial.lit-items
