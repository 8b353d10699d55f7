use Rattle.std.proofs.Common.{◌≡◌, take, map}
use Rattle.sat_lits.specs.declared.literal.Lit.{Lit}
use Rattle.dimacs_text.specs.Lists.{right_side}
use Rattle.dimacs_text.proofs.state.parity_of.Given as goal

abbrev pub invariant-loop-lit : goal.invariant-loop-lit
invariant-loop-lit l = record {
  vars : l.vars ≡ map (λ (x : Lit). x.var) (take l.lit-index l.lits);
  rhs : l.rhs ≡ right_side (take l.lit-index l.lits);
}
