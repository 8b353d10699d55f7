use Rattle.std.proofs.Common.{◌∙◌, ap, sym, arith, false, not}
use Rattle.sat_lits.specs.declared.literal.Lit.{Lit}
use Rattle.dimacs_text.proofs.Parities.{right_side-flip, right_side-keep, vars-more}
use Rattle.dimacs_text.proofs.state.parity_of.Goals as goal
use Rattle.dimacs_text.proofs.state.parity_of.Goals.{then-lit, else-lit}

abbrev no_lit : Lit
no_lit = record { var = record { 0 = 0 }; negative = false }

pub loop-lit-preserved : goal.loop-lit-preserved
loop-lit-preserved c = record {
  vars = rw (vars-more c.args.lits.now c.loop-lit.lit-index no_lit (omega arith), ← c.loop-lit.invariant.vars) c.in_ok-push.ensures.ok;
  rhs = elim c.if-lit.branch [
    | then-lit w ↦ w.rhs-is ∙ (ap not c.loop-lit.invariant.rhs ∙ sym (right_side-flip c.args.lits.now c.loop-lit.lit-index no_lit (omega arith) w.if-lit.true))
    | else-lit w ↦ w.rhs-is ∙ (c.loop-lit.invariant.rhs ∙ sym (right_side-keep c.args.lits.now c.loop-lit.lit-index no_lit (omega arith) w.if-lit.false))
  ];
}
