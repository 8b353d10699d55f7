use Rattle.std.proofs.Common.{arith}
use Rattle.sat_lits.specs.Laws.{with_vars-IsWithinLimits}
use Rattle.sat_lits.proofs.formula.Formula.grow.Goals as goal

pub invariant_of-self : goal.invariant_of-self
invariant_of-self c =
    record {
      counted = c.self.invariant.counted;
      within = with_vars-IsWithinLimits _ _ c.args.by c.self.invariant.within (omega arith);
    }
