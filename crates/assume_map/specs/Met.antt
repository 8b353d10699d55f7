-- Literals that were met.
use Rattle.std.specs.Prelude.{◌≡◌, Bool, ◌||◌, ◌&&◌, ◌==◌, cond, nat_eq}
use Rattle.std.specs.Bool.{beq}
use Rattle.std.specs.HashSet.{contains}
use Rattle.sat_lits.specs.declared.literal.Lit.{Lit}
use Rattle.assume_map.specs.declared.failed.Met.{Met}

-- whether a literal was met
abbrev pub has_met : Met → Lit → Bool
has_met met l = cond l.negative (contains nat_eq met.negative l.var.0) (contains nat_eq met.positive l.var.0)

-- whether two literals are one
abbrev pub same_outer : Lit → Lit → Bool
same_outer k l = (k.var.0 == l.var.0) && beq k.negative l.negative

-- one more was met
pub record HasMet (old new : Met) (l : Lit) : Type 0 where
  pub each : (k : Lit) → has_met new k ≡ (same_outer k l || has_met old k)
