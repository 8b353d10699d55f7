-- What the fields of a formula mean, and what they keep.
use Rattle.std.specs.Prelude.{◌≡◌}
use Rattle.sat_lits.specs.Formulas.{Bounded, IsWithinLimits, lit_count}
use Rattle.sat_lits.specs.declared.formula.Formula.TheInside.{Inside}

abbrev pub value_of_formula : Inside → Bounded
value_of_formula f = record { problem = record { vars = f.vars; items = f.items.items }; limits = f.limits }

pub record IsKept (f : Inside) : Type 0 where
  pub counted : f.lits ≡ lit_count f.items.items
  pub within : IsWithinLimits (value_of_formula f)
