-- The variables that an analysis met.
use Rattle.std.specs.Prelude.{◌==◌, Bool, List}
use Rattle.std.specs.List.{list_any, list_all}
use Rattle.sat_lits.specs.declared.literal.Inner.{Inner}
use Rattle.sat_lits.specs.declared.literal.InLit.{InLit}
use Rattle.trail.specs.declared.trail.Step.{Step}
use Rattle.trail.specs.Trail.{set_in}

-- whether a trail sets each of some variables
abbrev pub are_set : List Step → List Inner → Bool
are_set steps vars = list_all (λ v. set_in steps v.0) vars

-- whether the variable of each literal is among some variables
abbrev pub lits_met : List Inner → List InLit → Bool
lits_met vars lits = list_all (λ l. list_any (λ v. v.0 == l.var.0) vars) lits
