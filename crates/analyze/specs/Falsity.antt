-- By which level a literal is false. A list of steps stands newest first.
use Rattle.std.specs.Prelude.{ℕ, ◌==◌, nat_lt, nat_le, Bool, ◌&&◌, List}
use Rattle.std.specs.List.{list_any}
use Rattle.sat_lits.specs.InLits.{opposite}
use Rattle.sat_lits.specs.declared.literal.InLit.{InLit}
use Rattle.trail.specs.declared.trail.Step.{Step}
use Rattle.trail.specs.Trail.{level_of}

-- whether a literal is false by a step of a level
abbrev pub false_at : List Step → ℕ → InLit → Bool
false_at steps level l = list_any (λ s. opposite s.lit l && s.level == level) steps

-- whether it is false by a step of a level or one below it
abbrev pub false_by : List Step → ℕ → InLit → Bool
false_by steps level l = list_any (λ s. opposite s.lit l && nat_le s.level level) steps

-- whether it is false by a step below a level
abbrev pub false_under : List Step → ℕ → InLit → Bool
false_under steps level l = list_any (λ s. opposite s.lit l && nat_lt s.level level) steps

-- whether a clause holds a literal that is false at the present level
abbrev pub has_present : List Step → List InLit → Bool
has_present steps lits = list_any (false_at steps (level_of steps)) lits
