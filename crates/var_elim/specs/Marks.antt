-- The literals of a clause, each by a number of its own.
use Rattle.std.specs.Prelude.{◌≡◌, ℕ, ◌+◌, ◌*◌, List, cond, nat_eq}
use Rattle.std.specs.declared.hash.FoldHasher.{FoldHasher}
use Rattle.std.specs.declared.hash.BuildHasherDefault.{BuildHasherDefault}
use Rattle.std.specs.HashSet.{HashSet, contains}
use Rattle.std.specs.List.{list_any}
use Rattle.sat_lits.specs.InLits.{same_lit}
use Rattle.sat_lits.specs.declared.literal.InLit.{InLit}

-- a set of numbers
abbrev pub Marks : Type 0
Marks = HashSet ℕ (BuildHasherDefault FoldHasher)

-- the number of a literal
abbrev pub code : InLit → ℕ
code l = 2 * l.var.0 + cond l.negative 1 0

-- the numbers are those of the clause's literals
pub record TellsLits (marks : Marks) (lits : List InLit) : Type 0 where
  pub each : (k : InLit) → list_any (same_lit k) lits ≡ contains nat_eq marks (code k)
