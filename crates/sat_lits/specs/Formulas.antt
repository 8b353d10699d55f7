-- What contracts see of a formula, and what its limits ask.
use Rattle.std.specs.Prelude.{◌≡◌, ℕ, ◌+◌, ◌≤◌, Bool, true, List, [], ◌∷◌, ◌++◌, length, map, sum_by, find, nat_lt, nat_le}
use Rattle.std.specs.declared.option.Option.{Option}
use Rattle.std.specs.List.{list_all}
use Rattle.sat_lits.specs.Limits.{LimitNumbers, IsWithinStandard}
use Rattle.sat_lits.specs.Meaning.{Problem}
use Rattle.sat_lits.specs.declared.formula.Item.{Item}
use Rattle.sat_lits.specs.declared.formula.Item.TheVariants.{Clause, Parity}

-- a formula within limits
pub record Bounded : Type 0 where
  pub problem : Problem
  pub limits : LimitNumbers

-- the formula with this many variables more
abbrev pub with_vars : ℕ → Problem → Problem
with_vars more f = record { vars = f.vars + more; items = f.items }

-- the formula with one item more, at its end
abbrev pub with_item : Item → Problem → Problem
with_item item f = record { vars = f.vars; items = f.items ++ item ∷ [] }

-- the numbers of the variables that an item names, as they stand
abbrev pub numbers_of : Item → List ℕ
numbers_of (Clause lits) = map (λ l. l.var.0) lits
numbers_of (Parity vars rhs) = map (λ v. v.0) vars

-- the first number that is no variable's
abbrev pub first_unknown : ℕ → List ℕ → Option ℕ
first_unknown vars numbers = find (nat_le vars) numbers

-- whether an item names variables that are there, and no others
abbrev pub names_known : ℕ → Item → Bool
names_known vars item = list_all (λ n. nat_lt n vars) (numbers_of item)

-- the number of literals; each variable of a parity counts as one
abbrev pub lit_count : List Item → ℕ
lit_count items = sum_by (λ item. length (numbers_of item)) items

-- the formula without variables and items
abbrev pub no_problem : Problem
no_problem = record { vars = 0; items = [] }

-- its numbers are within its limits, these are within the standard ones, and its items name its variables alone
pub record IsWithinLimits (f : Bounded) : Type 0 where
  pub few_vars : f.problem.vars ≤ f.limits.vars
  pub few_lits : lit_count f.problem.items ≤ f.limits.lits
  pub known : list_all (names_known f.problem.vars) f.problem.items ≡ true
  pub standard : IsWithinStandard f.limits

-- the new formula has the old one's items first, and no fewer variables
pub record Extends (old new : Problem) : Type 0 where
  pub vars : old.vars ≤ new.vars
  pub more : List Item
  pub items : new.items ≡ old.items ++ more
