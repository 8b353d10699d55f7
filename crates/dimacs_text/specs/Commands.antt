-- What commands add to a formula, and what they name.
use Rattle.std.specs.Prelude.{ℕ, suc, ◌≤◌, max, List, [], ◌∷◌, length, map, sum_by}
use Rattle.sat_lits.specs.Limits.{LimitNumbers}
use Rattle.sat_lits.specs.declared.formula.Item.{Item}
use Rattle.sat_lits.specs.declared.formula.Item.TheVariants.{Clause as ClauseItem, Parity as ParityItem}
use Rattle.dimacs_text.specs.declared.command.Command.{Command}
use Rattle.dimacs_text.specs.declared.command.Command.TheVariants.{Clause, Parity, Grow, Solve}

-- what a command adds to a formula: an item, or nothing
abbrev pub items_of : Command → List Item
items_of (Clause lits) = ClauseItem lits ∷ []
items_of (Parity vars rhs) = ParityItem vars rhs ∷ []
items_of (Grow to) = []
items_of (Solve lits) = []

-- the greatest of some numbers, 0 where there is none
abbrev pub greatest : List ℕ → ℕ
greatest [] = 0
greatest (n ∷ ns) = max n (greatest ns)

-- the number of variables that a command names: as many as the greatest of them asks for
abbrev pub named_by : Command → ℕ
named_by (Clause lits) = greatest (map (λ l. suc l.var.0) lits)
named_by (Parity vars rhs) = greatest (map (λ v. suc v.0) vars)
named_by (Grow to) = to
named_by (Solve lits) = greatest (map (λ l. suc l.var.0) lits)

-- the number of literals in a command; each variable of a parity counts as one
abbrev pub literals_in : Command → ℕ
literals_in (Clause lits) = length lits
literals_in (Parity vars rhs) = length vars
literals_in (Grow to) = 0
literals_in (Solve lits) = length lits

-- the variables that the commands name and their number of literals are within the limits
pub record AreWithin (limits : LimitNumbers) (commands : List Command) : Type 0 where
  pub named : greatest (map named_by commands) ≤ limits.vars
  pub few : sum_by literals_in commands ≤ limits.lits
