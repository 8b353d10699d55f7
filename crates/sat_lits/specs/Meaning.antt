-- What clauses, parities and formulas mean.
use Rattle.std.specs.Prelude.{◌≡◌, ℕ, ◌%◌, ◌==◌, Bool, true, false, not, List, slice_index_or, length, count_by}
use Rattle.std.specs.Bool.{beq}
use Rattle.std.specs.List.{list_all}
use Rattle.sat_lits.specs.Truth.{signed, clause_value}
use Rattle.sat_lits.specs.declared.literal.Lit.{Lit}
use Rattle.sat_lits.specs.declared.literal.Var.{Var}
use Rattle.sat_lits.specs.declared.formula.Item.{Item}
use Rattle.sat_lits.specs.declared.formula.Item.TheVariants.{Clause, Parity}

-- the value of a variable in an assignment, which is a list of truth values
abbrev pub value_of : List Bool → Var → Bool
value_of values v = slice_index_or values v.0 false

-- a positive literal has its variable's value, a negative one the opposite
abbrev pub is_true : List Bool → Lit → Bool
is_true values l = signed l.negative (value_of values l.var)

-- the literal that is true where this one is false
abbrev pub negated : Lit → Lit
negated l = record { var = l.var; negative = not l.negative }

-- whether the number of true variables is odd, where each counts as often as it stands
abbrev pub is_odd : List Bool → List Var → Bool
is_odd values vars = count_by (value_of values) vars % 2 == 1

abbrev pub satisfies_clause : List Bool → List Lit → Bool
satisfies_clause values lits = clause_value (is_true values) lits

-- a clause is satisfied where one of its literals is true, a parity where its count is odd exactly if `rhs`
abbrev pub satisfies : List Bool → Item → Bool
satisfies values (Clause lits) = satisfies_clause values lits
satisfies values (Parity vars rhs) = beq (is_odd values vars) rhs

-- a formula, as meanings see it
pub record Problem : Type 0 where
  pub vars : ℕ
  pub items : List Item

-- an assignment for the formula's variables that satisfies every item
pub record IsModel (f : Problem) (values : List Bool) : Type 0 where
  pub whole : length values ≡ f.vars
  pub holds : list_all (satisfies values) f.items ≡ true

-- every model of the formula satisfies the clause
abbrev pub Follows : Problem → List Lit → Type 0
Follows f lits = (values : List Bool) → IsModel f values → satisfies_clause values lits ≡ true
