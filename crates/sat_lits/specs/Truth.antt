-- Clauses over any kind of literal. A truth is a function from literals to their values.
use Rattle.std.specs.Prelude.{ℕ, ◌==◌, Bool, not, cond, List}
use Rattle.std.specs.List.{list_any, list_all}

-- a negative literal has the opposite of its variable's value
abbrev pub signed : Bool → Bool → Bool
signed negative value = cond negative (not value) value

-- a clause is true where one of its literals is, so the empty clause is false
abbrev pub clause_value : {L : Type 0} → (L → Bool) → List L → Bool
clause_value truth lits = list_any truth lits

-- whether every clause is true
abbrev pub clauses_value : {L : Type 0} → (L → Bool) → List (List L) → Bool
clauses_value truth clauses = list_all (clause_value truth) clauses

-- the valuation that differs at one variable, which has this value there
abbrev pub with_value : (ℕ → Bool) → ℕ → Bool → ℕ → Bool
with_value w var value n = cond (n == var) value (w n)
