-- What a log of shared clauses has, and what every store keeps of it.
use Rattle.std.specs.Prelude.{◌≡◌, ℕ, ◌<◌, ◌≤◌, List, ◌++◌, All, Any, AllPairs, length, slice_get, Some}
use Rattle.sat_lits.specs.declared.literal.Lit.{Lit}
use Rattle.sat_lits.specs.declared.shared.Shared.{Shared}

-- the entry of a clause, with the solver that gave it and the number of entries that it follows from
abbrev pub entry_of : ℕ → ℕ → List Lit → Shared
entry_of solver after clause = record { solver = solver; after = after; clause = clause }

-- one or two literals of different variables, in rising order
pub record CanBeShared (clause : List Lit) : Type 0 where
  pub some : 0 < length clause
  pub few : length clause ≤ 2
  pub rising : AllPairs (λ l m. l.var.0 < m.var.0) clause

-- some entry has the clause
abbrev pub HasClause : List Shared → List Lit → Type 0
HasClause log clause = Any (λ e. e.clause ≡ clause) log

-- no entry has the clause
abbrev pub LacksClause : List Shared → List Lit → Type 0
LacksClause log clause = All (λ e. e.clause ≡ clause → ⊥) log

-- what every store keeps: each clause has the form of a shared one and names earlier entries alone, and no clause stands twice
pub record IsKept (log : List Shared) : Type 0 where
  pub form : All (λ e. CanBeShared e.clause) log
  pub earlier : (place : ℕ) (entry : Shared) → slice_get log place ≡ Some entry → entry.after ≤ place
  pub once : AllPairs (λ d e. d.clause ≡ e.clause → ⊥) log

-- a log begins with another one
pub record StartsWith (log front : List Shared) : Type 0 where
  pub rest : List Shared
  pub is : log ≡ front ++ rest
