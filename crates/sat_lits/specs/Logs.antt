-- When a log of shared clauses is legal.
use Rattle.std.specs.Prelude.{◌≡◌, ℕ, ◌<◌, ◌≤◌, List, [], ◌∷◌, ◌++◌, All, AllPairs, map, take, length, slice_get, Some, true}
use Rattle.std.specs.List.{list_all}
use Rattle.sat_lits.specs.declared.literal.Lit.{Lit}
use Rattle.sat_lits.specs.declared.formula.Item.TheVariants.{Clause}
use Rattle.sat_lits.specs.declared.shared.Shared.{Shared}
use Rattle.sat_lits.specs.Meaning.{Problem, Follows}
use Rattle.sat_lits.specs.Formulas.{Extends, names_known}

-- one or two literals of different variables below the number, in rising order
pub record IsShareable (vars : ℕ) (lits : List Lit) : Type 0 where
  pub some : 0 < length lits
  pub few : length lits ≤ 2
  pub there : All (λ l. l.var.0 < vars) lits
  pub rising : AllPairs (λ l m. l.var.0 < m.var.0) lits

-- the formula with the clauses of these entries added
abbrev pub with_clauses : Problem → List Shared → Problem
with_clauses f entries = record { vars = f.vars; items = f.items ++ map (λ e. Clause e.clause) entries }

-- at this place an entry may stand: its clause follows from the formula with the clauses of the entries that it names, all of them earlier
pub record IsLegalAt (f : Problem) (log : List Shared) (place : ℕ) (entry : Shared) : Type 0 where
  pub earlier : entry.after ≤ place
  pub follows : Follows (with_clauses f (take entry.after log)) entry.clause
  pub shareable : IsShareable f.vars entry.clause

-- each entry may stand where it stands, and no clause stands twice
pub record IsLegalLog (f : Problem) (log : List Shared) : Type 0 where
  pub each : (place : ℕ) (entry : Shared) → slice_get log place ≡ Some entry → IsLegalAt f log place entry
  pub once : AllPairs (λ d e. d.clause ≡ e.clause → ⊥) log

-- each clause of a log that is legal for a formula follows from the formula alone
abbrev pub EachFollows : Type 0
EachFollows = (f : Problem) (log : List Shared) → IsLegalLog f log → (place : ℕ) (entry : Shared) → slice_get log place ≡ Some entry → Follows f entry.clause

-- a legal log stays legal when the formula, whose items name its own variables alone, gets more items and variables
abbrev pub StaysLegal : Type 0
StaysLegal = (old new : Problem) (log : List Shared) → list_all (names_known old.vars) old.items ≡ true → Extends old new → IsLegalLog old log → IsLegalLog new log

-- a front of a legal log is legal
abbrev pub FrontIsLegal : Type 0
FrontIsLegal = (f : Problem) (log : List Shared) (count : ℕ) → IsLegalLog f log → IsLegalLog f (take count log)

-- a legal log stays legal with an entry at its end that may stand there and whose clause is new
abbrev pub PushIsLegal : Type 0
PushIsLegal = (f : Problem) (log : List Shared) (entry : Shared) → IsLegalLog f log → IsLegalAt f log (length log) entry → All (λ e. e.clause ≡ entry.clause → ⊥) log → IsLegalLog f (log ++ entry ∷ [])
