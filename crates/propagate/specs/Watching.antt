-- What contracts see of watches.
use Rattle.std.specs.Prelude.{◌≡◌, ℕ, ◌==◌, nat_lt, Bool, true, List, take, length, find, Option, option_map, is_some}
use Rattle.std.specs.List.{list_all}
use Rattle.sat_lits.specs.declared.literal.InLit.{InLit}
use Rattle.trail.specs.declared.trail.Step.{Step}
use Rattle.clause_store.specs.Store.{Held, clause_at, is_live}
use Rattle.propagate.specs.declared.watches.Taken.{Taken}
use Rattle.propagate.specs.declared.watches.Found.{Found}
use Rattle.propagate.specs.declared.watches.Found.TheVariants.{Quiet, Conflict}
use Rattle.propagate.specs.Units.{all_quiet, false_clause}
use Rattle.propagate.specs.Reasons.{names}

-- the clauses that were taken over, the literals that are done with, and a number above the variables of both
pub record Watching : Type 0 where
  pub taken : List Taken
  pub done : List InLit
  pub variables : ℕ

-- a clause as it is taken over
abbrev pub taken_as : Held → Taken
taken_as clause = record { id = record { 0 = clause.id }; lits = clause.lits }

-- the clause that was taken over under an id
abbrev pub taken_at : List Taken → ℕ → Option Taken
taken_at taken id = find (λ clause. clause.id.0 == id) taken

-- whether one was
abbrev pub is_taken : List Taken → ℕ → Bool
is_taken taken id = is_some (taken_at taken id)

-- every live clause was taken over, with its id and the literals that it has now
abbrev pub HasTakenOver : List Taken → List Held → Type 0
HasTakenOver taken held = (id : ℕ) → is_live held id ≡ true → option_map (λ clause. clause.lits) (taken_at taken id) ≡ option_map (λ clause. clause.lits) (clause_at held id)

-- whether the variables of literals are below a number
abbrev pub lits_below : ℕ → List InLit → Bool
lits_below n lits = list_all (λ l. nat_lt l.var.0 n) lits

-- whether those of all clauses are
abbrev pub clauses_below : ℕ → List Held → Bool
clauses_below n held = list_all (λ clause. lits_below n clause.lits) held

-- whether those of a trail are
abbrev pub steps_below : ℕ → List Step → Bool
steps_below n steps = list_all (λ s. nat_lt s.lit.var.0 n) steps

-- the first literals of a list
abbrev pub IsFront : List InLit → List InLit → Type 0
IsFront front lits = take (length front) lits ≡ front

-- whether an answer is right of the trail that was reached: every clause is quiet, or the one that is named is false
abbrev pub is_right : List Held → List Step → Found → Bool
is_right held steps Quiet = all_quiet steps held
is_right held steps (Conflict id) = names held id (false_clause steps)

-- what is done with after an answer: all literals of the trail, or after a conflict some first ones
abbrev pub IsDone : List InLit → List InLit → Found → Type 0
IsDone done lits Quiet = done ≡ lits
IsDone done lits (Conflict id) = IsFront done lits
