-- Clauses that are to be stored, and what a walk over a store collects.
use Rattle.std.specs.Prelude.{◌≡◌, ℕ, Bool, true, false, List, map}
use Rattle.std.specs.List.{list_all}
use Rattle.sat_lits.specs.InLits.{is_distinct}
use Rattle.sat_lits.specs.declared.literal.OwnLit.{OwnLit}
use Rattle.sat_lits.specs.declared.literal.InLit.{InLit}
use Rattle.rebuild_stack.specs.declared.entry.Root.{Root}
use Rattle.clause_store.specs.Store.{Held}
use Rattle.var_maps.specs.Maps.{Maps}
use Rattle.state_laws.specs.Held.{InClause, Collected, numbers, in_own, hard_clause}
use Rattle.removed_vars.specs.declared.changes.Fresh.{Fresh}
use Rattle.removed_vars.specs.declared.changes.Changes.{Changes}

-- stored clauses, in order
abbrev pub Listed : Type 0
Listed = List Held

-- the clause as the laws on stored clauses see it
abbrev pub in_clause : Fresh → InClause
in_clause f = record { learned = f.learned; lits = f.lits }

-- all of them
abbrev pub in_clauses : List Fresh → List InClause
in_clauses fs = map in_clause fs

-- a hard clause with these literals
abbrev pub hard_in : List InLit → InClause
hard_in lits = record { learned = false; lits = lits }

-- no literal stands twice in a clause
abbrev pub are_distinct : List Fresh → Bool
are_distinct fs = list_all (λ f. is_distinct f.lits) fs

-- the ids of the clauses that hold the variable, and what they become, in which no literal stands twice
pub record Collects (m : Maps) (r : OwnLit → Root) (v : ℕ) (held : List Held) (to : Changes) : Type 0 where
  pub collected : Collected m r v held (numbers to.doomed.items) (in_clauses to.fresh.items)
  pub distinct : are_distinct to.fresh.items ≡ true

-- what is to be stored are these clauses, all hard, and no literal stands twice in one
pub record Stores (m : Maps) (fresh : List Fresh) (cs : List (List OwnLit)) : Type 0 where
  pub become : map (in_own m) (in_clauses fresh) ≡ map hard_clause cs
  pub distinct : are_distinct fresh ≡ true
