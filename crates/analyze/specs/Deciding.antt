-- The walk back over a trail from a false literal to decisions.
use Rattle.std.specs.Prelude.{◌≡◌, ◌≤◌, ℕ, ◌==◌, nat_lt, Bool, true, ◌&&◌, ◌||◌, List, [], ◌∷◌, length}
use Rattle.std.specs.List.{list_any, list_all}
use Rattle.sat_lits.specs.declared.literal.InLit.{InLit}
use Rattle.trail.specs.declared.trail.Step.{Step}
use Rattle.trail.specs.Trail.{Assignment, IsKept, level_of}
use Rattle.clause_store.specs.Store.{Held}
use Rattle.propagate.specs.Reasons.{lit_value, held_value}
use Rattle.analyze.specs.FinalSets.{decisions_value, has_decision}
use Rattle.analyze.specs.Marking.{Marking, is_marked, is_root}
use Rattle.analyze.specs.Walks.{denied, rest_of}

-- whether a level is one of a list
abbrev pub is_named : List ℕ → ℕ → Bool
is_named levels level = list_any (λ named. named == level) levels

-- where all clauses, the decisions at these levels and the literal are true, a marked literal of the steps is false
abbrev pub DeniesWith : List Held → List Step → (ℕ → Bool) → InLit → (ℕ → Bool) → List Step → Type 0
DeniesWith held steps named l seen rest = (values : ℕ → Bool) → held_value values held ≡ true → decisions_value values named steps ≡ true → lit_value values l ≡ true → denied seen values rest ≡ true

-- whether each number is greater than those after it
abbrev pub falls : List ℕ → Bool
falls [] = true
falls (n ∷ ns) = list_all (λ m. nat_lt m n) ns && falls ns

-- between two literals of the walk
pub record AtDecisions (held : List Held) (trail : Assignment) (l : InLit) (marks : Marking) (left : ℕ) (levels : List ℕ) : Type 0 where
  pub kept : IsKept trail
  pub room : trail.reserved ≤ marks.room
  pub inside : left ≤ length trail.steps
  pub denies : DeniesWith held trail.steps (is_named levels) l (is_marked marks) (rest_of left trail.steps)
  pub decisions : list_all (has_decision trail.steps) levels ≡ true
  pub above : list_all (λ level. nat_lt (level_of (rest_of left trail.steps)) level) levels ≡ true
  pub falling : falls levels ≡ true

-- the literals of a clause that are false in some steps are marked now, those of level 0 aside
pub record Covers (trail : Assignment) (lits : List InLit) (old new : Marking) : Type 0 where
  pub room : trail.reserved ≤ new.room
  pub grows : (v : ℕ) → is_marked old v ≡ true → is_marked new v ≡ true
  pub all_settled : list_all (λ k. is_marked new k.var.0 || is_root trail.steps k.var.0) lits ≡ true
