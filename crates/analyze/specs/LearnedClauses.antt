-- What a learned clause is.
use Rattle.std.specs.Prelude.{◌≡◌, ◌<◌, ◌⊎◌, ℕ, ◌==◌, Bool, true, false, not, ◌&&◌, List, [], ◌∷◌}
use Rattle.std.specs.List.{list_any, list_all}
use Rattle.sat_lits.specs.Truth.{clause_value}
use Rattle.sat_lits.specs.declared.literal.InLit.{InLit}
use Rattle.trail.specs.declared.trail.Step.{Step}
use Rattle.trail.specs.Trail.{level_of}
use Rattle.clause_store.specs.Store.{Held}
use Rattle.propagate.specs.Units.{unit_by}
use Rattle.propagate.specs.Reasons.{lit_value, held_value}
use Rattle.analyze.specs.Falsity.{false_at, false_by}

-- a clause follows from clauses, for every valuation
abbrev pub ClauseFollows : List Held → List InLit → Type 0
ClauseFollows held lits = (values : ℕ → Bool) → held_value values held ≡ true → clause_value (lit_value values) lits ≡ true

-- whether no variable stands twice
abbrev pub has_each_once : List InLit → Bool
has_each_once [] = true
has_each_once (l ∷ ls) = not (list_any (λ k. l.var.0 == k.var.0) ls) && has_each_once ls

-- a clause that follows and is false: its first literal by the present level, and the others by levels up to `back`, the greatest of theirs, or 0 where there is no other
pub record IsLearned (held : List Held) (steps : List Step) (lits : List InLit) (back : ℕ) : Type 0 where
  pub first : InLit
  pub others : List InLit
  pub parts : lits ≡ first ∷ others
  pub follows : ClauseFollows held lits
  pub first_false : false_at steps (level_of steps) first ≡ true
  pub others_false : list_all (false_by steps back) others ≡ true
  pub below : back < level_of steps
  pub attained : (back ≡ 0) ⊎ (list_any (false_at steps back) others ≡ true)
  pub once : has_each_once lits ≡ true

-- whether a clause is unit by its first literal
abbrev pub unit_by_first : List Step → List InLit → Bool
unit_by_first steps [] = false
unit_by_first steps (l ∷ ls) = unit_by steps l (l ∷ ls)
