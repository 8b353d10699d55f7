-- What contracts see of marks.
use Rattle.std.specs.Prelude.{◌≡◌, ◌≤◌, ◌⊎◌, ℕ, ◌==◌, nat_le, Bool, true, false, ◌||◌, List, [], ◌∷◌, ◌++◌, Option, Some, None, unwrap_or}
use Rattle.std.specs.List.{list_any, list_all}
use Rattle.sat_lits.specs.declared.literal.Inner.{Inner}
use Rattle.sat_lits.specs.declared.literal.InLit.{InLit}
use Rattle.trail.specs.declared.trail.Step.{Step}
use Rattle.trail.specs.Trail.{level_in}

-- the marked variables, and the number below which variables may be marked
pub record Marking : Type 0 where
  pub vars : List Inner
  pub room : ℕ

-- whether a variable is marked
abbrev pub is_marked : Marking → ℕ → Bool
is_marked marks v = list_any (λ w. w.0 == v) marks.vars

-- no variable is marked, and those below a number may be
pub record IsFresh (variables : ℕ) (marks : Marking) : Type 0 where
  pub none : marks.vars ≡ []
  pub enough : variables ≤ marks.room

-- the level of a variable, or 0 where it is unset
abbrev pub level_or : List Step → ℕ → ℕ
level_or steps v = unwrap_or (level_in steps v) 0

-- whether a variable is of level 0, or unset
abbrev pub is_root : List Step → ℕ → Bool
is_root steps v = level_or steps v == 0

-- a variable that was not marked and is of a level above 0 is marked now, and its level told
abbrev pub MarksNew : List Step → Inner → Marking → Marking → Option ℕ → Type 0
MarksNew steps var old new None = (new ≡ old) × ((is_marked old var.0 || is_root steps var.0) ≡ true)
MarksNew steps var old new (Some level) = (new ≡ record old { vars = old.vars ++ var ∷ [] }) × (is_marked old var.0 ≡ false) × (level_in steps var.0 ≡ Some level) × (is_root steps var.0 ≡ false)

-- the greatest level of some literals, or 0 where there are none
pub record IsGreatest (steps : List Step) (lits : List InLit) (greatest : ℕ) : Type 0 where
  pub each : list_all (λ l. nat_le (level_or steps l.var.0) greatest) lits ≡ true
  pub attained : (greatest ≡ 0) ⊎ (list_any (λ l. level_or steps l.var.0 == greatest) lits ≡ true)
