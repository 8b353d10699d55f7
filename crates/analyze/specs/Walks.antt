-- The walk back over a trail from a conflict: what is marked, and what follows of it.
use Rattle.std.specs.Prelude.{◌≡◌, ◌<◌, ◌≤◌, ◌+◌, ◌-◌, ℕ, ◌==◌, Bool, true, not, ◌&&◌, ◌||◌, if◌then◌else◌, List, [], ◌∷◌, length, drop}
use Rattle.std.specs.List.{list_any, list_all}
use Rattle.sat_lits.specs.InLits.{opposite}
use Rattle.sat_lits.specs.declared.literal.InLit.{InLit}
use Rattle.trail.specs.declared.trail.Step.{Step}
use Rattle.trail.specs.Trail.{Assignment, IsKept, false_in, level_of}
use Rattle.clause_store.specs.Store.{Held}
use Rattle.propagate.specs.Reasons.{lit_value, held_value}
use Rattle.analyze.specs.declared.walk.Walk.{Walk}
use Rattle.analyze.specs.Falsity.{false_at, false_under}
use Rattle.analyze.specs.LearnedClauses.{ClauseFollows, has_each_once}
use Rattle.analyze.specs.Marking.{is_marked}
use Rattle.analyze.specs.Met.{are_set}

-- the oldest steps, so many as are left
abbrev pub rest_of : ℕ → List Step → List Step
rest_of left steps = drop (length steps - left) steps

-- whether a marked literal of some steps is false where variables have these values
abbrev pub denied : (ℕ → Bool) → (ℕ → Bool) → List Step → Bool
denied seen values steps = list_any (λ s. seen s.lit.var.0 && not (lit_value values s.lit)) steps

-- where all clauses are true, a marked literal of the steps is false
abbrev pub Denies : List Held → (ℕ → Bool) → List Step → Type 0
Denies held seen steps = (values : ℕ → Bool) → held_value values held ≡ true → denied seen values steps ≡ true

-- whether a literal is false by a step that is marked or of level 0
abbrev pub covered : (ℕ → Bool) → List Step → InLit → Bool
covered seen steps l = list_any (λ s. opposite s.lit l && (seen s.lit.var.0 || s.level == 0)) steps

-- how many literals of a level are marked
abbrev pub marked : ℕ → (ℕ → Bool) → List Step → ℕ
marked level seen [] = 0
marked level seen (s ∷ older) = (if seen s.lit.var.0 && s.level == level then 1 else 0) + marked level seen older

-- the count is of the marked literals of a level that are left, and the others are the negations of those of lower levels
pub record Tracks (k : ℕ) (steps : List Step) (seen : ℕ → Bool) (rest : List Step) (pending : ℕ) (others : List InLit) : Type 0 where
  pub count : pending ≡ marked k seen rest
  pub named : list_all (λ s. not (seen s.lit.var.0) || (s.level == k || list_any (opposite s.lit) others)) steps ≡ true
  pub under : list_all (false_under steps k) others ≡ true
  pub seen_too : list_all (λ l. seen l.var.0) others ≡ true
  pub once : has_each_once others ≡ true

-- the fields of a walk belong to a trail
pub record IsWalkOn (trail : Assignment) (walk : Walk) : Type 0 where
  pub kept : IsKept trail
  pub room : trail.reserved ≤ walk.marks.room
  pub level : walk.level ≡ level_of trail.steps
  pub left : walk.left ≤ length trail.steps
  pub met : are_set trail.steps walk.marks.vars ≡ true
  pub tracks : Tracks (level_of trail.steps) trail.steps (is_marked walk.marks) (rest_of walk.left trail.steps) walk.pending walk.others.items

-- no literal was walked yet, and none is marked
pub record IsStart (trail : Assignment) (walk : Walk) : Type 0 where
  pub stands : IsWalkOn trail walk
  pub whole : walk.left ≡ length trail.steps

-- whether a literal is marked or false in the rest of the walk
abbrev pub may_mark : List Step → Walk → InLit → Bool
may_mark steps walk l = is_marked walk.marks l.var.0 || false_in (rest_of walk.left steps) l

-- the literals that are false in the rest of the walk are marked now, those of level 0 aside
pub record MarkedAll (trail : Assignment) (lits : List InLit) (old new : Walk) : Type 0 where
  pub stands : IsWalkOn trail new
  pub still : new.left ≡ old.left
  pub grows : (v : ℕ) → is_marked old.marks v ≡ true → is_marked new.marks v ≡ true
  pub covers : list_all (λ l. not (false_in (rest_of old.left trail.steps) l) || covered (is_marked new.marks) (rest_of old.left trail.steps) l) lits ≡ true

-- between two literals of the walk
pub record AtWalk (held : List Held) (trail : Assignment) (walk : Walk) : Type 0 where
  pub stands : IsWalkOn trail walk
  pub denies : Denies held (is_marked walk.marks) (rest_of walk.left trail.steps)
  pub some : 0 < walk.pending

-- a marked literal was taken from the rest, and its reason is not marked yet
pub record IsTaken (held : List Held) (trail : Assignment) (walk : Walk) (l : InLit) : Type 0 where
  pub step : Step
  pub here : rest_of (walk.left + 1) trail.steps ≡ step ∷ rest_of walk.left trail.steps
  pub inside : walk.left < length trail.steps
  pub is_lit : step.lit ≡ l
  pub seen : is_marked walk.marks l.var.0 ≡ true
  pub stands : IsWalkOn trail walk
  pub denies : Denies held (is_marked walk.marks) (step ∷ rest_of walk.left trail.steps)
  pub some : 0 < walk.pending

-- the walk has come to the last marked literal of the present level, and this is its negation
pub record AtEnd (held : List Held) (trail : Assignment) (walk : Walk) (first : InLit) : Type 0 where
  pub stands : IsWalkOn trail walk
  pub above : 0 < level_of trail.steps
  pub first_false : false_at trail.steps (level_of trail.steps) first ≡ true
  pub first_met : is_marked walk.marks first.var.0 ≡ true
  pub follows : ClauseFollows held (first ∷ walk.others.items)
