-- What a search keeps below its present level, so that what it learns is new.
use Rattle.std.specs.Prelude.{◌≡◌, ◌<◌, ◌≤◌, ◌+◌, ℕ, Bool, true, not, List, [], ◌∷◌, ◌++◌}
use Rattle.std.specs.List.{list_any, list_all}
use Rattle.sat_lits.specs.InLits.{same_lit}
use Rattle.sat_lits.specs.declared.literal.InLit.{InLit}
use Rattle.sat_lits.specs.declared.literal.ClauseId.{ClauseId}
use Rattle.trail.specs.declared.trail.Step.{Step}
use Rattle.trail.specs.Trail.{level_of, shaped, back_to}
use Rattle.clause_store.specs.Store.{Held}
use Rattle.propagate.specs.Units.{false_clause, quiet_clause, all_quiet}
use Rattle.propagate.specs.Reasons.{names, reasoned}
use Rattle.analyze.specs.Falsity.{has_present}
use Rattle.analyze.specs.LearnedClauses.{IsLearned, unit_by_first}

-- on the way back to any level below the present one no clause is false or unit
abbrev pub QuietBelow : List Held → List Step → Type 0
QuietBelow held steps = (level : ℕ) → level < level_of steps → all_quiet (back_to level steps) held ≡ true

-- whether all literals of one clause stand in another
abbrev pub is_contained : List InLit → List InLit → Bool
is_contained inner outer = list_all (λ l. list_any (same_lit l) outer) inner

-- whether a clause has all literals of no clause that is held
abbrev pub is_new : List Held → List InLit → Bool
is_new held lits = list_all (λ clause. not (is_contained clause.lits lits)) held

-- what is learned has all literals of no clause that is held, where nothing was false or unit below the present level
abbrev pub LearnsNew : Type 0
LearnsNew = (held : List Held) (steps : List Step) (lits : List InLit) (back : ℕ) → shaped steps ≡ true → QuietBelow held steps → IsLearned held steps lits back → is_new held lits ≡ true

-- what is learned is unit by its first literal after the way back
abbrev pub LearnsUnit : Type 0
LearnsUnit = (held : List Held) (steps : List Step) (lits : List InLit) (back : ℕ) → shaped steps ≡ true → IsLearned held steps lits back → unit_by_first (back_to back steps) lits ≡ true

-- what is learned is quiet below the level of the way back
abbrev pub LearnsQuiet : Type 0
LearnsQuiet = (held : List Held) (steps : List Step) (lits : List InLit) (back level : ℕ) → shaped steps ≡ true → IsLearned held steps lits back → level < back → quiet_clause (back_to level steps) lits ≡ true

-- a decision on a trail on which all is quiet leaves all quiet below its level
abbrev pub DecisionsKeep : Type 0
DecisionsKeep = (held : List Held) (steps : List Step) (decision : Step) → shaped (decision ∷ steps) ≡ true → decision.level ≡ level_of steps + 1 → all_quiet steps held ≡ true → QuietBelow held steps → QuietBelow held (decision ∷ steps)

-- a literal that is assigned at the present level changes nothing below it
abbrev pub AssignmentsKeep : Type 0
AssignmentsKeep = (held : List Held) (steps : List Step) (step : Step) → step.level ≡ level_of steps → QuietBelow held steps → QuietBelow held (step ∷ steps)

-- nor does the way back
abbrev pub WayBackKeeps : Type 0
WayBackKeeps = (held : List Held) (steps : List Step) (level : ℕ) → level ≤ level_of steps → level_of (back_to level steps) ≤ level → QuietBelow held steps → QuietBelow held (back_to level steps)

-- nor does a conflict: a learned clause is added, and after the way back a literal is assigned
abbrev pub ConflictsKeep : Type 0
ConflictsKeep = (held : List Held) (steps : List Step) (learned : Held) (back : ℕ) (step : Step) → shaped steps ≡ true → IsLearned held steps learned.lits back → step.level ≡ back → QuietBelow held steps → QuietBelow (held ++ learned ∷ []) (step ∷ back_to back steps)

-- a reasoned trail stays reasoned when a clause is added
abbrev pub AddingKeepsReasons : Type 0
AddingKeepsReasons = (held : List Held) (clause : Held) (steps : List Step) → reasoned held steps ≡ true → reasoned (held ++ clause ∷ []) steps ≡ true

-- and on the way back
abbrev pub WayBackKeepsReasons : Type 0
WayBackKeepsReasons = (held : List Held) (steps : List Step) (level : ℕ) → shaped steps ≡ true → reasoned held steps ≡ true → reasoned held (back_to level steps) ≡ true

-- a false clause holds a literal of the present level, where nothing was false or unit below it
abbrev pub ConflictsArePresent : Type 0
ConflictsArePresent =
    (held : List Held) (steps : List Step) (id : ClauseId) → shaped steps ≡ true → 0 < level_of steps → QuietBelow held steps → names held id (false_clause steps) ≡ true → names held id (has_present steps) ≡ true
