-- A trail as a number, and the moves of a search.
use Rattle.std.specs.Prelude.{◌≡◌, ℕ, ◌+◌, ◌-◌, ◌*◌, ◌^◌, ◌<◌, ◌≤◌, ◌==◌, Bool, true, false, if◌then◌else◌, List, [], ◌∷◌, length}
use Rattle.std.specs.List.{list_any, list_all}
use Rattle.trail.specs.declared.trail.Step.{Step}
use Rattle.trail.specs.Trail.{level_of, decided, shaped, back_to}

-- the digit of a step: 1 without a reason, 2 with one
abbrev pub digit : Step → ℕ
digit s = if decided s.reason then 1 else 2

-- the steps as digits to the base 3, the oldest first
abbrev pub digits : List Step → ℕ
digits [] = 0
digits (s ∷ older) = 3 * digits older + digit s

-- the same as a number of n digits, where the unset ones come last and are 0
abbrev pub trail_number : ℕ → List Step → ℕ
trail_number n steps = digits steps * 3 ^ (n - length steps)

-- what a search over n variables keeps: it had no more conflicts than the number of its trail
pub record IsBounded (n : ℕ) (steps : List Step) (conflicts : ℕ) : Type 0 where
  pub fits : length steps ≤ n
  pub few : conflicts ≤ trail_number n steps

-- a search over n variables that starts with nothing assigned: its trail, the number of its moves, and that of its conflicts
pub data IsSearch (n : ℕ) : List Step → ℕ → ℕ → Type 0 where
  start : IsSearch n [] 0 0
  more : (s : Step) (steps : List Step) (moves conflicts : ℕ) → IsSearch n steps moves conflicts → shaped (s ∷ steps) ≡ true → length (s ∷ steps) ≤ n → IsSearch n (s ∷ steps) (moves + 1) conflicts
  conflict : (s : Step) (steps : List Step) (level moves conflicts : ℕ) → IsSearch n steps moves conflicts → level < level_of steps → decided s.reason ≡ false → shaped (s ∷ back_to level steps) ≡ true
      → IsSearch n (s ∷ back_to level steps) (moves + 1) (conflicts + 1)

-- one literal more raises the number
abbrev pub MoreRaises : Type 0
MoreRaises = (n : ℕ) (s : Step) (steps : List Step) → length steps < n → trail_number n steps < trail_number n (s ∷ steps)

-- so does a jump back with a literal that a clause gives
abbrev pub ConflictRaises : Type 0
ConflictRaises = (n level : ℕ) (s : Step) (steps : List Step) → shaped steps ≡ true → length steps ≤ n → level < level_of steps → decided s.reason ≡ false
    → trail_number n steps < trail_number n (s ∷ back_to level steps)

-- the number has n digits
abbrev pub NumberIsBelow : Type 0
NumberIsBelow = (n : ℕ) (steps : List Step) → length steps ≤ n → trail_number n steps < 3 ^ n

-- a search has fewer than 3 ^ n moves, and no more conflicts than moves
abbrev pub RunsEnd : Type 0
RunsEnd = (n : ℕ) (steps : List Step) (moves conflicts : ℕ) → IsSearch n steps moves conflicts → (moves < 3 ^ n) × (conflicts ≤ moves)

-- each variable of a trail is one of these
abbrev pub names_only : List ℕ → List Step → Bool
names_only active steps = list_all (λ s. list_any (λ v. v == s.lit.var.0) active) steps

-- a trail over some variables is no longer than their list
abbrev pub FitsActive : Type 0
FitsActive = (active : List ℕ) (steps : List Step) → shaped steps ≡ true → names_only active steps ≡ true → length steps ≤ length active
