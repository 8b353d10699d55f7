-- Tournaments: the candidates by place, and the matches between them.
use Rattle.std.specs.Prelude.{◌≡◌, ◌≢◌, ℕ, ◌+◌, ◌*◌, ◌/◌, ◌<◌, ◌≤◌, List, true, Option, Some, None, slice_index_or}
use Rattle.pick_order.specs.declared.preference.Candidate.{Candidate}
use Rattle.pick_order.specs.Candidates.{is_ahead, first_of}

-- the candidate at a place
abbrev pub entrant : List (Option Candidate) → ℕ → Option Candidate
entrant entrants k = slice_index_or entrants k None

-- the first of all candidates, where there is one
pub record IsFirst (entrants : List (Option Candidate)) (found : Option Candidate) : Type 0 where
  pub among : (a : Candidate) → found ≡ Some a → (k : ℕ) × (entrant entrants k ≡ Some a)
  pub ahead : (k : ℕ) → is_ahead found (entrant entrants k) ≡ true

-- the winner of the places 2k and 2k + 1 stands at k
abbrev pub IsPlayedAt : List (Option Candidate) → ℕ → Type 0
IsPlayedAt places k = entrant places k ≡ first_of (entrant places (2 * k)) (entrant places (2 * k + 1))

-- each match is played, where the entrants stand last and as many winners before them
abbrev pub IsPlayed : List (Option Candidate) → ℕ → Type 0
IsPlayed places count = (k : ℕ) → 1 ≤ k → k < count → IsPlayedAt places k

-- and each but the one above a place
abbrev pub IsPlayedBut : List (Option Candidate) → ℕ → ℕ → Type 0
IsPlayedBut places count place = (k : ℕ) → 1 ≤ k → k < count → k ≢ place / 2 → IsPlayedAt places k
