-- What a write does to the bytes that a sink tells.
use Rattle.std.specs.Prelude.{ℕ, ◌<◌, ◌≤◌, List, length, take, MatchResult}
use Rattle.std.specs.declared.option.Option.{Option}
use Rattle.std.specs.declared.result.Result.{Result}
use Rattle.std.specs.Io.KnownBytes.{Appends}

-- so much of the piece was taken, and not nothing of some bytes
pub record Advances (piece : List ℕ) (count : ℕ) : Type 0 where
  pub within : count ≤ length piece
  pub some : 0 < length piece → 0 < count

-- told bytes grow by a front of the piece, perhaps none of it
abbrev pub AppendsFront : Option (List ℕ) → Option (List ℕ) → List ℕ → Type 0
AppendsFront old new piece = (count : ℕ) × (count ≤ length piece) × Appends old new (take count piece)

-- told bytes grow by as much of the piece as an Ok says, or by a front of it
abbrev pub WritesFront : {E : Type 0} → Option (List ℕ) → Option (List ℕ) → Result ℕ E → List ℕ → Type 0
WritesFront old new result piece = MatchResult result (λ count. Appends old new (take count piece)) (λ _. AppendsFront old new piece)
