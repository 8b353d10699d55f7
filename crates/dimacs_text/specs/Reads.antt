-- What callers know of a reader and the text that it was fed.
use Rattle.std.specs.Prelude.{ℕ, ◌≡◌, ◌≤◌, false, List, ◌++◌, length, take}
use Rattle.sat_lits.specs.Limits.{LimitNumbers}
use Rattle.dimacs_text.specs.Lists.{End, Ended, Refused, Open}
use Rattle.dimacs_text.specs.Grammar.{reading_of, front_reading, decided_of, ends_within}
use Rattle.dimacs_text.specs.Commands.{AreWithin}
use Rattle.dimacs_text.specs.Stands.{Stands}
use Rattle.dimacs_text.specs.Counts.{Counts}
use Rattle.dimacs_text.specs.declared.reader.Reader.{Reader}
use Rattle.dimacs_text.specs.declared.state.State.{State}
use Rattle.dimacs_text.specs.declared.state.Stage.{Stage}
use Rattle.dimacs_text.specs.declared.state.Stage.TheVariants.{Open as IsOpen, Ended as IsEnded, Finished, Failed}
use Rattle.dimacs_text.specs.declared.refusal.ReadError.{ReadError}
use Rattle.dimacs_text.specs.declared.refusal.Refusal.{Refusal}
use Rattle.dimacs_text.specs.declared.command.Command.{Command}

-- a whole text ends, or it is refused
abbrev pub IsClosed : End → Type 0
IsClosed Ended = Unit {0}
IsClosed (Refused why) = Unit {0}
IsClosed Open = ⊥

-- the text so far is not refused: more of it may come, or a `%` has ended it
abbrev pub IsUnrefused : End → Type 0
IsUnrefused Ended = Unit {0}
IsUnrefused (Refused why) = ⊥
IsUnrefused Open = Unit {0}

-- a `%` has ended the text behind these commands, whatever follows
pub record IsSettled (limits : LimitNumbers) (text : List ℕ) (given : List Command) : Type 0 where
  pub reads : (rest : List ℕ) → reading_of limits (text ++ rest) ≡ record { commands = given; end = Ended }
  pub fronts : (rest : List ℕ) → front_reading limits (text ++ rest) ≡ record { commands = given; end = Ended }

-- what the state of a reader says of the text that it was fed, by its stage
abbrev pub Says : Stage → List ℕ → List Command → State → Type 0
Says IsOpen text given st = Stands text given st × Counts given st
Says IsEnded text given st = IsSettled st.limits text given
Says Finished text given st = ⊥
Says (Failed error) text given st = ⊥

-- the state of a reader with these limits says what it was fed and what it gave
pub record StandsUnder (limits : LimitNumbers) (text : List ℕ) (given : List Command) (r : Reader) : Type 0 where
  pub limited : r.state.limits ≡ limits
  pub says : Says r.state.stage text given r.state

-- a reader was fed this text, in whatever pieces, and gave these commands
pub record HasRead (limits : LimitNumbers) (text : List ℕ) (given : List Command) (r : Reader) : Type 0 where
  -- they are what the text decides, and the text is not refused so far
  pub decides : decided_of limits text ≡ given
  pub unrefused : IsUnrefused (front_reading limits text).end
  -- they are the first commands of the text, however it goes on
  pub begins : (rest : List ℕ) → (more : List Command) × ((reading_of limits (text ++ rest)).commands ≡ given ++ more)
  -- however it goes on, it ends or is refused
  pub closes : (rest : List ℕ) → IsClosed (reading_of limits (text ++ rest)).end
  -- where no `%` has ended it, the text is within the limit on input
  pub fits : ends_within limits text ≡ false → length text ≤ limits.input
  pub within : AreWithin limits given
  pub inside : StandsUnder limits text given r

-- a piece was taken, and these commands came of it
pub record Gives (old new : Reader) (piece : List ℕ) (before now : List Command) : Type 0 where
  pub commands : List Command
  pub added : now ≡ before ++ commands
  pub has_read : (limits : LimitNumbers) (text : List ℕ) (given : List Command) → HasRead limits text given old → HasRead limits (text ++ piece) (given ++ commands) new

-- the text is refused within the piece, after these commands, however it goes on
pub record Refuses (old : Reader) (piece : List ℕ) (before now : List Command) (why : Refusal) : Type 0 where
  pub commands : List Command
  pub added : now ≡ before ++ commands
  pub final : (limits : LimitNumbers) (text : List ℕ) (given : List Command) → HasRead limits text given old
      → (rest : List ℕ) → reading_of limits ((text ++ piece) ++ rest) ≡ record { commands = given ++ commands; end = Refused why }
  pub within : (limits : LimitNumbers) (text : List ℕ) (given : List Command) → HasRead limits text given old → AreWithin limits (given ++ commands)

-- memory ran out within the piece, after the commands that the text with a front of it decides
pub record RunsOut (old : Reader) (piece : List ℕ) (before now : List Command) : Type 0 where
  pub commands : List Command
  pub added : now ≡ before ++ commands
  pub front : (limits : LimitNumbers) (text : List ℕ) (given : List Command) → HasRead limits text given old
      → (taken : ℕ) × (decided_of limits (text ++ take taken piece) ≡ given ++ commands)
  pub within : (limits : LimitNumbers) (text : List ℕ) (given : List Command) → HasRead limits text given old → AreWithin limits (given ++ commands)

-- the text ends here, and this is its reading
pub record Concludes (old : Reader) (before now : List Command) (end : End) : Type 0 where
  pub commands : List Command
  pub added : now ≡ before ++ commands
  pub whole : (limits : LimitNumbers) (text : List ℕ) (given : List Command) → HasRead limits text given old
      → reading_of limits text ≡ record { commands = given ++ commands; end = end }
  pub within : (limits : LimitNumbers) (text : List ℕ) (given : List Command) → HasRead limits text given old → AreWithin limits (given ++ commands)

-- no more of a text is taken at this stage: a `%` has ended it, or it was said to end
abbrev pub IsOver : Stage → Type 0
IsOver IsOpen = ⊥
IsOver IsEnded = Unit {0}
IsOver Finished = Unit {0}
IsOver (Failed error) = ⊥

-- the reader's text has ended
abbrev pub HasEnded : Reader → Type 0
HasEnded r = IsOver r.state.stage

-- the reader answers this error from now on
abbrev pub HasFailed : Reader → ReadError → Type 0
HasFailed r error = r.state.stage ≡ Failed error
