-- What each kind of step tells the pass that makes it.
use Rattle.std.specs.Prelude.{◌≡◌, ◌≢◌, ℕ, true, false, List, [], ◌∷◌, Some, None}
use Rattle.atomic_table.specs.Table.{Me, Step, rest}
use Rattle.sat_lits.specs.Formulas.{Bounded}
use Rattle.sat_lits.specs.declared.shared.Shared.{Shared}
use Rattle.share_store.specs.Log.{StartsWith}
use Rattle.share_turn.specs.declared.held.Held.TheVariants.{Stored, Said}
use Rattle.share_turn.specs.declared.held.Outcome.{Outcome}
use Rattle.share_turn.specs.declared.view.View.{View}
use Rattle.share_turn.specs.declared.view.Phase.{Phase}
use Rattle.share_turn.specs.declared.view.Phase.TheVariants.{Free, Won, Away, Out, Back}
use Rattle.share_turn.specs.declared.view.Claim.TheVariants.{Quiet, Claimed, Lifted}
use Rattle.share_turn.specs.Views.{IsLegalFor, question, at_turn, freed, lost, won, heard_of, at_claim, came_late, with_outcome, has_posted, saw_none, saw_end}
use Rattle.share_turn.specs.declared.words.TheConstants.{TURN_FREE, TURN_TAKEN, UNCLAIMED, POSTED, STORE_SLOT, OUTCOME_SLOT}
use Rattle.share_turn.specs.Board.{Slot}

-- a pass within a call: its view, and the slots in its hand
abbrev pub Mine : Type 0
Mine = Me Slot View

-- between two calls a pass has the turn with the store in hand, or not at all
abbrev pub IsStill : Phase → Type 0
IsStill Free = Unit {0}
IsStill Won = ⊥
IsStill (Away h) = ⊥
IsStill (Out h) = Unit {0}
IsStill (Back h) = ⊥

-- a pass between two calls
pub record IsAtRest (m : Mine) : Type 0 where
  pub none_out : m.1 ≡ []
  pub still : IsStill m.0.turn
  pub quiet : m.0.claim ≡ Quiet
  pub alive : m.0.spent ≡ false

-- the try for the turn: won where it was free, and else it was taken
abbrev pub tried : Step Slot → Mine → ℕ → Mine → Type 0
tried st m found n = (n.1 ≡ m.1) × (found ≡ TURN_FREE → n.0 ≡ won m.0) × (found ≢ TURN_FREE → (found ≡ TURN_TAKEN) × (n.0 ≡ lost m.0))

-- the slot of the store is in hand, with a legal store that begins with what was seen
abbrev pub lifted : Step Slot → Mine → ℕ → Mine → Type 0
lifted st m found n = (log : List Shared) × (n.1 ≡ (STORE_SLOT, Some (Stored log)) ∷ m.1) × IsLegalFor m.0.question log × StartsWith log m.0.seen × (n.0 ≡ at_turn (Away log) m.0)

-- the phase once the slot of the store is home again without it
abbrev pub phase_out : Phase → Phase
phase_out (Away h) = Out h
phase_out p = p

-- the slot of the store is home again, without it
abbrev pub emptied : Step Slot → Mine → ℕ → Mine → Type 0
emptied st m found n = (n.1 ≡ rest m.1) × (n.0 ≡ at_turn (phase_out m.0.turn) m.0)

-- the phase while the slot of the store is in hand to get it
abbrev pub phase_back : Phase → Phase
phase_back (Out h) = Away h
phase_back p = p

-- the slot of the store is in hand, without one
abbrev pub reached : Step Slot → Mine → ℕ → Mine → Type 0
reached st m found n = (n.1 ≡ (STORE_SLOT, None) ∷ m.1) × (n.0 ≡ at_turn (phase_back m.0.turn) m.0)

-- the slot of the store is home again, with the store
abbrev pub landed : Step Slot → Mine → ℕ → Mine → Type 0
landed st m found n = (n.1 ≡ rest m.1) × ((log : List Shared) → m.1 ≡ (STORE_SLOT, Some (Stored log)) ∷ rest m.1 → n.0 ≡ at_turn (Back log) m.0)

-- the turn is free, and what was given back was seen
abbrev pub released : Step Slot → Mine → ℕ → Mine → Type 0
released st m found n = (n.1 ≡ m.1) × ((log : List Shared) → m.0.turn ≡ Back log → n.0 ≡ freed log m.0)

-- what a joined pass had seen and what the first pass had seen are two beginnings of one log
abbrev pub heard : Step Slot → Mine → ℕ → Mine → Type 0
heard st m found n = (n.1 ≡ m.1) × (n.0 ≡ heard_of m.0) × StartsWith n.0.seen m.0.seen × StartsWith n.0.seen m.0.told

-- the try to claim the outcome: claimed where nobody had, and else late
abbrev pub asked : Step Slot → Mine → ℕ → Mine → Type 0
asked st m found n = (n.1 ≡ m.1) × (found ≡ UNCLAIMED → n.0 ≡ at_claim Claimed m.0) × (found ≢ UNCLAIMED → n.0 ≡ came_late m.0)

-- the slot of the outcome is in hand, without one
abbrev pub held_up : Step Slot → Mine → ℕ → Mine → Type 0
held_up st m found n = (n.1 ≡ (OUTCOME_SLOT, None) ∷ m.1) × (n.0 ≡ at_claim Lifted m.0)

-- the slot of the outcome is home again, with the outcome
abbrev pub laid : Step Slot → Mine → ℕ → Mine → Type 0
laid st m found n = (n.1 ≡ rest m.1) × ((o : Outcome) → m.1 ≡ (OUTCOME_SLOT, Some (Said o)) ∷ rest m.1 → n.0 ≡ with_outcome o m.0)

-- the outcome is posted
abbrev pub shown : Step Slot → Mine → ℕ → Mine → Type 0
shown st m found n = (n.1 ≡ m.1) × (n.0 ≡ has_posted m.0)

-- the look for an outcome: there is one where it was posted
abbrev pub looked : Step Slot → Mine → ℕ → Mine → Type 0
looked st m found n = (n.1 ≡ m.1) × (found ≡ POSTED → n.0 ≡ saw_end m.0) × (found ≢ POSTED → (m.0.posted ≡ false) × (n.0 ≡ saw_none m.0))

-- the formula without variables
abbrev pub no_formula : Bounded
no_formula = record { problem = record { vars = 0; items = [] }; limits = record { vars = 0; lits = 0; threads = 0; input = 0 } }

-- the view of a pass that was joined, whichever question it was of
abbrev pub gone : View
gone = record { question = question no_formula [] 0; seen = []; told = []; turn = Free; claim = Quiet; posted = false; outcome = None; late = false; alarmed = false; first = false; splits = 0; joins = 0; spent = true; tries = 0; looks = 0 }
