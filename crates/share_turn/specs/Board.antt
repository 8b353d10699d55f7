-- The rule of the exchange as each step keeps it: the words, the slots and all views follow from one board.
-- The word of the turn says whether some pass has it. The word of the outcome is `UNCLAIMED`, then `CLAIMED` while some pass claims the outcome, then `POSTED`.
use Rattle.std.specs.Prelude.{◌≡◌, ◌≢◌, ◌⊎◌, ℕ, ◌+◌, ◌<◌, ◌≤◌, Bool, true, false, List, [], ◌∷◌, length, slice_index, if◌then◌else◌, Option, Some, None}
use mathlib.Core.Option.{some, none}
use mathlib.Core.Option as maybe
use lib.ListN.{get_elem?}
use Rattle.atomic_table.specs.Table.{State}
use Rattle.sat_lits.specs.declared.shared.Shared.{Shared}
use Rattle.share_store.specs.Log.{StartsWith}
use Rattle.share_turn.specs.declared.held.Held.{Held}
use Rattle.share_turn.specs.declared.held.Held.TheVariants.{Stored, Said}
use Rattle.share_turn.specs.declared.held.Outcome.{Outcome}
use Rattle.share_turn.specs.declared.view.View.{View}
use Rattle.share_turn.specs.declared.view.Question.{Question}
use Rattle.share_turn.specs.declared.view.Phase.{Phase}
use Rattle.share_turn.specs.declared.view.Phase.TheVariants.{Free, Won, Away, Out, Back}
use Rattle.share_turn.specs.declared.view.Claim.{Claim}
use Rattle.share_turn.specs.declared.view.Claim.TheVariants.{Quiet, Claimed, Lifted, Put}
use Rattle.share_turn.specs.declared.words.TheConstants.{TURN_WORD, TURN_FREE, TURN_TAKEN, OUTCOME_WORD, UNCLAIMED, CLAIMED, POSTED, STORE_SLOT, OUTCOME_SLOT}
use Rattle.share_turn.specs.Views.{IsLegalFor, IsRightOutcome}

-- what lies in a slot
abbrev pub Slot : Type 0
Slot = Option Held

-- how far the outcome is
pub data Stage : Type 0 where
  quiet : Stage
  claimed : Stage
  raised : Stage
  put : Outcome → Stage
  posted : Outcome → Stage

-- the stages in order
abbrev pub rank : Stage → ℕ
rank quiet = 0
rank claimed = 1
rank raised = 2
rank (put o) = 3
rank (posted o) = 4

-- the word of the outcome at a stage
abbrev pub stage_word : Stage → ℕ
stage_word quiet = UNCLAIMED
stage_word claimed = CLAIMED
stage_word raised = CLAIMED
stage_word (put o) = CLAIMED
stage_word (posted o) = POSTED

-- the claim of the claiming pass
abbrev pub claim_at : Stage → Claim
claim_at quiet = Quiet
claim_at claimed = Claimed
claim_at raised = Lifted
claim_at (put o) = Put
claim_at (posted o) = Quiet

-- what is at home in the slot of the outcome
abbrev pub outcome_home : Stage → maybe.Option Slot
outcome_home quiet = some None
outcome_home claimed = some None
outcome_home raised = none
outcome_home (put o) = some (Some (Said o))
outcome_home (posted o) = some (Some (Said o))

-- the outcome, where there is one, is right
abbrev pub RightAt : Question → Bool → Stage → Type 0
RightAt q alarmed quiet = Unit {0}
RightAt q alarmed claimed = Unit {0}
RightAt q alarmed raised = Unit {0}
RightAt q alarmed (put o) = IsRightOutcome q alarmed o
RightAt q alarmed (posted o) = IsRightOutcome q alarmed o

-- the word of the turn where it is in this phase
abbrev pub turn_word : Phase → ℕ
turn_word Free = TURN_FREE
turn_word Won = TURN_TAKEN
turn_word (Away h) = TURN_TAKEN
turn_word (Out h) = TURN_TAKEN
turn_word (Back h) = TURN_TAKEN

-- what is at home in the slot of the store
abbrev pub store_home : List Shared → Phase → maybe.Option Slot
store_home log Free = some (Some (Stored log))
store_home log Won = some (Some (Stored log))
store_home log (Away h) = none
store_home log (Out h) = some None
store_home log (Back h) = some (Some (Stored log))

-- the log in the phase, if it has one, is the log
abbrev pub PhaseOf : List Shared → Phase → Type 0
PhaseOf log Free = Unit {0}
PhaseOf log Won = Unit {0}
PhaseOf log (Away h) = h ≡ log
PhaseOf log (Out h) = h ≡ log
PhaseOf log (Back h) = h ≡ log

-- which pass has the turn, if one has it, and in which phase; the log; which pass claims the outcome, and how far it is; what the first pass says of itself
pub record Board : Type 0 where
  pub holder : ℕ
  pub turn : Phase
  pub log : List Shared
  pub claimer : ℕ
  pub stage : Stage
  pub alarmed : Bool
  pub splits : ℕ
  pub joins : ℕ

-- the view of the pass number j says what the board says
pub record Fits (q : Question) (b : Board) (j : ℕ) (v : View) : Type 0 where
  pub about : v.spent ≡ false → v.question ≡ q
  pub resting : v.spent ≡ true → (v.turn ≡ Free) × (v.claim ≡ Quiet)
  pub seen : StartsWith b.log v.seen
  pub told : StartsWith b.log v.told
  pub turn_here : j ≡ b.holder → v.turn ≡ b.turn
  pub turn_else : j ≢ b.holder → v.turn ≡ Free
  pub claim_here : j ≡ b.claimer → v.claim ≡ claim_at b.stage
  pub claim_else : j ≢ b.claimer → v.claim ≡ Quiet
  pub late : v.late ≡ true → 0 < rank b.stage
  pub outcome : (o : Outcome) → v.outcome ≡ Some o → (b.stage ≡ posted o) ⊎ ((b.stage ≡ put o) × (v.claim ≡ Put))
  pub posted : v.posted ≡ true → 4 ≤ rank b.stage
  pub alarmed : v.alarmed ≡ true → (4 ≤ rank b.stage) ⊎ (v.claim ≡ Put)
  pub first_here : j ≡ 0 → (v.first ≡ true) × (v.spent ≡ false) × (v.alarmed ≡ b.alarmed) × (v.splits ≡ b.splits) × (v.joins ≡ b.joins)
  pub first_else : j ≢ 0 → (v.first ≡ false) × (v.alarmed ≡ false)

-- the number of passes that were not joined
abbrev pub live : List View → ℕ
live [] = 0
live (v ∷ vs) = (if v.spent then 0 else 1) + live vs

-- there is a board from which the words, the slots and all views follow
pub record HasBoard (q : Question) (s : State Slot View) : Type 0 where
  pub board : Board
  pub words : length s.words ≡ 2
  pub turn_is : slice_index s.words TURN_WORD ≡ turn_word board.turn
  pub stage_is : slice_index s.words OUTCOME_WORD ≡ stage_word board.stage
  pub store_is : get_elem? s.homes STORE_SLOT ≡ some (store_home board.log board.turn)
  pub outcome_is : get_elem? s.homes OUTCOME_SLOT ≡ some (outcome_home board.stage)
  pub legal : IsLegalFor q board.log
  pub phase : PhaseOf board.log board.turn
  pub right : RightAt q board.alarmed board.stage
  pub holder : board.holder < length s.views
  pub claimer : board.claimer < length s.views
  pub counted : live s.views + board.joins ≡ 1 + board.splits
  pub each : (j : ℕ) (v : View) → get_elem? s.views j ≡ some v → Fits q board j v
