-- The rule of the exchange, sentence by sentence. It is said of every moment: of the two words, of what is at home in the two slots, and of the views of all passes that were not joined. `HasBoard` is stronger, and each step keeps it.
use Rattle.std.specs.Prelude.{◌≡◌, ◌≢◌, ◌⊎◌, ℕ, ◌+◌, true, false, List, Some, slice_index}
use mathlib.Core.Option.{some, none}
use lib.ListN.{get_elem?}
use Rattle.atomic_table.specs.Table.{State}
use Rattle.sat_lits.specs.declared.shared.Shared.{Shared}
use Rattle.share_store.specs.Log.{StartsWith}
use Rattle.share_turn.specs.declared.held.Held.TheVariants.{Stored, Said}
use Rattle.share_turn.specs.declared.held.Outcome.{Outcome}
use Rattle.share_turn.specs.declared.view.View.{View}
use Rattle.share_turn.specs.declared.view.Question.{Question}
use Rattle.share_turn.specs.declared.view.Phase.{Phase}
use Rattle.share_turn.specs.declared.view.Phase.TheVariants.{Free, Away, Out, Back}
use Rattle.share_turn.specs.declared.view.Claim.TheVariants.{Quiet, Lifted, Put}
use Rattle.share_turn.specs.declared.words.TheConstants.{TURN_WORD, TURN_FREE, TURN_TAKEN, OUTCOME_WORD, UNCLAIMED, CLAIMED, POSTED, STORE_SLOT, OUTCOME_SLOT}
use Rattle.share_turn.specs.Views.{IsLegalFor, IsRightOutcome}
use Rattle.share_turn.specs.Board.{Slot, live}

-- the words, the slots and the views at one moment
abbrev pub Moment : Type 0
Moment = State Slot View

-- the view of the pass number j, which was not joined
abbrev pub IsLive : Moment → ℕ → View → Type 0
IsLive s j v = (get_elem? s.views j ≡ some v) × (v.spent ≡ false)

-- a fact on each pass that was not joined
abbrev pub EachLive : Moment → (ℕ → View → Type 0) → Type 0
EachLive s P = (j : ℕ) (v : View) → IsLive s j v → P j v

-- some pass that was not joined is the only one with this property
abbrev pub OnlyOne : Moment → (View → Type 0) → Type 0
OnlyOne s P = (i : ℕ) × (w : View) × IsLive s i w × P w × EachLive s (λ j v. P v → j ≡ i)

-- the store with this log is out of its slot, for the pass in this phase
abbrev pub HasOut : Phase → List Shared → Type 0
HasOut phase log = (phase ≡ Out log) ⊎ (phase ≡ Away log)

-- the store with this log is at home
abbrev pub IsHome : Moment → List Shared → Type 0
IsHome s log = get_elem? s.homes STORE_SLOT ≡ some (some (Some (Stored log)))

-- this outcome is in its slot, and is right by what the first pass says of itself
abbrev pub HasRightOutcome : Question → Moment → Outcome → Type 0
HasRightOutcome q s o = (get_elem? s.homes OUTCOME_SLOT ≡ some (some (Some (Said o)))) × EachLive s (λ i w. w.first ≡ true → IsRightOutcome q w.alarmed o)

-- the rule at one moment
pub record KeepsTurns (q : Question) (s : Moment) : Type 0 where
  -- all passes have one formula, one list of assumptions and one number of solvers
  pub one_question : EachLive s (λ j v. v.question ≡ q)
  -- the word of the turn says that it is free where no pass has it, and that it is taken where exactly one has it
  pub turn_word : (slice_index s.words TURN_WORD ≡ TURN_FREE) ⊎ (slice_index s.words TURN_WORD ≡ TURN_TAKEN)
  pub turn_free : slice_index s.words TURN_WORD ≡ TURN_FREE → EachLive s (λ j v. v.turn ≡ Free)
  pub turn_held : slice_index s.words TURN_WORD ≡ TURN_TAKEN → OnlyOne s (λ v. v.turn ≢ Free)
  -- where no pass has the store out, it is at home, and its log is legal and begins with all that was seen
  pub store_home : EachLive s (λ j v. (h : List Shared) → HasOut v.turn h → ⊥)
      → (log : List Shared) × IsHome s log × IsLegalFor q log × EachLive s (λ j v. StartsWith log v.seen) × EachLive s (λ j v. (h : List Shared) → v.turn ≡ Back h → h ≡ log)
  -- where a pass has it out, it is not at home, and its log was legal and began with all that was seen
  pub store_out : EachLive s (λ j v. (h : List Shared) → HasOut v.turn h → IsLegalFor q h × EachLive s (λ i u. StartsWith h u.seen) × ((log : List Shared) → IsHome s log → ⊥))
  -- the word of the outcome is `UNCLAIMED` while nobody claims the outcome or knows of one
  pub outcome_word : (slice_index s.words OUTCOME_WORD ≡ UNCLAIMED) ⊎ (slice_index s.words OUTCOME_WORD ≡ CLAIMED) ⊎ (slice_index s.words OUTCOME_WORD ≡ POSTED)
  pub outcome_none : slice_index s.words OUTCOME_WORD ≡ UNCLAIMED → EachLive s (λ j v. (v.claim ≡ Quiet) × (v.late ≡ false) × (v.posted ≡ false) × (v.alarmed ≡ false))
  -- it is `CLAIMED` while exactly one pass claims the outcome and none knows of a posted one; an alarmed pass has put it
  pub outcome_claimed : slice_index s.words OUTCOME_WORD ≡ CLAIMED → OnlyOne s (λ v. v.claim ≢ Quiet) × EachLive s (λ j v. v.posted ≡ false) × EachLive s (λ j v. v.alarmed ≡ true → v.claim ≡ Put)
  -- it is `POSTED` once an outcome was posted, and then nobody claims it
  pub outcome_posted : slice_index s.words OUTCOME_WORD ≡ POSTED → EachLive s (λ j v. v.claim ≡ Quiet)
  -- an outcome that was put or posted is right
  pub outcome_right : (slice_index s.words OUTCOME_WORD ≡ POSTED) ⊎ ((j : ℕ) × (v : View) × IsLive s j v × (v.claim ≡ Put)) → (o : Outcome) × HasRightOutcome q s o
  -- an outcome that a pass says was posted by it, or by one that was joined into it, is the one in its slot
  pub outcome_said : EachLive s (λ j v. (o : Outcome) → v.outcome ≡ Some o → get_elem? s.homes OUTCOME_SLOT ≡ some (some (Some (Said o))))
  -- exactly one pass is the first, the passes that it split off are those that it joined and the others that are there, and it alone may be alarmed
  pub one_first : OnlyOne s (λ v. v.first ≡ true)
  pub counted : EachLive s (λ i w. w.first ≡ true → live s.views + w.joins ≡ 1 + w.splits)
  pub alarm_first : EachLive s (λ j v. v.alarmed ≡ true → v.first ≡ true)
  -- a slot is away from its place exactly while some pass has it in hand
  pub store_away : get_elem? s.homes STORE_SLOT ≡ some none → (j : ℕ) × (v : View) × (h : List Shared) × IsLive s j v × (v.turn ≡ Away h)
  pub store_in_hand : EachLive s (λ j v. (h : List Shared) → v.turn ≡ Away h → get_elem? s.homes STORE_SLOT ≡ some none)
  pub outcome_away : get_elem? s.homes OUTCOME_SLOT ≡ some none → (j : ℕ) × (v : View) × IsLive s j v × (v.claim ≡ Lifted)
  pub outcome_in_hand : EachLive s (λ j v. v.claim ≡ Lifted → get_elem? s.homes OUTCOME_SLOT ≡ some none)
