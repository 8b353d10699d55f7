-- What contracts see of a pass, and what its view is after each call.
use Rattle.std.specs.Prelude.{◌≡◌, ℕ, ◌+◌, ◌<◌, Bool, true, false, ◌||◌, List, [], All, length, nat_lt, if◌then◌else◌, Some, None}
use Rattle.std.specs.Option.{option_or}
pub use Rattle.atomic_table.specs.Seated.{TableId}
use Rattle.sat_lits.specs.Formulas.{Bounded}
use Rattle.sat_lits.specs.Logs.{IsLegalLog}
use Rattle.sat_lits.specs.Verdicts.{IsRight}
use Rattle.sat_lits.specs.declared.literal.Lit.{Lit}
use Rattle.sat_lits.specs.declared.shared.Shared.{Shared}
use Rattle.share_turn.specs.declared.held.Outcome.{Outcome}
use Rattle.share_turn.specs.declared.held.Outcome.TheVariants.{Verdict, Halted}
use Rattle.share_turn.specs.declared.view.View.{View}
use Rattle.share_turn.specs.declared.view.Question.{Question}
use Rattle.share_turn.specs.declared.view.Phase.{Phase}
use Rattle.share_turn.specs.declared.view.Phase.TheVariants.{Free, Won, Out}
use Rattle.share_turn.specs.declared.view.Claim.{Claim}
use Rattle.share_turn.specs.declared.view.Claim.TheVariants.{Quiet, Put}

-- a formula, assumptions and a number of solvers
abbrev pub question : Bounded → List Lit → ℕ → Question
question formula assumptions solvers = record { formula = formula; assumptions = assumptions; solvers = solvers }

-- a log that is legal for the formula, each entry of which a solver of the question gave
pub record IsLegalFor (q : Question) (log : List Shared) : Type 0 where
  pub legal : IsLegalLog q.formula.problem log
  pub solvers : All (λ e. e.solver < q.solvers) log

-- an outcome that is right: a right verdict, or the news that the first pass was halted, which its view then says
abbrev pub IsRightOutcome : Question → Bool → Outcome → Type 0
IsRightOutcome q alarmed (Verdict verdict) = IsRight q.formula.problem q.assumptions verdict
IsRightOutcome q alarmed Halted = alarmed ≡ true

-- a pass may post a right verdict, and the first pass may post that it was halted
abbrev pub MayPost : View → Outcome → Type 0
MayPost v (Verdict verdict) = IsRight v.question.formula.problem v.question.assumptions verdict
MayPost v Halted = v.first ≡ true

-- what contracts see of a pass: the exchange that it belongs to, and what it knows
pub record Known : Type 0 where
  pub table : TableId
  pub view : View

abbrev pub known_of : TableId → View → Known
known_of table view = record { table = table; view = view }

-- the first pass as the table is made: it has the turn, with no store in hand yet
abbrev pub opening_view : Question → View
opening_view q = record { question = q; seen = []; told = []; turn = Out []; claim = Quiet; posted = false; outcome = None; late = false; alarmed = false; first = true; splits = 0; joins = 0; spent = false; tries = 0; looks = 0 }

-- the turn in this phase
abbrev pub at_turn : Phase → View → View
at_turn turn v = record v { turn = turn }

-- the turn is free again, and the log that was given back was seen
abbrev pub freed : List Shared → View → View
freed log v = record v { turn = Free; seen = log }

-- the first pass after `begin`
abbrev pub started : Question → List Shared → View
started q log = freed log (opening_view q)

-- the turn was tried for, in vain
abbrev pub lost : View → View
lost v = record v { tries = v.tries + 1 }

-- the turn was tried for and won
abbrev pub won : View → View
won v = record v { turn = Won; tries = v.tries + 1 }

-- the store with this log is in hand
abbrev pub got : List Shared → View → View
got log v = at_turn (Out log) (won v)

-- the first pass after a split
abbrev pub divided : View → View
divided v = record v { splits = v.splits + 1 }

-- the pass that was split off: it has seen what the first one has seen
abbrev pub newcomer : View → View
newcomer v = record { question = v.question; seen = v.seen; told = []; turn = Free; claim = Quiet; posted = false; outcome = None; late = false; alarmed = false; first = false; splits = 0; joins = 0; spent = false; tries = 0; looks = 0 }

-- the first pass with another one joined: it was told what that one had seen
abbrev pub united : View → View → View
united v u = record v { told = u.seen; posted = v.posted || u.posted; outcome = option_or v.outcome u.outcome; late = v.late || u.late; joins = v.joins + 1 }

-- the longer of two logs
abbrev pub longer : List Shared → List Shared → List Shared
longer xs ys = if nat_lt (length xs) (length ys) then ys else xs

-- the longer of what was seen and of what was told is seen
abbrev pub heard_of : View → View
heard_of v = record v { seen = longer v.seen v.told; told = [] }

-- the first pass after `join`
abbrev pub after_join : View → View → View
after_join v u = heard_of (united v u)

-- a look found no outcome
abbrev pub saw_none : View → View
saw_none v = record v { looks = v.looks + 1 }

-- a look found that an outcome was posted
abbrev pub saw_end : View → View
saw_end v = record v { looks = v.looks + 1; posted = true }

-- the claim in this state
abbrev pub at_claim : Claim → View → View
at_claim claim v = record v { claim = claim }

-- another pass was first to claim the outcome
abbrev pub came_late : View → View
came_late v = record v { late = true }

-- whether the pass is alarmed once it put this outcome
abbrev pub alarm_after : Outcome → Bool → Bool
alarm_after (Verdict verdict) alarmed = alarmed
alarm_after Halted alarmed = true

-- the outcome is in its slot
abbrev pub with_outcome : Outcome → View → View
with_outcome o v = record v { claim = Put; outcome = Some o; alarmed = alarm_after o v.alarmed }

-- the outcome is posted
abbrev pub has_posted : View → View
has_posted v = record v { claim = Quiet; posted = true }

-- the pass after a `post` that was answered `Posted`
abbrev pub after_post : Outcome → View → View
after_post o v = has_posted (with_outcome o v)
