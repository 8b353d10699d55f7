-- The events of the machine: when each is allowed, and what it leaves.
use Rattle.std.specs.Prelude.{◌≡◌, ℕ, ◌<◌, ◌≤◌, Bool, true, ◌&&◌, ◌==◌, List, [], ◌∷◌, ◌++◌, length, take, fold, slice_get, Some, if◌then◌else◌}
use Rattle.std.specs.Bool.{beq}
use Rattle.std.specs.List.{list_any}
use Rattle.std.specs.Cmp.Lexicographic.{pointwise}
use Rattle.sat_lits.specs.Meaning.{Problem, IsModel, Follows}
use Rattle.sat_lits.specs.Limits.{standard_limits}
use Rattle.sat_lits.specs.Formulas.{names_known, lit_count, with_item}
use Rattle.sat_lits.specs.Logs.{IsShareable, IsLegalLog}
use Rattle.sat_lits.specs.Verdicts.{makes_true, IsFailed, IsRight}
use Rattle.sat_lits.specs.declared.literal.Lit.{Lit}
use Rattle.sat_lits.specs.declared.formula.Item.{Item}
use Rattle.sat_lits.specs.declared.shared.Shared.{Shared}
use Rattle.sat_lits.specs.declared.verdict.Verdict.{Verdict}
use Rattle.sat_lits.specs.declared.verdict.Verdict.TheVariants.{Sat, Unsat}
use Rattle.race_model.specs.declared.event.Event.{Event}
use Rattle.race_model.specs.declared.event.Event.TheVariants.{Add, Absorb, Give, Take, Say}
use Rattle.race_model.specs.States.{State, start, absorbed, known_to, HasAllItems, with_all_items, with_place}

-- whether two literals are one
abbrev pub same_lit : Lit → Lit → Bool
same_lit l m = l.var.0 == m.var.0 && beq l.negative m.negative

-- whether an entry has the clause
abbrev pub is_known : List Shared → List Lit → Bool
is_known log clause = list_any (λ e. pointwise same_lit e.clause clause) log

-- the entry of a clause that a solver gives, which names all entries of this log
abbrev pub given_entry : List Shared → ℕ → List Lit → Shared
given_entry log solver clause = record { solver = solver; after = length log; clause = clause }

-- the log after a solver gave a clause, which changes nothing where the clause is known
abbrev pub with_given : List Shared → ℕ → List Lit → List Shared
with_given log solver clause =
    if is_known log clause then log else log ++ given_entry log solver clause ∷ []

-- a model may be said by who took all items, a failed set by who knows that it fails
abbrev pub MaySay : State → ℕ → List Lit → Verdict → Type 0
MaySay s solver assumptions (Sat values) =
    HasAllItems s solver × IsModel (absorbed s solver) values
    × (makes_true values assumptions ≡ true)
MaySay s solver assumptions (Unsat failed) = IsFailed (known_to s solver) assumptions failed

-- when an event is allowed
abbrev pub IsAllowed : State → Event → Type 0
IsAllowed s (Add item) = names_known s.formula.vars item ≡ true
IsAllowed s (Absorb solver) = solver < length s.taken
IsAllowed s (Give solver clause) =
    (solver < length s.taken) × IsShareable s.formula.vars clause
    × Follows (known_to s solver) clause
IsAllowed s (Take solver place) =
    (solver < length s.taken) × (place < length s.log) × HasAllItems s solver
IsAllowed s (Say solver assumptions verdict) =
    (solver < length s.taken) × MaySay s solver assumptions verdict

-- the state after an event
abbrev pub after_event : State → Event → State
after_event s (Add item) = record s { formula = with_item item s.formula }
after_event s (Absorb solver) = with_all_items s solver
after_event s (Give solver clause) = record s { log = with_given s.log solver clause }
after_event s (Take solver place) = with_place s solver place
after_event s (Say solver assumptions verdict) = s

-- the state after events, one after the other
abbrev pub after_events : State → List Event → State
after_events s events = fold after_event s events

-- a run: each event is allowed in its state
abbrev pub IsRun : State → List Event → Type 0
IsRun s [] = Unit {0}
IsRun s (event ∷ events) = IsAllowed s event × IsRun (after_event s event) events

-- with the item the formula's literals are within the standard limit
abbrev pub HasRoom : Problem → Item → Type 0
HasRoom f item = lit_count (with_item item f).items ≤ standard_limits.lits

-- an item that is added has room
abbrev pub LeavesRoom : State → Event → Type 0
LeavesRoom s (Add item) = HasRoom s.formula item
LeavesRoom s (Absorb solver) = Unit {0}
LeavesRoom s (Give solver clause) = Unit {0}
LeavesRoom s (Take solver place) = Unit {0}
LeavesRoom s (Say solver assumptions verdict) = Unit {0}

-- the log is legal for the formula after each number of events, and each verdict said is right for
-- the formula of its moment
pub record IsRightRun (from : State) (events : List Event) : Type 0 where
  pub legal : (count : ℕ)
      → let s = after_events from (take count events) in IsLegalLog s.formula s.log
  pub right : (place solver : ℕ) (assumptions : List Lit) (verdict : Verdict)
      → slice_get events place ≡ Some (Say solver assumptions verdict)
      → IsRight (after_events from (take place events)).formula assumptions verdict

-- every run from the start is right
abbrev pub EveryRunIsRight : Type 0
EveryRunIsRight =
    (solvers vars : ℕ) (events : List Event) → IsRun (start solvers vars) events
    → IsRightRun (start solvers vars) events

-- after each run from the start, each clause of the log follows from the formula alone
abbrev pub EachGivenFollows : Type 0
EachGivenFollows =
    (solvers vars : ℕ) (events : List Event) → IsRun (start solvers vars) events
    → let s = after_events (start solvers vars) events in
    (place : ℕ) (entry : Shared) → slice_get s.log place ≡ Some entry
    → Follows s.formula entry.clause

-- and each entry names all entries before it
abbrev pub EachNamesAllBefore : Type 0
EachNamesAllBefore =
    (solvers vars : ℕ) (events : List Event) → IsRun (start solvers vars) events
    → let s = after_events (start solvers vars) events in
    (place : ℕ) (entry : Shared) → slice_get s.log place ≡ Some entry → entry.after ≡ place

-- after some run, a model of the items that solver 0 took is no model of the formula
abbrev pub EarlyModelsMayFail : Type 0
EarlyModelsMayFail =
    (events : List Event) × (values : List Bool) × IsRun (start 1 1) events
    × (let s = after_events (start 1 1) events in
    IsModel (absorbed s 0) values × (IsModel s.formula values → ⊥))
