-- One solver's run in its thread.
use Rattle.std.specs.Prelude.{◌≡◌, ℕ, Bool, false, ◌+◌, ◌^◌, ◌<◌, ◌≤◌, true, List, length, Some, None, IfSome, refl}
use Rattle.std.specs.declared.option.Option.{Option}
use Rattle.std.proofs.Common.{sym, subst, ◌∙◌, arith}
use Rattle.sat_lits.specs.Meaning.{Problem}
use Rattle.sat_lits.specs.Conflicts.{own_count, enough}
use Rattle.sat_lits.specs.Formulas.{Bounded, Extends, names_known}
use Rattle.sat_lits.specs.Verdicts.{IsRight}
use Rattle.sat_lits.specs.declared.formula.Item.TheVariants.{Clause}
use Rattle.sat_lits.specs.declared.literal.Lit.{Lit}
use Rattle.sat_lits.specs.declared.shared.Shared.{Shared}
use Rattle.sat_ports.specs.Causes.{Rose}
use Rattle.share_store.specs.Log.{StartsWith}
use Rattle.share_store.specs.Laws.{starts_refl, starts_trans}
use Rattle.share_turn.specs.Views.{Known, IsLegalFor}
use Rattle.share_turn.specs.declared.view.View.{View}
use Rattle.share_turn.specs.declared.view.Question.{Question}
use Rattle.share_turn.specs.declared.view.Phase.TheVariants.{Free}
use Rattle.one_solver.specs.Parts.{Parts, problem_in}
use Rattle.one_solver.specs.InStep.{IsInStep}
use Rattle.one_solver.specs.Steps.{IsUnderWay}
use Rattle.race.specs.declared.ending.Ending.{Ending}
use Rattle.race.specs.declared.ending.Ending.TheVariants as ending
use Rattle.race.specs.declared.runner.Progress.{Progress}
use Rattle.race.specs.declared.runner.Progress.TheVariants.{Interval, Ended, Asked}
use Rattle.race.specs.Watching.{KeepsSeat, KnowsOutcome, kept_seat, kept_seat_on}

-- some conflicts are at most the limit, where there is one
abbrev pub IsWithin : Option ℕ → ℕ → Type 0
IsWithin limit conflicts = IfSome limit (λ most. conflicts ≤ most)

-- some conflicts are the limit, which is less than enough for the formula
pub record IsSpent (limit : Option ℕ) (f : Problem) (conflicts : ℕ) : Type 0 where
  pub limit_is : limit ≡ Some conflicts
  pub few : conflicts < enough (own_count f)

-- a solver with a pass that holds no turn: it took a front of the formula, made at most as many conflicts as the limit allows,
-- and is in step with the log that the pass has seen, which is legal
pub record IsSeated (limit : Option ℕ) (s : Parts) (v : View) : Type 0 where
  pub free : v.turn ≡ Free
  pub known : s.number < v.question.solvers
  pub front : Extends (problem_in s) v.question.formula.problem
  pub within : IsWithin limit s.conflicts
  pub legal : IsLegalFor v.question v.seen
  pub in_step : IsInStep s v.seen

-- its call is under way, on the whole formula
pub record IsSearching (limit : Option ℕ) (s : Parts) (v : View) : Type 0 where
  pub seated : IsSeated limit s v
  pub whole : problem_in s ≡ v.question.formula.problem
  pub assumptions : s.assumptions ≡ v.question.assumptions
  pub under_way : IsUnderWay s

-- the question is this one, and its assumptions name variables that are there
pub record IsAskedOf (q : Question) (formula : Bounded) (assumptions : List Lit) : Type 0 where
  pub formula_is : q.formula ≡ formula
  pub assumptions_are : q.assumptions ≡ assumptions
  pub known : names_known formula.problem.vars (Clause assumptions) ≡ true
  pub few : length assumptions < 2 ^ 32

-- how a run ended, or several together, is so for a question, what its passes know, and what it is that all spent the limit
abbrev pub HasEnded : Question → View → Type 0 → Ending → Type 0
HasEnded q v AllSpent ending.Over = KnowsOutcome v
HasEnded q v AllSpent (ending.Late verdict) = IsRight q.formula.problem q.assumptions verdict
HasEnded q v AllSpent ending.Spent = AllSpent
HasEnded q v AllSpent ending.Memory = Unit {0}

-- a run ended with a verdict, or with another solver's outcome
abbrev pub IsFound : Ending → Type 0
IsFound ending.Over = Unit {0}
IsFound (ending.Late verdict) = Unit {0}
IsFound ending.Spent = ⊥
IsFound ending.Memory = ⊥

-- a run ended with a verdict that came behind another outcome
abbrev pub IsLate : Ending → Type 0
IsLate ending.Over = ⊥
IsLate (ending.Late verdict) = Unit {0}
IsLate ending.Spent = ⊥
IsLate ending.Memory = ⊥

pub late_is_found : (e : Ending) → IsLate e → IsFound e
late_is_found ending.Over late = absurd late
late_is_found (ending.Late verdict) late = tt
late_is_found ending.Spent late = absurd late
late_is_found ending.Memory late = absurd late

-- how the run of one solver ended is so
abbrev pub RunEnded : Option ℕ → Parts → View → Ending → Type 0
RunEnded limit s v e = HasEnded v.question v (IsSpent limit v.question.formula.problem s.conflicts) e

-- a run has ended so, or the alarm's count rose
abbrev pub RunsRight : Option ℕ → Parts → View → ℕ → ℕ → Option Ending → Type 0
RunsRight limit s v before now (Some e) = RunEnded limit s v e
RunsRight limit s v before now None = Rose before now

-- an interval was made whole, and the next one follows
pub record GoesFurther (limit : Option ℕ) (s t : Parts) (v : View) : Type 0 where
  pub searching : IsSearching limit t v
  pub few : s.interval < 2 ^ 20
  pub next : t.interval ≡ s.interval + 1

-- a part of a run made an interval, or ended it, or the alarm's count rose
abbrev pub Advances : Option ℕ → Parts → Parts → View → ℕ → ℕ → Progress → Type 0
Advances limit s t v before now Interval = GoesFurther limit s t v
Advances limit s t v before now (Ended e) = RunEnded limit t v e
Advances limit s t v before now Asked = Rose before now

-- a solver that was asked to stop finds an outcome, or its stop test knew of none
abbrev pub IsAsked : Bool → View → Progress → Type 0
IsAsked stopped v Interval = ⊥
IsAsked stopped v (Ended e) = (e ≡ ending.Over) × (v.posted ≡ true)
IsAsked stopped v Asked = stopped ≡ false

-- equal logs begin with one another
pub starts_equal : (a b : List Shared) → a ≡ b → StartsWith a b
starts_equal a b e = subst (λ l. StartsWith l b) (sym e) (starts_refl b)

-- what a run leaves as it was
pub record KeepsRunner (s t : Parts) (old new : Known) (before now : ℕ) (Kept : Type 0) : Type 0 where
  pub number : t.number ≡ s.number
  pub seat : KeepsSeat old new
  pub seen : StartsWith new.view.seen old.view.seen
  pub later : before ≤ now
  pub alarm : Kept

pub keeps_on : (s t u : Parts) (a b c : Known) (k m n : ℕ) {One Other Both : Type 0} → KeepsRunner s t a b k m One → KeepsRunner t u b c m n Other → Both → KeepsRunner s u a c k n Both
keeps_on s t u a b c k m n f g both = record {
  number = g.number ∙ f.number;
  seat = kept_seat_on a b c f.seat g.seat;
  seen = starts_trans c.view.seen b.view.seen a.view.seen g.seen f.seen;
  later = omega (arith, f.later, g.later);
  alarm = both;
}

pub keeps_none : (s : Parts) (a : Known) (k : ℕ) {Same : Type 0} → Same → KeepsRunner s s a a k k Same
keeps_none s a k same = record { number = refl; seat = kept_seat a; seen = starts_refl a.view.seen; later = omega arith; alarm = same }

-- the first pass is the first still, and belongs where it did
pub record StaysFirst (old new : Known) : Type 0 where
  pub table : new.table ≡ old.table
  pub question : new.view.question ≡ old.view.question
  pub first : new.view.first ≡ true
  pub seen : StartsWith new.view.seen old.view.seen
  pub splits : new.view.splits ≡ old.view.splits
  pub joins : new.view.joins ≡ old.view.joins

-- what a solver and its pass keep over the race
pub record KeepsOther (s t : Parts) (old new : Known) : Type 0 where
  pub number : t.number ≡ s.number
  pub seat : KeepsSeat old new
