-- What an interval answers.
use Rattle.std.specs.Prelude.{◌≡◌, ℕ, ◌^◌, ◌<◌, ◌≤◌, nat_lt, Bool, true, false, List, length, Some, None, IfSome, if◌then◌else◌}
use Rattle.std.specs.declared.option.Option.{Option}
use Rattle.std.specs.List.{list_all}
use Rattle.std.specs.List.Sorted.{IsStrictlyIncreasing}
use Rattle.sat_lits.specs.Truth.{clauses_value}
use Rattle.sat_lits.specs.declared.literal.InLit.{InLit}
use Rattle.sat_lits.specs.Conflicts.{interval_len}
use Rattle.sat_ports.specs.Causes.{Rose}
use Rattle.clause_store.specs.Store.{Held, hard_of}
use Rattle.propagate.specs.Reasons.{lit_value, held_value}
use Rattle.state_laws.specs.Held.{in_value}
use Rattle.state_laws.specs.Kernel.{Kernel}
use Rattle.search.specs.declared.answer.IntervalAnswer.{IntervalAnswer}
use Rattle.search.specs.declared.answer.IntervalAnswer.TheVariants.{Model, Failed, IntervalOver, Spent, Asked, Memory}
use Rattle.search.specs.Assumed.{assumption_at}
use Rattle.search.specs.Learning.{HasLearned}

-- a value for each inner number, under which the hard clauses and the assumptions are true
pub record IsInnerModel (k : Kernel) (assumptions : List InLit) (values : List Bool) : Type 0 where
  pub whole : length values ≡ length k.maps.owners
  pub hard : clauses_value (in_value values) (hard_of k.store.held) ≡ true
  pub assumed : list_all (in_value values) assumptions ≡ true

-- rising positions of assumptions, of which one is false wherever all clauses are true
pub record AreFailed (held : List Held) (assumptions : List InLit) (positions : List ℕ) : Type 0 where
  pub rising : IsStrictlyIncreasing positions
  pub within : list_all (λ p. nat_lt p (length assumptions)) positions ≡ true
  pub contradict : (values : ℕ → Bool) → held_value values held ≡ true → list_all (λ p. lit_value values (assumption_at assumptions p)) positions ≡ false

-- an answer is right of the clauses and the assumptions, and a stop is one that was asked for
abbrev pub AnswersRight : Kernel → List InLit → ℕ → ℕ → IntervalAnswer → Type 0
AnswersRight k assumptions before now (Model values) = IsInnerModel k assumptions values
AnswersRight k assumptions before now (Failed positions) = AreFailed k.store.held assumptions positions
AnswersRight k assumptions before now IntervalOver = Unit {0}
AnswersRight k assumptions before now Spent = Unit {0}
AnswersRight k assumptions before now Asked = Rose before now
AnswersRight k assumptions before now Memory = Unit {0}

-- whether an answer is one that comes at a number of conflicts
abbrev pub is_count : IntervalAnswer → Bool
is_count (Model values) = false
is_count (Failed positions) = false
is_count IntervalOver = true
is_count Spent = true
is_count Asked = false
is_count Memory = false

-- whether it is one that a search comes to by itself
abbrev pub is_found : IntervalAnswer → Bool
is_found (Model values) = true
is_found (Failed positions) = true
is_found IntervalOver = false
is_found Spent = false
is_found Asked = false
is_found Memory = true

-- the number of conflicts of an interval, or none where it has no end but an answer
abbrev pub own_length : ℕ → Option ℕ
own_length k = if nat_lt k (2 ^ 20) then Some (interval_len k) else None

-- a count is below a number, where there is one
abbrev pub IsBelow : ℕ → Option ℕ → Type 0
IsBelow count number = IfSome number (λ n. count < n)

-- or not above it
abbrev pub IsUpTo : ℕ → Option ℕ → Type 0
IsUpTo count number = IfSome number (λ n. count ≤ n)

-- an answer comes at the right number of conflicts: at the interval's own number, at the number that is left, which goes before, or below both
abbrev pub EndsRight : Option ℕ → Option ℕ → ℕ → IntervalAnswer → Type 0
EndsRight own left conflicts (Model values) = IsBelow conflicts own × IsBelow conflicts left
EndsRight own left conflicts (Failed positions) = IsBelow conflicts own × IsBelow conflicts left
EndsRight own left conflicts IntervalOver = (own ≡ Some conflicts) × IsBelow conflicts left
EndsRight own left conflicts Spent = (left ≡ Some conflicts) × IsUpTo conflicts own
EndsRight own left conflicts Asked = IsBelow conflicts own × IsBelow conflicts left
EndsRight own left conflicts Memory = IsUpTo conflicts own × IsUpTo conflicts left

-- one clause was learned for each conflict, or at want of memory for all but some last ones
abbrev pub LearnsRight : Kernel → Kernel → ℕ → IntervalAnswer → Type 0
LearnsRight k n conflicts (Model values) = HasLearned k n conflicts
LearnsRight k n conflicts (Failed positions) = HasLearned k n conflicts
LearnsRight k n conflicts IntervalOver = HasLearned k n conflicts
LearnsRight k n conflicts Spent = HasLearned k n conflicts
LearnsRight k n conflicts Asked = HasLearned k n conflicts
LearnsRight k n conflicts Memory = (count : ℕ) × (count ≤ conflicts) × HasLearned k n count
