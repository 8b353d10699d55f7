-- The solvers as they go out to their runs and come home.
use Rattle.std.specs.Prelude.{◌≡◌, ◌⊎◌, ℕ, ◌+◌, true, false}
use Rattle.std.specs.declared.option.Option.{Option}
use Rattle.sat_lits.specs.Meaning.{Problem}
use Rattle.share_store.specs.Log.{StartsWith}
use Rattle.share_turn.specs.Views.{Known, IsLegalFor, TableId}
use Rattle.share_turn.specs.declared.view.Question.{Question}
use Rattle.share_turn.specs.declared.view.Phase.TheVariants.{Free}
use Rattle.one_solver.specs.Parts.{Parts, problem_in}
use Rattle.race.specs.declared.ending.Ending.{Ending}
use Rattle.race.specs.Watching.{KnowsOutcome}
use Rattle.race.specs.Running.{IsSeated, RunEnded}
use Rattle.race.specs.Homes.{IsNew}

-- the first pass of an exchange, which holds no turn
pub record IsLeading (q : Question) (table : TableId) (p : Known) : Type 0 where
  pub table_is : p.table ≡ table
  pub question_is : p.view.question ≡ q
  pub first : p.view.first ≡ true
  pub free : p.view.turn ≡ Free
  pub legal : IsLegalFor q p.view.seen

-- a solver other than the first at its place of the list, with its pass
pub record IsSeatOf (limit : Option ℕ) (q : Question) (table : TableId) (k : ℕ) (s : Parts) (p : Known) : Type 0 where
  pub number : s.number ≡ k + 1
  pub table_is : p.table ≡ table
  pub question_is : p.view.question ≡ q
  pub first : p.view.first ≡ false
  pub seated : IsSeated limit s p.view

-- a new solver in place of one that is out
pub record IsNewAt (k : ℕ) (s : Parts) : Type 0 where
  pub number : s.number ≡ k
  pub new : IsNew s

-- the first pass split some passes off
pub record SplitOff (old new : Known) (count : ℕ) : Type 0 where
  pub table : new.table ≡ old.table
  pub question : new.view.question ≡ old.view.question
  pub seen : new.view.seen ≡ old.view.seen
  pub turn : new.view.turn ≡ old.view.turn
  pub first : new.view.first ≡ old.view.first
  pub alarmed : new.view.alarmed ≡ old.view.alarmed
  pub joins : new.view.joins ≡ old.view.joins
  pub splits : new.view.splits ≡ old.view.splits + count

-- a run is over, and the solver may come home
pub record IsDone (limit : Option ℕ) (q : Question) (table : TableId) (k : ℕ) (s : Parts) (p : Known) (e : Ending) : Type 0 where
  pub seat : IsSeatOf limit q table k s p
  pub ended : RunEnded limit s p.view e

-- a solver came to its place with the whole formula taken, or the one that stands there stays
abbrev pub ComesHome : Problem → Parts → Parts → Parts → Type 0
ComesHome f s old new = (new ≡ old) ⊎ ((new.number ≡ s.number) × (problem_in new ≡ f) × (new.conflicts ≡ s.conflicts))

-- the first pass with another one joined
pub record JoinedOne (old new other : Known) : Type 0 where
  pub table : new.table ≡ old.table
  pub question : new.view.question ≡ old.view.question
  pub first : new.view.first ≡ old.view.first
  pub free : new.view.turn ≡ old.view.turn
  pub alarmed : new.view.alarmed ≡ old.view.alarmed
  pub splits : new.view.splits ≡ old.view.splits
  pub joins : new.view.joins ≡ old.view.joins + 1
  pub seen : StartsWith new.view.seen old.view.seen
  pub covers : StartsWith new.view.seen other.view.seen
  pub one : (new.view.seen ≡ old.view.seen) ⊎ (new.view.seen ≡ other.view.seen)
  pub outcome : KnowsOutcome old.view ⊎ KnowsOutcome other.view → KnowsOutcome new.view
