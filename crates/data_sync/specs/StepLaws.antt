-- What keeps a book in step with a log.
use Rattle.std.proofs.Common.{◌++◌, List}
use Rattle.sat_lits.specs.declared.shared.Shared.{Shared}
use Rattle.state_laws.specs.State.{State, no_state}
use Rattle.sync_laws.specs.Met.{KeepsMet}
use Rattle.sync_laws.specs.ToldLaws.{told_none, told_grows}
use Rattle.sync_laws.specs.StepLaws.{first-IsInStep, longer-IsInStep, kept-IsInStep}
use Rattle.data_sync.specs.Books.{Book, no_book}
use Rattle.data_sync.specs.Syncs.{InStepWith}
use Rattle.data_sync.specs.GivingLaws.{has_longer}

-- nothing was taken, read or marked
pub first-InStepWith : (log : List Shared) → InStepWith no_state no_book log
first-InStepWith log = record { step = first-IsInStep log; told = told_none log }

-- the log grows
pub longer-InStepWith : (s : State) (book : Book) (log more : List Shared) → InStepWith s book log → InStepWith s book (log ++ more)
longer-InStepWith s book log more h = record { step = longer-IsInStep s book.cursor book.waiting log more h.step; told = told_grows s log (log ++ more) (λ c g. has_longer log more c g) h.told }

-- a change of the state keeps what is met
pub kept-InStepWith : (s t : State) (book : Book) (log : List Shared) → KeepsMet s t → InStepWith s book log → InStepWith t book log
kept-InStepWith s t book log k h = record { step = kept-IsInStep s t book.cursor book.waiting log k h.step; told = k.told log h.told }
