-- What holds between two moves of a search. A list of steps stands newest first.
use Rattle.std.specs.Prelude.{◌≡◌, ◌⊎◌, ℕ, ◌+◌, ◌^◌, ◌<◌, ◌≤◌, true, List, ◌∷◌, length, map, take, slice_index_or}
use Rattle.trail.specs.declared.trail.Step.{Step}
use Rattle.trail.specs.Trail.{lits_of, shaped, back_to}
use Rattle.clause_store.specs.Store.{Held}
use Rattle.propagate.specs.Reasons.{reasoned}
use Rattle.propagate.specs.Watching.{IsFront, taken_as}
use Rattle.analyze.specs.Quiet.{QuietBelow}
use Rattle.analyze.specs.Counting.{saturated}
use Rattle.pick_order.specs.Orders.{HasPassedSet}
use Rattle.search_laws.specs.TrailNumber.{IsBounded}
use Rattle.state_laws.specs.Kernel.{Kernel}
use Rattle.search.specs.declared.work.Work.{Work}
use Rattle.search.specs.InUse.{in_use, lits_among, clauses_among, steps_among}
use Rattle.search.specs.Ordering.{HasJust}
use Rattle.search.specs.Learning.{HasLearned}
use Rattle.search.specs.Assumed.{HasAssumed}

-- a trail over variables in use that clauses gave from decisions, each made where no clause was false or unit, and no more conflicts than its number
pub record IsSearching (held : List Held) (numbers : List ℕ) (conflicts : ℕ) (steps : List Step) : Type 0 where
  pub sound : shaped steps ≡ true
  pub reasons : reasoned held steps ≡ true
  pub active : steps_among numbers steps ≡ true
  pub quiet : QuietBelow held steps
  pub bound : IsBounded (length numbers) steps conflicts

-- the tables of a search are those of the state, and what the order passed over is set
pub record HasTables (k : Kernel) (work : Work) : Type 0 where
  pub reserved : work.trail.reserved ≡ length k.maps.owners
  pub variables : work.watches.variables ≡ length k.maps.owners
  pub order : HasJust work.order.known (in_use k.maps)
  pub passed : HasPassedSet work.order work.trail.steps
  pub taken : work.watches.taken ≡ map taken_as k.store.held
  pub done : IsFront work.watches.done (lits_of work.trail.steps)
  pub clauses : clauses_among (in_use k.maps) k.store.held ≡ true
  pub assumptions : lits_among (in_use k.maps) work.assumptions ≡ true
  pub few : length work.assumptions < 2 ^ 32

-- a search between two moves
pub record AtMove (k : Kernel) (work : Work) : Type 0 where
  pub tables : HasTables k work
  pub searching : IsSearching k.store.held (in_use k.maps) work.conflicts work.trail.steps
  pub assumes : HasAssumed work.assumptions work.positions work.next work.trail.steps
  pub fewer : 0 < length k.store.held → work.conflicts < length k.store.held

-- a search that went back to a level: what it was done with above it is undone, and so are the assumptions that were decided above it
abbrev pub gone_back : ℕ → Work → Work
gone_back level work =
    record work {
      trail = record work.trail { steps = back_to level work.trail.steps };
      watches = record work.watches { done = take (length (back_to level work.trail.steps)) work.watches.done };
      positions = take level work.positions;
      next = slice_index_or work.positions level work.next;
    }

-- a step more stands on the trail
abbrev pub with_step : Step → Work → Work
with_step s work = record work { trail = record work.trail { steps = s ∷ work.trail.steps } }

-- memory ran out after a conflict: it was counted or not, and its clause was added or not, and it was not added without being counted
pub record EndsShort (k n : Kernel) (conflicts after tally now : ℕ) : Type 0 where
  pub counted : ((after ≡ conflicts) × (now ≡ tally)) ⊎ ((after ≡ saturated conflicts 1) × (now ≡ saturated tally 1))
  pub added : ℕ
  pub few : conflicts + added ≤ after
  pub learned : HasLearned k n added
