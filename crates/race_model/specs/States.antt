-- What contracts see of a machine, and what its solvers know.
use Rattle.std.specs.Prelude.{◌≡◌, ℕ, List, [], ◌∷◌, ◌++◌, length, take, replicate, slice_set, slice_index_or}
use Rattle.std.specs.List.{slice_get, filter_map}
use Rattle.sat_lits.specs.Meaning.{Problem}
use Rattle.sat_lits.specs.Logs.{with_clauses}
use Rattle.sat_lits.specs.declared.shared.Shared.{Shared}
use Rattle.race_model.specs.declared.taken.Taken.{Taken}

-- a formula, the log of the clauses that its solvers gave, and what each solver took
pub record State : Type 0 where
  pub formula : Problem
  pub log : List Shared
  pub taken : List Taken

-- what a solver took that took nothing
abbrev pub nothing : Taken
nothing = record { items = 0; places = [] }

-- no items, an empty log, and solvers that have taken nothing
abbrev pub start : ℕ → ℕ → State
start solvers vars =
    let formula : Problem = record { vars = vars; items = [] } in
    record { formula = formula; log = []; taken = replicate solvers nothing }

-- what this solver took
abbrev pub taken_by : State → ℕ → Taken
taken_by s solver = slice_index_or s.taken solver nothing

-- the formula of the items that it took
abbrev pub absorbed : State → ℕ → Problem
absorbed s solver =
    record { vars = s.formula.vars; items = take (taken_by s solver).items s.formula.items }

-- the entries at these places of a log, where there are entries
abbrev pub entries_at : List Shared → List ℕ → List Shared
entries_at log places = filter_map (λ place. slice_get log place) places

-- the entries that it took
abbrev pub entries_of : State → ℕ → List Shared
entries_of s solver = entries_at s.log (taken_by s solver).places

-- what it knows: the items that it took, with the clauses of the entries that it took
abbrev pub known_to : State → ℕ → Problem
known_to s solver = with_clauses (absorbed s solver) (entries_of s solver)

-- it took all items so far
abbrev pub HasAllItems : State → ℕ → Type 0
HasAllItems s solver = (taken_by s solver).items ≡ length s.formula.items

-- the state where this solver took this, and the others what they took before
abbrev pub with_taken : State → ℕ → Taken → State
with_taken s solver taken = record s { taken = slice_set s.taken solver taken }

-- the state where it took all items
abbrev pub with_all_items : State → ℕ → State
with_all_items s solver =
    let taken = taken_by s solver in
    with_taken s solver (record { items = length s.formula.items; places = taken.places })

-- the state where it took one place more
abbrev pub with_place : State → ℕ → ℕ → State
with_place s solver place =
    let taken = taken_by s solver in
    with_taken s solver (record { items = taken.items; places = taken.places ++ place ∷ [] })
