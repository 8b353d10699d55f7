-- What the fields of marks mean, and what they keep.
use Rattle.std.specs.Prelude.{◌≡◌, ℕ, ◌==◌, Bool, false, List, length, slice_index_or}
use Rattle.std.specs.List.{list_any}
use Rattle.analyze.specs.declared.marks.Marks.TheInside.{Inside}
use Rattle.analyze.specs.Marking.{Marking}

-- the entry of a variable in a table
abbrev pub flag : List Bool → ℕ → Bool
flag table v = slice_index_or table v false

-- the marked variables stand in a list, and the table has a place for each variable that may be marked
abbrev pub marking_of : Inside → Marking
marking_of marks = record { vars = marks.marked.items; room = length marks.table.items }

-- the table says which variables stand in the list
abbrev pub Agrees : Inside → Type 0
Agrees marks = (v : ℕ) → flag marks.table.items v ≡ list_any (λ w. w.0 == v) marks.marked.items
