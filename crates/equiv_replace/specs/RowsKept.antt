-- What the fields of a graph mean, and what they keep.
use Rattle.std.specs.Prelude.{ℕ, List}
use Rattle.equiv_replace.specs.declared.graph.Graph.TheInside.{Inside}
use Rattle.equiv_replace.specs.Rows.{rows_of, AreRows}

abbrev pub graph_of : Inside → List (List ℕ)
graph_of g = rows_of g.starts.items g.heads.items

abbrev pub IsKept : Inside → Type 0
IsKept g = AreRows g.starts.items g.heads.items
