-- The rows of a graph: for each node the heads of its edges.
use Rattle.std.specs.Prelude.{◌≡◌, ◌<◌, ◌≤◌, ℕ, ◌+◌, ◌^◌, ◌==◌, true, List, [], ◌∷◌, map, filter, length, take, drop, nat_lt, slice_range, slice_index, slice_index_or}
use Rattle.std.specs.List.{list_all}
use Rattle.equiv_replace.specs.declared.edges.Edge.{Edge}

-- the nodes to which edges of a list lead from a node, in order
abbrev pub heads_from : ℕ → List Edge → List ℕ
heads_from a edges = map (λ e. e.to) (filter (λ e. e.from == a) edges)

-- the number of edges from a node
abbrev pub degree : ℕ → List Edge → ℕ
degree a edges = length (heads_from a edges)

-- every edge leads from a node below a number
abbrev pub StartInside : ℕ → List Edge → Type 0
StartInside n edges = list_all (λ e. nat_lt e.from n) edges ≡ true

-- where the row of each node ends, if the rows stand one behind the other in a list that is as long as that of the edges
pub record AreEnds (ends : List ℕ) (edges : List Edge) : Type 0 where
  pub first : 0 < length ends → slice_index ends 0 ≡ degree 0 edges
  pub next : (a : ℕ) → a + 1 < length ends → slice_index ends (a + 1) ≡ slice_index ends a + degree (a + 1) edges
  pub within : (a : ℕ) → a < length ends → slice_index ends a ≤ length edges

-- the rows are filled from their ends down to these starts
pub record AreFilled (ends starts heads : List ℕ) (edges : List Edge) : Type 0 where
  pub each : length starts ≡ length ends
  pub starts_at : (a : ℕ) → a < length ends → slice_index starts a + degree a edges ≡ slice_index ends a
  pub rows : (a : ℕ) → a < length ends → take (degree a edges) (drop (slice_index starts a) heads) ≡ heads_from a edges

-- the rows of heads between these starts, where each ends at the next start
abbrev pub rows_of : List ℕ → List ℕ → List (List ℕ)
rows_of [] heads = []
rows_of (start ∷ []) heads = []
rows_of (start ∷ end ∷ starts) heads = slice_range heads start end ∷ rows_of (end ∷ starts) heads

-- the starts rise and are within the heads, and nodes have 32 bits
pub record AreRows (starts heads : List ℕ) : Type 0 where
  pub some : 0 < length starts
  pub few : length starts ≤ 2 ^ 32 + 1
  pub rise : (a : ℕ) → a + 1 < length starts → slice_index starts a ≤ slice_index starts (a + 1)
  pub within : (a : ℕ) → a < length starts → slice_index starts a ≤ length heads

-- the rows are those of edges between nodes below the last start
pub record AreRowsOf (starts heads : List ℕ) (edges : List Edge) : Type 0 where
  pub kept : AreRows starts heads
  pub nodes : length (rows_of starts heads) + 1 ≡ length starts
  pub heads_are : (a : ℕ) → slice_index_or (rows_of starts heads) a [] ≡ heads_from a edges
