-- The graph of binary clauses. It has two nodes for each variable, and each clause leads from the negation of either literal to the other one.
use Rattle.std.specs.Prelude.{◌≡◌, ℕ, ◌+◌, ◌*◌, ◌/◌, ◌%◌, ◌==◌, Bool, false, not, cond, if◌then◌else◌, Some, None, ◌⊎◌, List, [], ◌∷◌, ◌++◌, length, nat_lt}
use Rattle.std.specs.declared.option.Option.{Option}
use Rattle.std.specs.List.{Contains, list_all}
use Rattle.sat_lits.specs.declared.literal.InLit.{InLit}
use Rattle.clause_store.specs.Store.{Held}
use Rattle.equiv_replace.specs.Graphs.{heads_of, HasEdge}
use Rattle.equiv_replace.specs.declared.edges.Edge.{Edge}
use Rattle.equiv_replace.specs.Rows.{heads_from}

-- the node of a literal
abbrev pub node_of : InLit → ℕ
node_of l = cond l.negative (2 * l.var.0 + 1) (2 * l.var.0)

-- the opposite literal
abbrev pub negated : InLit → InLit
negated l = record { var = l.var; negative = not l.negative }

-- the literal of a node
abbrev pub lit_of : ℕ → InLit
lit_of a = record { var = record { 0 = a / 2 }; negative = a % 2 == 1 }

-- the node of the opposite literal
abbrev pub flipped : ℕ → ℕ
flipped a = node_of (negated (lit_of a))

-- whether the nodes of a literal and of its opposite are below n
abbrev pub is_below : ℕ → InLit → Bool
is_below n l = nat_lt (2 * l.var.0 + 1) n

-- whether the literals of a stored clause are
abbrev pub are_below : ℕ → Held → Bool
are_below n h = list_all (is_below n) h.lits

-- the literals of a clause that has two
abbrev pub two_of : List InLit → Option (InLit × InLit)
two_of [] = None
two_of (x ∷ []) = None
two_of (x ∷ y ∷ []) = Some (x, y)
two_of (x ∷ y ∷ z ∷ lits) = None

-- the literals of a hard clause that has two
abbrev pub binary_of : Held → Option (InLit × InLit)
binary_of h = if h.learned then None else two_of h.lits

-- the edge from the opposite of a literal to another literal
abbrev pub edge_of : InLit → InLit → Edge
edge_of x y = record { from = node_of (negated x); to = node_of y }

-- the edges of a clause that has two literals
abbrev pub edges_in : Option (InLit × InLit) → List Edge
edges_in None = []
edges_in (Some p) = edge_of p.0 p.1 ∷ edge_of p.1 p.0 ∷ []

-- the edges of the hard clauses of two literals
abbrev pub edges_of : List Held → List Edge
edges_of [] = []
edges_of (h ∷ held) = edges_in (binary_of h) ++ edges_of held

-- a hard clause of these two literals, in this order, is among stored clauses
pub record IsBinary (held : List Held) (x y : InLit) : Type 0 where
  pub clause : Held
  pub stands : Contains held clause
  pub hard : clause.learned ≡ false
  pub lits : clause.lits ≡ x ∷ y ∷ []

-- an edge is that of a clause
pub record ComesFrom (held : List Held) (a b : ℕ) : Type 0 where
  pub first : InLit
  pub second : InLit
  pub clause : IsBinary held first second ⊎ IsBinary held second first
  pub from : a ≡ node_of (negated first)
  pub to : b ≡ node_of second

-- the edges of a graph are those of the hard clauses of two literals
pub record TellsClauses (g : List (List ℕ)) (held : List Held) : Type 0 where
  pub each : (x y : InLit) → IsBinary held x y → HasEdge g (node_of (negated x)) (node_of y) × HasEdge g (node_of (negated y)) (node_of x)
  pub only : (a b : ℕ) → HasEdge g a b → ComesFrom held a b

-- a graph has the edges of the hard clauses of two literals, over the nodes of so many variables
pub record IsBinaryGraph (held : List Held) (vars : ℕ) (g : List (List ℕ)) : Type 0 where
  pub nodes : length g ≡ 2 * vars
  pub heads : (a : ℕ) → heads_of g a ≡ heads_from a (edges_of held)
