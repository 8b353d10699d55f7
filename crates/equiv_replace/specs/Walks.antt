-- What a walk over a graph keeps.
use Rattle.std.specs.Prelude.{◌≡◌, ◌<◌, ◌≤◌, ℕ, ◌+◌, ◌^◌, List, [], ◌∷◌, ◌++◌, ◌⊎◌, length, slice_index, slice_index_or, slice_set}
use Rattle.std.specs.List.{Contains}
use Rattle.equiv_replace.specs.declared.components.Mark.{Mark}
use Rattle.equiv_replace.specs.declared.components.Mark.TheVariants.{New, Open, Closed}
use Rattle.equiv_replace.specs.declared.components.Walk.{Walk}
use Rattle.equiv_replace.specs.Graphs.{HasEdge, Leads}
use Rattle.equiv_replace.specs.Parts.{Part, opened, heads_left}

-- what is known of a node
abbrev pub mark_of : List Mark → ℕ → Mark
mark_of marks a = slice_index_or marks a New

-- nodes are given the number of a component
abbrev pub all_closed : ℕ → List ℕ → List Mark → List Mark
all_closed number [] marks = marks
all_closed number (a ∷ nodes) marks = all_closed number nodes (slice_set marks a (Closed number))

-- the component of a node was closed
abbrev pub IsClosed : List Mark → ℕ → Type 0
IsClosed marks a = (r : ℕ) × (mark_of marks a ≡ Closed r)

-- nodes and heads of a part
abbrev pub seen_by : Part → List ℕ
seen_by p = p.nodes ++ p.heads

-- every node of a path leads to those of its own part and of newer ones, and to their heads, and all are nodes of the graph
abbrev pub IsLinked : List (List ℕ) → List Part → Type 0
IsLinked g [] = Unit {0}
IsLinked g (p ∷ older) = ((a b : ℕ) → Contains (opened (p ∷ older)) a → Contains (seen_by p) b → Leads g a b) × ((b : ℕ) → Contains (seen_by p) b → b < length g) × IsLinked g older

-- the edges of a path's nodes lead to nodes of which one fact holds, or to those that the own part or a newer one saw
abbrev pub IsCovered : List (List ℕ) → (ℕ → Type 0) → List Part → Type 0
IsCovered g R [] = Unit {0}
IsCovered g R (p ∷ older) = ((a b : ℕ) → Contains p.nodes a → HasEdge g a b → R b ⊎ Contains (seen_by p) b) × IsCovered g (λ b. R b ⊎ Contains (seen_by p) b) older

-- of the components that were closed
pub record AreClosed (g : List (List ℕ)) (marks : List Mark) (closed : ℕ) : Type 0 where
  pub below : (a r : ℕ) → mark_of marks a ≡ Closed r → r < closed
  pub falls : (a b r : ℕ) → mark_of marks a ≡ Closed r → HasEdge g a b → (q : ℕ) × (mark_of marks b ≡ Closed q) × (q ≤ r)
  pub together : (a b r : ℕ) → mark_of marks a ≡ Closed r → mark_of marks b ≡ Closed r → Leads g a b

-- a number stands at a place of a list
abbrev pub StandsAt : List ℕ → ℕ → ℕ → Type 0
StandsAt xs at a = (at < length xs) × (slice_index xs at ≡ a)

-- the number of nodes of which nothing is known
abbrev pub news : List Mark → ℕ
news [] = 0
news (New ∷ marks) = 1 + news marks
news (Open at ∷ marks) = news marks
news (Closed r ∷ marks) = news marks

-- what is to be done for the nodes of which nothing is known
abbrev pub news_left : List (List ℕ) → List Mark → ℕ
news_left g [] = 0
news_left [] (m ∷ marks) = 0
news_left (heads ∷ g) (New ∷ marks) = length heads + 2 + news_left g marks
news_left (heads ∷ g) (Open at ∷ marks) = news_left g marks
news_left (heads ∷ g) (Closed r ∷ marks) = news_left g marks

-- what is to be done
abbrev pub left : List (List ℕ) → Walk → ℕ
left g w = news_left g w.marks.items + (heads_left w.path + length w.path)

-- a walk over a graph, where edges may lead to these nodes too
pub record IsWalking (g : List (List ℕ)) (extra : List ℕ) (marks : List Mark) (path : List Part) (closed : ℕ) : Type 0 where
  pub each : length marks ≡ length g
  pub places : (a at : ℕ) → mark_of marks a ≡ Open at → StandsAt (opened path) at a
  pub marked : (a at : ℕ) → StandsAt (opened path) at a → mark_of marks a ≡ Open at
  pub linked : IsLinked g path
  pub covered : IsCovered g (λ b. IsClosed marks b ⊎ Contains extra b) path
  pub components : AreClosed g marks closed
  pub room : closed + (length path + news marks) ≤ length g
  pub fits : length (opened path) + news marks ≤ length g
  pub few : length g ≤ 2 ^ 32

abbrev pub IsWalk : List (List ℕ) → List ℕ → Walk → Type 0
IsWalk g extra w = IsWalking g extra w.marks.items w.path w.closed

-- nodes of which nothing is known now were so before
abbrev pub KnowsMore : List Mark → List Mark → Type 0
KnowsMore old new = (a : ℕ) → mark_of new a ≡ New → mark_of old a ≡ New

-- the number of a component that was closed
abbrev pub number_of : Mark → ℕ
number_of New = 0
number_of (Open at) = 0
number_of (Closed r) = r
