-- What contracts see of a clause store.
use Rattle.std.specs.Prelude.{◌≡◌, ℕ, ◌≤◌, ◌^◌, ◌==◌, nat_lt, Bool, true, if◌then◌else◌, not, ◌&&◌, List, [], ◌∷◌, map, filter, find, Option, Some, None, is_some}
use Rattle.std.specs.List.{list_all}
use Rattle.sat_lits.specs.InLits.{is_distinct}
use Rattle.sat_lits.specs.declared.literal.InLit.{InLit}
use Rattle.sat_lits.specs.declared.literal.ClauseId.{ClauseId}

-- a clause that is held, with its id
pub record Held : Type 0 where
  pub id : ℕ
  pub learned : Bool
  pub lits : List InLit

-- a clause with its id, its list and its literals
abbrev pub held_as : ℕ → Bool → List InLit → Held
held_as id learned lits = record { id = id; learned = learned; lits = lits }

-- the clauses that are held, in order of addition, a number above every id given since the ids were last given anew, and the mark, below which the ids of those clauses are that were held when it was set
pub record Store : Type 0 where
  pub held : List Held
  pub given : ℕ
  pub mark : ℕ

-- the clause of an id
abbrev pub clause_at : List Held → ℕ → Option Held
clause_at held id = find (λ clause. clause.id == id) held

-- whether a clause has the id
abbrev pub is_live : List Held → ℕ → Bool
is_live held id = is_some (clause_at held id)

-- the clauses that stand before that of an id, or all of them where no id is named
abbrev pub before : List Held → Option ClauseId → List Held
before [] end = []
before (clause ∷ rest) None = clause ∷ rest
before (clause ∷ rest) (Some id) = if clause.id == id.0 then [] else (clause ∷ before rest (Some id))

-- all clauses but that of an id
abbrev pub without : ℕ → List Held → List Held
without id held = filter (λ clause. not (clause.id == id)) held

-- the literals of the hard clauses, in order
abbrev pub hard_of : List Held → List (List InLit)
hard_of held = map (λ clause. clause.lits) (filter (λ clause. not clause.learned) held)

-- the literals of the learned clauses, in order
abbrev pub learned_of : List Held → List (List InLit)
learned_of held = map (λ clause. clause.lits) (filter (λ clause. clause.learned) held)

-- the clauses that were held when the mark was set and are held still, in order
abbrev pub marked : Store → List Held
marked store = filter (λ clause. nat_lt clause.id store.mark) store.held

-- what a clause is, whatever its id: whether it is learned, and its literals
abbrev pub contents : List Held → List (Bool × List InLit)
contents held = map (λ clause. (clause.learned, clause.lits)) held

-- whether ids rise from clause to clause
abbrev pub rising : List Held → Bool
rising [] = true
rising (clause ∷ rest) = list_all (λ later. nat_lt clause.id later.id) rest && rising rest

-- what every store keeps: ids were given, those that were given fit four bytes, the mark is not above them, ids rise in order of addition, and no literal stands twice in a clause
pub record IsKept (store : Store) : Type 0 where
  pub below : list_all (λ clause. nat_lt clause.id store.given) store.held ≡ true
  pub few : store.given ≤ 2 ^ 32
  pub marked : store.mark ≤ store.given
  pub rises : rising store.held ≡ true
  pub distinct : list_all (λ clause. is_distinct clause.lits) store.held ≡ true
