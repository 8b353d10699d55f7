-- Stored clauses, read in own literals.
use Rattle.std.specs.Prelude.{◌≡◌, ◌≤◌, ℕ, ◌==◌, Bool, true, false, not, ◌||◌, List, ◌++◌, Some, None, map, filter, filter_map, length, is_some, nat_le, slice_index_or}
use Rattle.std.specs.declared.option.Option.{Option}
use Rattle.std.specs.List.{list_all, list_any}
use Rattle.sat_lits.specs.Truth.{signed}
use Rattle.sat_lits.specs.declared.literal.Lit.{Lit}
use Rattle.sat_lits.specs.declared.literal.Own.{Own}
use Rattle.sat_lits.specs.declared.literal.OwnLit.{OwnLit}
use Rattle.sat_lits.specs.declared.literal.Inner.{Inner}
use Rattle.sat_lits.specs.declared.literal.InLit.{InLit}
use Rattle.sat_lits.specs.declared.literal.ClauseId.{ClauseId}
use Rattle.rebuild_stack.specs.Roots.{root_passes}
use Rattle.rebuild_stack.specs.PutIn.{put_in}
use Rattle.rebuild_stack.specs.declared.entry.Root.{Root}
use Rattle.clause_store.specs.Store.{Store, Held, marked}
use Rattle.var_maps.specs.Maps.{Maps, inner_at, owner_at}
use Rattle.state_laws.specs.Resolution.{mentions}

-- the own variable that has an inner number, or d where none has it
abbrev pub own_or : ℕ → Option Own → Own
own_or d None = record { 0 = d }
own_or d (Some v) = v

-- a stored literal in own numbers; an inner number that no variable has is read as the number of own variables, which no variable has either
abbrev pub own_of : Maps → InLit → OwnLit
own_of m l = record { var = own_or (length m.inners) (owner_at m l.var.0); negative = l.negative }

-- a stored clause in own literals
abbrev pub own_clause : Maps → List InLit → List OwnLit
own_clause m c = map (own_of m) c

-- stored clauses in own literals
abbrev pub own_clauses : Maps → List (List InLit) → List (List OwnLit)
own_clauses m cs = map (own_clause m) cs

-- an outer literal in own numbers
abbrev pub own_outer : Maps → Lit → OwnLit
own_outer m l = record { var = slice_index_or m.outers l.var.0 (record { 0 = 0 }); negative = l.negative }

-- whether the variable of an own literal is active
abbrev pub has_inner : Maps → OwnLit → Bool
has_inner m l = is_some (inner_at m l.var.0)

-- whether a stored clause holds an own variable
abbrev pub touches : Maps → ℕ → Held → Bool
touches m v h = mentions v (own_clause m h.lits)

-- a clause, whether it is learned, and its literals as they are stored
pub record InClause : Type 0 where
  pub learned : Bool
  pub lits : List InLit

-- the same with own literals
pub record OwnClause : Type 0 where
  pub learned : Bool
  pub lits : List OwnLit

-- a stored clause without its id
abbrev pub strip : Held → InClause
strip h = record { learned = h.learned; lits = h.lits }

-- a clause in own literals
abbrev pub in_own : Maps → InClause → OwnClause
in_own m c = record { learned = c.learned; lits = own_clause m c.lits }

-- a hard clause
abbrev pub hard_clause : List OwnLit → OwnClause
hard_clause c = record { learned = false; lits = c }

-- a clause of which something may be left
abbrev pub relisted : Bool → Option (List OwnLit) → Option OwnClause
relisted learned None = None
relisted learned (Some c) = Some (record { learned = learned; lits = c })

-- clauses of what their literals come to, but for those of which nothing is left
abbrev pub put_each : (OwnLit → Root) → List OwnClause → List OwnClause
put_each r cs = filter_map (λ c. relisted c.learned (put_in r c.lits)) cs

-- where a stored clause holds the variable, what its literals come to is active
abbrev pub is_ready : Maps → (OwnLit → Root) → ℕ → Held → Bool
is_ready m r v h = not (touches m v h) || list_all (λ l. root_passes (has_inner m) (r l)) (own_clause m h.lits)

-- the numbers of ids
abbrev pub numbers : List ClauseId → List ℕ
numbers ids = map (λ id. id.0) ids

-- whether a clause has one of the ids
abbrev pub has_id_among : List ℕ → Held → Bool
has_id_among ids h = list_any (λ id. h.id == id) ids

-- a store without the clauses of these ids
abbrev pub without_ids : List ℕ → Store → Store
without_ids ids s = record s { held = filter (λ h. not (has_id_among ids h)) s.held }

-- a walk over stored clauses collected the ids of those that hold the variable, and what they become
pub record Collected (m : Maps) (r : OwnLit → Root) (v : ℕ) (held : List Held) (ids : List ℕ) (fresh : List InClause) : Type 0 where
  pub doomed : ids ≡ map (λ h. h.id) (filter (touches m v) held)
  pub become : map (in_own m) fresh ≡ put_each r (map (λ h. in_own m (strip h)) (filter (touches m v) held))

-- clauses were added behind those of the store, under these new ids, and none is marked
pub record Adds (s t : Store) (ids : List ClauseId) (clauses : List InClause) : Type 0 where
  pub news : List Held
  pub held : t.held ≡ s.held ++ news
  pub numbered : map (λ h. h.id) news ≡ numbers ids
  pub contents : map strip news ≡ clauses
  pub fresh : list_all (λ h. nat_le s.given h.id) news ≡ true
  pub given : s.given ≤ t.given
  pub mark : t.mark ≡ s.mark
  pub marked : marked t ≡ marked s

-- clauses were added behind those of the store, under new ids, and none is marked
pub record ExtendsBy (s t : Store) (clauses : List InClause) : Type 0 where
  pub news : List Held
  pub held : t.held ≡ s.held ++ news
  pub contents : map strip news ≡ clauses
  pub fresh : list_all (λ h. nat_le s.given h.id) news ≡ true
  pub mark : t.mark ≡ s.mark
  pub marked : marked t ≡ marked s

-- the value that inner values give an inner number, false where there is none
abbrev pub inner_value : List Bool → Option Inner → Bool
inner_value values None = false
inner_value values (Some i) = slice_index_or values i.0 false

-- the value that inner values give a stored literal
abbrev pub in_value : List Bool → InLit → Bool
in_value values l = signed l.negative (slice_index_or values l.var.0 false)
