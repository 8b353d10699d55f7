-- Learned clauses that are dropped again.
use Rattle.std.specs.Prelude.{◌≡◌, ◌≤◌, ◌-◌, ℕ, Bool, true, false, not, ◌&&◌, List, [], ◌∷◌, ◌++◌, if◌then◌else◌, length, map, filter, drop, nat_lt, option_map, unwrap_or, IfSome, All, Contains}
use Rattle.std.specs.declared.option.Option.{Option}
use Rattle.std.specs.Global.{Vec}
use Rattle.std.specs.List.{list_all}
use Rattle.sat_lits.specs.declared.literal.ClauseId.{ClauseId}
use Rattle.clause_store.specs.Store.{Store, Held, clause_at, is_live, before, contents}
use Rattle.state_laws.specs.Kernel.{Kernel, state_of}

-- whether a clause is a learned one of more than two literals
abbrev pub is_long : Held → Bool
is_long clause = clause.learned && nat_lt 2 (length clause.lits)

-- whether the clause of an id is
abbrev pub is_long_at : List Held → ℕ → Bool
is_long_at held id = unwrap_or (option_map is_long (clause_at held id)) false

-- nothing but learned clauses was dropped, and none is marked that was not
pub record HasForgotten (old new : Kernel) : Type 0 where
  pub same : new ≡ record old { store = new.store }
  pub hard : (state_of new).hard ≡ (state_of old).hard
  pub marked : All (Contains (state_of old).marked_learned) (state_of new).marked_learned

-- at most so many learned clauses of more than two literals are held
abbrev pub HasFewLong : ℕ → Kernel → Type 0
HasFewLong most k = length (filter is_long k.store.held) ≤ most

-- of the learned clauses of more than two literals the last so many are left, and all other clauses are, in order and whatever their ids
pub record KeepsNewest (keep : ℕ) (old new : List Held) : Type 0 where
  pub long : contents (filter is_long new) ≡ drop (length (filter is_long old) - keep) (contents (filter is_long old))
  pub others : contents (filter (λ clause. not (is_long clause)) new) ≡ contents (filter (λ clause. not (is_long clause)) old)

-- the numbers of the ids in a list, if there is one
abbrev pub numbers_in : Option (Vec ClauseId) → Option (List ℕ)
numbers_in ids = option_map (λ list. map (λ id. id.0) list.items) ids

-- the ids that a walk noted, with one more where its clause is a long learned one
abbrev pub noted : Bool → ℕ → Option (List ℕ) → Option (List ℕ)
noted long id ids = option_map (λ numbers. if long then numbers ++ id ∷ [] else numbers) ids

-- the live ones of the ids that a walk noted are those of the long learned clauses before the one where it stands, and all are below it
pub record HasNoted (store : Store) (at : Option ClauseId) (ids : List ℕ) : Type 0 where
  pub live : filter (is_live store.held) ids ≡ map (λ clause. clause.id) (filter is_long (before store.held at))
  pub below : IfSome at (λ id. list_all (λ n. nat_lt n id.0) ids ≡ true)

-- where a walk notes ids, it has noted those of the long learned clauses
abbrev pub NotesLong : Store → Option ClauseId → Option (Vec ClauseId) → Type 0
NotesLong store at ids = IfSome (numbers_in ids) (HasNoted store at)
