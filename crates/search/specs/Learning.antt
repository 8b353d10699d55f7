-- What an interval adds to a state.
use Rattle.std.specs.Prelude.{◌≡◌, ℕ, ◌≤◌, Bool, true, ◌&&◌, List, [], ◌∷◌, ◌++◌, length, map}
use Rattle.sat_lits.specs.declared.literal.InLit.{InLit}
use Rattle.clause_store.specs.Store.{Held, held_as, hard_of, learned_of, marked}
use Rattle.analyze.specs.Quiet.{is_new}
use Rattle.state_laws.specs.Kernel.{Kernel}

-- whether each clause has all literals of none that stands before it, be it held or one of these
abbrev pub each_new : List Held → List Held → Bool
each_new held [] = true
each_new held (clause ∷ more) = is_new held clause.lits && each_new (held ++ clause ∷ []) more

-- nothing but a learned clause was added to a state, under a new id, and it is not marked
pub record HasAdded (k n : Kernel) (lits : List InLit) (id : ℕ) : Type 0 where
  pub same : n ≡ record k { store = n.store }
  pub held : n.store.held ≡ k.store.held ++ held_as id true lits ∷ []
  pub fresh : k.store.given ≤ id
  pub marked : marked n.store ≡ marked k.store

-- nothing but so many learned clauses was added to a state, each of them new, and none is marked
pub record HasLearned (k n : Kernel) (count : ℕ) : Type 0 where
  pub news : List Held
  pub same : n ≡ record k { store = n.store }
  pub held : n.store.held ≡ k.store.held ++ news
  pub hard : hard_of n.store.held ≡ hard_of k.store.held
  pub learned : learned_of n.store.held ≡ learned_of k.store.held ++ map (λ clause. clause.lits) news
  pub new : each_new k.store.held news ≡ true
  pub counted : length news ≡ count
  pub marked : marked n.store ≡ marked k.store
