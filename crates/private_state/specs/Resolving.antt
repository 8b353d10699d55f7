-- Clauses that are to be stored for given ones, and clauses that are taken out.
use Rattle.std.specs.Prelude.{◌≡◌, ℕ, List, map, filter}
use Rattle.sat_lits.specs.declared.literal.OwnLit.{OwnLit}
use Rattle.clause_store.specs.Store.{Held, hard_of}
use Rattle.var_maps.specs.Maps.{Maps}
use Rattle.state_laws.specs.Held.{own_clauses, numbers, touches}
use Rattle.state_laws.specs.Resolution.{mentions}
use Rattle.private_state.specs.declared.take_out.TakenOut.{TakenOut}

-- clauses in own literals
abbrev pub Clauses : Type 0
Clauses = List (List OwnLit)

-- of stored clauses the ids were taken, and the hard ones in own literals
pub record Takes (m : Maps) (held : List Held) (to : TakenOut) : Type 0 where
  pub doomed : numbers to.doomed.items ≡ map (λ h. h.id) held
  pub block : to.block ≡ own_clauses m (hard_of held)

-- of the clauses that hold a variable the ids were taken, and the hard ones in own literals
pub record TakesOut (m : Maps) (held : List Held) (v : ℕ) (to : TakenOut) : Type 0 where
  pub doomed : numbers to.doomed.items ≡ map (λ h. h.id) (filter (touches m v) held)
  pub block : to.block ≡ filter (mentions v) (own_clauses m (hard_of held))
