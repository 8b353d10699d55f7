-- What contracts see of a clause that was taken over.
use Rattle.std.specs.Prelude.{List, [], Option, Some, None}
use Rattle.sat_lits.specs.declared.literal.InLit.{InLit}
use Rattle.sat_lits.specs.declared.literal.ClauseId.{ClauseId}
use Rattle.clause_store.specs.Store.{Held}

-- its id, and the literals that it had then
pub record TakenClause : Type 0 where
  pub id : ClauseId
  pub lits : List InLit

-- the literals of a clause that was found
abbrev pub lits_found : Option Held → List InLit
lits_found None = []
lits_found (Some clause) = clause.lits
