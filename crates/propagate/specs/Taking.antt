-- What the fields of a clause that was taken over mean.
use Rattle.clause_store.specs.Store.{clause_at}
use Rattle.propagate.specs.declared.watches.Taken.TheInside.{Inside}
use Rattle.propagate.specs.Taken.{TakenClause, lits_found}

-- its id, and its literals in the store from which it was taken over
abbrev pub taken_of : Inside → TakenClause
taken_of taken = record { id = taken.id; lits = lits_found (clause_at taken.from.value.held taken.id.0) }
