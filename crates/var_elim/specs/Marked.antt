-- When a clause is marked, so that others are compared with it.
use Rattle.std.specs.Prelude.{◌≡◌, false, List, Some, length}
use Rattle.clause_store.specs.Store.{Held, clause_at}
use Rattle.var_elim.specs.Marks.{TellsLits}
use Rattle.var_elim.specs.declared.subsume.Subsumer.{Subsumer}

-- it is a hard clause that is held, with its length and the numbers of its literals
pub record IsMarked (held : List Held) (by : Subsumer) : Type 0 where
  pub clause : Held
  pub found : clause_at held by.id.0 ≡ Some clause
  pub hard : clause.learned ≡ false
  pub long : by.len ≡ length clause.lits
  pub marks : TellsLits by.marks clause.lits
