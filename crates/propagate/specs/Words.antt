-- The words of watches.
use Rattle.std.specs.Prelude.{◌≡◌, ◌<◌, ◌≤◌, ◌+◌, ◌*◌, ℕ, true, replicate, vec_len, vec_capacity}
use Rattle.propagate.specs.declared.table.Table.{Table}
use Rattle.propagate.specs.Watched.{no_lit}

-- the words of clauses that are all looked at whole
pub record AreWords (table : Table) (variables clauses : ℕ) : Type 0 where
  pub heads : table.heads.items ≡ replicate (2 * variables) 0
  pub next : table.next.items ≡ replicate (2 * clauses) 0
  pub watched : table.watched.items ≡ replicate (2 * clauses) no_lit
  pub whole : table.whole.items ≡ replicate clauses true

-- there is room for one more clause
pub record HasPlace (table : Table) : Type 0 where
  pub next : vec_len table.next + 2 ≤ vec_capacity table.next
  pub watched : vec_len table.watched + 2 ≤ vec_capacity table.watched
  pub whole : vec_len table.whole < vec_capacity table.whole
  pub resume : vec_len table.resume < vec_capacity table.resume

-- the words are the same
pub record IsSame (old new : Table) : Type 0 where
  pub heads : new.heads.items ≡ old.heads.items
  pub next : new.next.items ≡ old.next.items
  pub watched : new.watched.items ≡ old.watched.items
  pub whole : new.whole.items ≡ old.whole.items
