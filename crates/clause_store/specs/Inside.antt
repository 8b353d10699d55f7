-- What the words of a store mean, and what they keep.
use Rattle.std.specs.Prelude.{◌≡◌, ◌≤◌, ◌^◌, true, length}
use Rattle.std.specs.List.{list_all}
use Rattle.sat_lits.specs.InLits.{is_distinct}
use Rattle.clause_store.specs.declared.store.ClauseStore.TheInside.{Inside}
use Rattle.clause_store.specs.Store.{Store}
use Rattle.clause_store.specs.Words.{AreBlocks, held_in}

-- the id of a clause is the place of its header, and places are given in order
abbrev pub store_of : Inside → Store
store_of store = record { held = held_in store.words.items; given = length store.words.items; mark = store.mark }

-- the words are headers with their literals, their places fit four bytes, the mark is not past them, and no literal stands twice in a clause
pub record IsArena (store : Inside) : Type 0 where
  pub blocks : AreBlocks store.words.items 0
  pub few : length store.words.items ≤ 2 ^ 32
  pub marked : store.mark ≤ length store.words.items
  pub distinct : list_all (λ clause. is_distinct clause.lits) (held_in store.words.items) ≡ true
