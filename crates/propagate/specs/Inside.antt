-- What the fields of watches mean, and what they keep.
use Rattle.std.specs.Prelude.{◌≡◌, ◌<◌, ◌≤◌, ◌*◌, ◌^◌, ℕ, List, length, vec_capacity}
use Rattle.sat_lits.specs.declared.literal.InLit.{InLit}
use Rattle.propagate.specs.declared.table.Table.{Table}
use Rattle.propagate.specs.declared.watches.Taken.{Taken}
use Rattle.propagate.specs.declared.watches.Watches.TheInside.{Inside}
use Rattle.propagate.specs.Watching.{Watching}
use Rattle.propagate.specs.Watched.{AreWatched}
use Rattle.propagate.specs.Fine.{IsMarked, AllFine}
use Rattle.propagate.specs.Starts.{AreListed}

-- the clauses taken over, the literals done with, and the number of variables
abbrev pub watching_of : Inside → Watching
watching_of watches = record { taken = watches.taken.items; done = watches.done.items; variables = watches.variables }

-- what the words of watches keep
pub record AreKept (taken : List Taken) (done : List InLit) (starts : List ℕ) (walked : ℕ) (table : Table) (fresh : List ℕ) (variables : ℕ) : Type 0 where
  pub watched : AreWatched table.heads.items table.next.items table.watched.items taken table.whole.items
  pub marked : IsMarked done starts walked
  pub fine : AllFine done starts walked taken table.whole.items table.watched.items
  pub listed : AreListed taken table.whole.items fresh
  pub heads : length table.heads.items ≡ 2 * variables

-- and there is room for a literal of every variable
pub record HasRoom (watches : Inside) : Type 0 where
  pub kept : AreKept watches.taken.items watches.done.items watches.starts.items watches.walked watches.table watches.fresh.items watches.variables
  pub room : watches.variables ≤ vec_capacity watches.done
  pub marks : watches.variables ≤ vec_capacity watches.starts
  pub few : 2 * length watches.taken.items < 2 ^ 32
