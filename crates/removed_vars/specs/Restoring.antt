-- What the clauses of entries that are taken out come to, and what it is to hold them.
use Rattle.std.specs.Prelude.{◌≡◌, ℕ, Bool, true, false, not, ◌&&◌, List, map, filter, is_some}
use Rattle.std.specs.List.{list_any}
use Rattle.rebuild_stack.specs.Entries.{named, names, is_gone}
use Rattle.rebuild_stack.specs.declared.entry.Entry.{Entry}
use Rattle.sat_lits.specs.declared.literal.OwnLit.{OwnLit}
use Rattle.clause_store.specs.Store.{Store}
use Rattle.var_maps.specs.Maps.{Maps, inner_at}
use Rattle.state_laws.specs.Held.{InClause, in_own, hard_clause, ExtendsBy}

-- whether an entry stays where the `Gone` entries of variables that pass go
abbrev pub stays : (ℕ → Bool) → Entry → Bool
stays m e = not (is_gone e && m (named e))

-- whether a variable is active
abbrev pub active_in : Maps → ℕ → Bool
active_in m k = is_some (inner_at m k)

-- the entries that are left where the `Gone` entries of active variables go
abbrev pub left_by : Maps → List Entry → List Entry
left_by m s = filter (stays (active_in m)) s

-- none of these names an active variable
abbrev pub AreOfOthers : Maps → List Entry → Type 0
AreOfOthers m s = (k : ℕ) → active_in m k ≡ true → list_any (names k) s ≡ false

-- these clauses were added as hard ones
pub record Holds (m : Maps) (s t : Store) (cs : List (List OwnLit)) : Type 0 where
  pub fresh : List InClause
  pub extends : ExtendsBy s t fresh
  pub become : map (in_own m) fresh ≡ map hard_clause cs
