-- What is made where private variables are made.
use Rattle.std.specs.Prelude.{◌≡◌, ◌+◌, List, ◌++◌, Some, map, length}
use Rattle.std.specs.declared.option.Option.{Option}
use Rattle.clause_store.specs.Store.{Store}
use Rattle.var_maps.specs.Maps.{Maps, plain}
use Rattle.state_laws.specs.declared.definition.Definition.{Definition}
use Rattle.state_laws.specs.Held.{ExtendsBy}
use Rattle.removed_vars.specs.Removed.{Removed}
use Rattle.removed_vars.specs.Fresh.{in_clauses}
use Rattle.parity_forms.specs.InMaps.{HasPrivates}
use Rattle.parity_forms.specs.declared.made.Made.{Made}

-- the maps, the stored clauses, the removed variables and the definitions of a state
pub record Tables : Type 0 where
  pub maps : Maps
  pub store : Store
  pub removed : Removed
  pub definitions : List (Option Definition)

-- the private variables were made, and the clauses are held
pub record IsMade (made : Made) (from to : Tables) : Type 0 where
  pub maps : HasPrivates (length made.definitions.items) from.maps to.maps
  pub extends : ExtendsBy from.store to.store (in_clauses made.clauses.items)
  pub removed : to.removed ≡ record from.removed { vars = from.removed.vars + length made.definitions.items }
  pub definitions : to.definitions ≡ from.definitions ++ map Some made.definitions.items

-- all is as before, but for room and the number above all ids
pub record IsUnmade (from to : Tables) : Type 0 where
  pub maps : plain to.maps ≡ plain from.maps
  pub held : to.store.held ≡ from.store.held
  pub mark : to.store.mark ≡ from.store.mark
  pub removed : to.removed ≡ from.removed
  pub definitions : to.definitions ≡ from.definitions
