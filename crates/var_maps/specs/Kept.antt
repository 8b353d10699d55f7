-- What the fields of the maps mean, and what they keep.
use Rattle.std.specs.Prelude.{◌≡◌, ℕ, ◌≤◌, ◌-◌, ◌^◌, Some, min, length, vec_len, vec_capacity}
use Rattle.sat_lits.specs.declared.literal.Inner.{Inner}
use Rattle.var_maps.specs.Maps.{Maps, Matched, inner_at}
use Rattle.var_maps.specs.declared.maps.VarMaps.TheInside.{Inside}

-- there is room for as many more variables as every table can take
abbrev pub maps_of : Inside → Maps
maps_of p = record {
  inners = p.inners.items;
  outer_numbers = p.outer_numbers.items;
  owners = p.owners.items;
  outers = p.outers.items;
  spare = min (min (vec_capacity p.inners - vec_len p.inners) (vec_capacity p.outer_numbers - vec_len p.outer_numbers)) (min (vec_capacity p.owners - vec_len p.owners) (vec_capacity p.outers - vec_len p.outers));
}

-- there are at most 2^31 variables and no more outer ones, and each has a place by inner number, that of its own number
pub record Numbered (m : Maps) : Type 0 where
  pub few : length m.inners ≤ 2 ^ 31
  pub outer_count : length m.outers ≤ length m.inners
  pub places : length m.owners ≡ length m.inners
  pub same : (k : ℕ) (i : Inner) → inner_at m k ≡ Some i → i.0 ≡ k

-- the tables match, and the numbers are right
pub record IsKept (p : Inside) : Type 0 where
  pub matched : Matched (maps_of p)
  pub numbered : Numbered (maps_of p)
