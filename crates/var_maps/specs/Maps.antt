-- What the maps are seen as.
use Rattle.std.specs.Prelude.{◌≡◌, ℕ, ◌+◌, ◌<◌, ◌≤◌, ◌==◌, true, cond, List, [], ◌∷◌, ◌++◌, Some, None, length, slice_index_or, slice_get, slice_set, is_some}
use Rattle.std.specs.declared.option.Option.{Option}
use Rattle.std.specs.List.{list_all}
use Rattle.sat_lits.specs.declared.literal.Own.{Own}
use Rattle.sat_lits.specs.declared.literal.Inner.{Inner}
use Rattle.sat_lits.specs.declared.literal.Var.{Var}

-- by own number the inner number of an active variable and the outer number of an outer one, by inner and by outer number the own variable, and for how many more variables there is room
pub record Maps : Type 0 where
  pub inners : List (Option Inner)
  pub outer_numbers : List (Option Var)
  pub owners : List (Option Own)
  pub outers : List Own
  pub spare : ℕ

-- the maps without what contracts see of their room
abbrev pub plain : Maps → Maps
plain m = record m { spare = 0 }

-- no variables
abbrev pub no_maps : Maps
no_maps = record { inners = []; outer_numbers = []; owners = []; outers = []; spare = 0 }

-- the inner number of a variable, none where it is not active
abbrev pub inner_at : Maps → ℕ → Option Inner
inner_at m k = slice_index_or m.inners k None

-- the outer number of a variable, none where it is private
abbrev pub outer_at : Maps → ℕ → Option Var
outer_at m k = slice_index_or m.outer_numbers k None

-- the active variable that has an inner number
abbrev pub owner_at : Maps → ℕ → Option Own
owner_at m i = slice_index_or m.owners i None

-- the tables say the same in both directions, so no two variables have one number
pub record Matched (m : Maps) : Type 0 where
  pub inner_owner : (k : ℕ) (i : Inner) → inner_at m k ≡ Some i → owner_at m i.0 ≡ Some (record { 0 = k })
  pub owner_inner : (i : ℕ) (v : Own) → owner_at m i ≡ Some v → inner_at m v.0 ≡ Some (record { 0 = i })
  pub outer_own : (k : ℕ) (o : Var) → outer_at m k ≡ Some o → slice_get m.outers o.0 ≡ Some (record { 0 = k })
  pub own_outer : (o : ℕ) (v : Own) → slice_get m.outers o ≡ Some v → outer_at m v.0 ≡ Some (record { 0 = o })
  pub lengths : length m.outer_numbers ≡ length m.inners
  pub inner_len : length m.owners ≤ length m.inners

-- the variable has an inner number that was free
pub record HasFree (v : Own) (i : Inner) (owners after : List (Option Own)) : Type 0 where
  pub free : slice_index_or owners i.0 None ≡ None
  pub given : (j : ℕ) → slice_index_or after j None ≡ cond (j == i.0) (Some v) (slice_index_or owners j None)
  pub longer : length owners ≤ length after
  pub by_one : length after ≤ length owners + 1

-- the variable is the next one, with this outer number, and is active
pub record Added (outer : Option Var) (v : Own) (m n : Maps) : Type 0 where
  pub number : v.0 ≡ length m.inners
  pub inner : Inner
  pub inners : n.inners ≡ m.inners ++ Some inner ∷ []
  pub outer_numbers : n.outer_numbers ≡ m.outer_numbers ++ outer ∷ []
  pub numbered : HasFree v inner m.owners n.owners

-- the inner number, or d where there is none
abbrev pub number_or : ℕ → Option Inner → ℕ
number_or d None = d
number_or d (Some i) = i.0

-- the variable is not active, and the inner number that it had is free
abbrev pub retired : ℕ → Maps → Maps
retired k m = record m { inners = slice_set m.inners k None; owners = slice_set m.owners (number_or 0 (inner_at m k)) None }

-- the variable is active again, with this number, which is a new one only where none was free
pub record Revived (v : Own) (i : Inner) (m n : Maps) : Type 0 where
  pub inners : n.inners ≡ slice_set m.inners v.0 (Some i)
  pub outer_numbers : n.outer_numbers ≡ m.outer_numbers
  pub outers : n.outers ≡ m.outers
  pub numbered : HasFree v i m.owners n.owners
  pub if_full : length m.owners < length n.owners → list_all is_some m.owners ≡ true
