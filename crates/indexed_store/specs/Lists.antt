-- Lists of ids by variable, and the room that is left in them.
use Rattle.std.specs.Prelude.{ℕ, ◌-◌, ◌==◌, ◌&&◌, Bool, true, false, List, [], ◌∷◌, ◌++◌, Option, Some, None, nat_lt, if◌then◌else◌, slice_get, vec_capacity, vec_len}
use Rattle.std.specs.List.{list_all, list_any}
use Rattle.std.specs.Global.{Vec}
use Rattle.indexed_store.specs.declared.short_id.ShortId.{ShortId}
use Rattle.sat_lits.specs.declared.literal.InLit.{InLit}

-- the ids of a list, if there is one
abbrev pub ids_in : Option (Vec ShortId) → List ShortId
ids_in None = []
ids_in (Some list) = list.items

-- the ids in the list of a variable
abbrev pub ids_of : List (Vec ShortId) → ℕ → List ShortId
ids_of lists v = ids_in (slice_get lists v)

-- how many ids a list has places for in all
abbrev pub places_in : Option (Vec ShortId) → ℕ
places_in None = 0
places_in (Some list) = vec_capacity list

-- how many ids the list of a variable has places for in all
abbrev pub places_of : List (Vec ShortId) → ℕ → ℕ
places_of lists v = places_in (slice_get lists v)

-- for how many more ids a list has room
abbrev pub room_in : Option (Vec ShortId) → ℕ
room_in None = 0
room_in (Some list) = vec_capacity list - vec_len list

-- for how many more ids the list of a variable has room
abbrev pub room_of : List (Vec ShortId) → ℕ → ℕ
room_of lists v = room_in (slice_get lists v)

-- whether the list of a literal's variable has room for one more id
abbrev pub has_room : List (Vec ShortId) → InLit → Bool
has_room lists l = nat_lt 0 (room_of lists l.var.0)

-- whether this is the last id
abbrev pub ends_with : ShortId → List ShortId → Bool
ends_with id [] = false
ends_with id (x ∷ []) = x.0 == id.0
ends_with id (x ∷ y ∷ xs) = ends_with id (y ∷ xs)

-- the ids with this one as the last
abbrev pub with_last : ShortId → List ShortId → List ShortId
with_last id ids = if ends_with id ids then ids else ids ++ id ∷ []

-- whether a literal is of the variable
abbrev pub is_in : ℕ → InLit → Bool
is_in v l = l.var.0 == v

-- the id of a clause, where the clause holds the variable
abbrev pub added : ℕ → List InLit → ShortId → List ShortId
added v lits id = if list_any (is_in v) lits then id ∷ [] else []

-- whether all ids are below a number
abbrev pub are_below : ℕ → List ShortId → Bool
are_below n ids = list_all (λ id. nat_lt id.0 n) ids

-- whether ids rise
abbrev pub ids_rise : List ShortId → Bool
ids_rise [] = true
ids_rise (id ∷ ids) = list_all (λ later. nat_lt id.0 later.0) ids && ids_rise ids
