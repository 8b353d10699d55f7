-- Variables that are marked, by own number.
use Rattle.std.specs.Prelude.{ℕ, Bool, false, nat_eq, unwrap_or}
use Rattle.std.specs.declared.hash.FoldHasher.{FoldHasher}
use Rattle.std.specs.declared.hash.BuildHasherDefault.{BuildHasherDefault}
use Rattle.std.specs.HashMap.{HashMap, get}

-- marks by own number
abbrev pub Marks : Type 0
Marks = HashMap ℕ Bool (BuildHasherDefault FoldHasher)

-- whether a number is marked
abbrev pub is_marked : Marks → ℕ → Bool
is_marked marks n = unwrap_or (get nat_eq marks n) false
