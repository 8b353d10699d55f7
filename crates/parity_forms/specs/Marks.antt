-- Numbers that are marked, and those that stand an odd number of times in a list.
use Rattle.std.specs.Prelude.{ℕ, Bool, false, List, nat_eq, unwrap_or}
use Rattle.std.specs.declared.hash.FoldHasher.{FoldHasher}
use Rattle.std.specs.declared.hash.BuildHasherDefault.{BuildHasherDefault}
use Rattle.std.specs.HashMap.{HashMap, get}
use Rattle.std.specs.List.{list_any}
use Rattle.std.specs.Prelude.{◌==◌}
use Rattle.parity_forms.specs.Parities.{odd_numbers}

-- marks by number
abbrev pub Marks : Type 0
Marks = HashMap ℕ Bool (BuildHasherDefault FoldHasher)

-- whether a number is marked
abbrev pub is_marked : Marks → ℕ → Bool
is_marked marks n = unwrap_or (get nat_eq marks n) false

-- whether a number stands an odd number of times
abbrev pub is_odd_in : List ℕ → ℕ → Bool
is_odd_in numbers n = list_any (λ m. m == n) (odd_numbers numbers)
