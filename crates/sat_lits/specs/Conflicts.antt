-- How many conflicts are enough to decide a formula.
use Rattle.std.specs.Prelude.{◌≡◌, ◌≢◌, ◌↔◌, ◌⊎◌, ℕ, ◌+◌, ◌-◌, ◌*◌, ◌/◌, ◌%◌, ◌^◌, ◌<◌, ◌≤◌, ◌==◌, Bool, false, not, List, [], ◌∷◌, AllPairs, Contains, length, sum, map, filter, count_by, slice_index_or, min, if◌then◌else◌}
use Rattle.std.specs.List.{list_any}
use Rattle.sat_lits.specs.declared.formula.Item.{Item}
use Rattle.sat_lits.specs.declared.formula.Item.TheVariants.{Clause, Parity}
use Rattle.sat_lits.specs.declared.literal.Var.{Var}
use Rattle.sat_lits.specs.Meaning.{Problem}

-- the numbers with one more: taken out where it is there, and else put in
abbrev pub toggled : ℕ → List ℕ → List ℕ
toggled n numbers = if list_any (λ m. m == n) numbers then filter (λ m. not (m == n)) numbers else n ∷ numbers

-- the numbers of the variables that stand an odd number of times
abbrev pub odd_vars : List Var → List ℕ
odd_vars [] = []
odd_vars (v ∷ vs) = toggled v.0 (odd_vars vs)

-- exactly the numbers of the variables that stand an odd number of times, each once
pub record AreOddVars (vars : List Var) (numbers : List ℕ) : Type 0 where
  pub each : (n : ℕ) → Contains numbers n ↔ (count_by (λ v. v.0 == n) vars % 2 ≡ 1)
  pub once : AllPairs (λ k m. k ≢ m) numbers

-- whether the number of true variables among these is odd
abbrev pub odd_of : List Bool → List ℕ → Bool
odd_of values numbers = count_by (λ n. slice_index_or values n false) numbers % 2 == 1

-- a parity over more than four variables is cut into pieces of four: two variables fewer and one fresh more at each cut
abbrev pub cuts_of_count : ℕ → ℕ
cuts_of_count count = (count - 4 + 1) / 2

-- the cuts of an item; only the variables that stand an odd number of times count
abbrev pub cuts : Item → ℕ
cuts (Clause lits) = 0
cuts (Parity vars rhs) = cuts_of_count (length (odd_vars vars))

-- the variables that one solver may come to have: the formula's, and one for each cut
abbrev pub own_count : Problem → ℕ
own_count f = f.vars + sum (map cuts f.items)

-- the number of conflicts of the k-th interval, counted from 0
abbrev pub interval_len : ℕ → ℕ
interval_len k = 100 + 20 * k

-- and of the first intervals together
abbrev pub intervals_len : ℕ → ℕ
intervals_len count = 100 * count + 10 * count * (count - 1)

-- the number of intervals up to the first that is at least as long as n digits to the base 3 have values; at most 2 ^ 20
abbrev pub intervals_for : ℕ → ℕ
intervals_for n = min ((3 ^ n - 100 + 19) / 20 + 1) (2 ^ 20)

-- the conflicts within which a solver of n variables decides
abbrev pub enough : ℕ → ℕ
enough n = intervals_len (intervals_for n) + 3 ^ n

-- an interval counts exactly where fewer than 2 ^ 20 stand before it and each of those is too short
abbrev pub IntervalsCount : Type 0
IntervalsCount = (n k : ℕ) → (k < intervals_for n) ↔ ((k < 2 ^ 20) × ((j : ℕ) → j < k → interval_len j < 3 ^ n))

-- the last interval that counts is long enough, or it is the last of all
abbrev pub LastIsLong : Type 0
LastIsLong = (n : ℕ) → let last = intervals_for n - 1 in (3 ^ n ≤ interval_len last) ⊎ (last ≡ 2 ^ 20 - 1)
