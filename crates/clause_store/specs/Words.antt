-- What the words of a store say: for each clause a header, and then its literals.
use Rattle.std.specs.Prelude.{◌≡◌, ℕ, zero, suc, ◌+◌, ◌-◌, ◌*◌, ◌/◌, ◌%◌, ◌==◌, nat_lt, nat_le, Bool, true, false, not, ◌&&◌, if◌then◌else◌, List, [], ◌∷◌, length, take, Option, Some, None}
use Rattle.std.specs.List.{list_all}
use Rattle.sat_lits.specs.declared.literal.InLit.{InLit}
use Rattle.clause_store.specs.Store.{Held, held_as}

-- the variables of headers are from this number on, and those of literals below it
abbrev pub first_header : ℕ
first_header = 2147483648

-- whether a word is a header
abbrev pub is_header : InLit → Bool
is_header word = nat_le first_header word.var.0

-- whether it is that of a clause that was not dropped
abbrev pub is_live_header : InLit → Bool
is_live_header word = is_header word && not word.negative

-- how many literals follow a header
abbrev pub length_in : InLit → ℕ
length_in word = (word.var.0 - first_header) / 2

-- whether its clause is learned
abbrev pub learned_in : InLit → Bool
learned_in word = word.var.0 % 2 == 1

-- the header of a clause of so many literals
abbrev pub header_of : ℕ → Bool → InLit
header_of count learned = record { var = record { 0 = first_header + 2 * count + (if learned then 1 else 0) }; negative = false }

-- whether literals can be told from headers
abbrev pub are_plain : List InLit → Bool
are_plain lits = list_all (λ lit. nat_lt lit.var.0 first_header) lits

-- whether they can, and a header can tell how many they are
abbrev pub can_stand : List InLit → Bool
can_stand lits = nat_le (length lits) 1073741823 && are_plain lits

-- a clause as it is read
pub record Stored : Type 0 where
  pub learned : Bool
  pub lits : List InLit

-- the clause that a word begins, with the words after it
abbrev pub stored_at : InLit → List InLit → Option Stored
stored_at word rest = if is_live_header word then Some (record { learned = learned_in word; lits = take (length_in word) rest }) else None

-- for each word the clause that it begins
abbrev pub places_of : List InLit → List (Option Stored)
places_of [] = []
places_of (word ∷ rest) = stored_at word rest ∷ places_of rest

-- the clauses at places, each with its place as its id, where the first place has this number
abbrev pub held_from : ℕ → List (Option Stored) → List Held
held_from n [] = []
held_from n (None ∷ rest) = held_from (suc n) rest
held_from n (Some clause ∷ rest) = held_as n clause.learned clause.lits ∷ held_from (suc n) rest

-- the clauses that words hold
abbrev pub held_in : List InLit → List Held
held_in words = held_from 0 (places_of words)

-- after so many literals come headers, each before as many literals as it tells
abbrev pub AreBlocks : List InLit → ℕ → Type 0
AreBlocks [] left = left ≡ 0
AreBlocks (word ∷ rest) zero = (is_header word ≡ true) × AreBlocks rest (length_in word)
AreBlocks (word ∷ rest) (suc left) = (is_header word ≡ false) × AreBlocks rest left

-- how many words to go from one to the next that may be a header
abbrev pub step_from : InLit → ℕ
step_from word = if is_header word then length_in word + 1 else 1

-- whether a word stays where those of dropped clauses go, and whether the one before it does
abbrev pub stays_after : Bool → InLit → Bool
stays_after stays word = if is_header word then not word.negative else stays

-- the words that stay
abbrev pub closed_up : Bool → List InLit → List InLit
closed_up stays [] = []
closed_up stays (word ∷ rest) = if stays_after stays word then (word ∷ closed_up true rest) else closed_up false rest
