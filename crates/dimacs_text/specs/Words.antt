-- A token that comes byte by byte.
use Rattle.std.specs.Prelude.{ℕ, ◌+◌, ◌-◌, ◌*◌, ◌^◌, ◌<◌, Bool, true, false, List, [], ◌∷◌, Option, Some, None, nat_lt, nat_eq}
use Rattle.dimacs_text.specs.Tokens.{is_digit, signed}
use Rattle.dimacs_text.specs.declared.token.Token.{Token}
use Rattle.dimacs_text.specs.declared.token.Token.TheVariants.{Ending, Literal, TooLarge, NoLiteral}
use Rattle.dimacs_text.specs.declared.token.Word.{Word}
use Rattle.dimacs_text.specs.declared.token.Word.TheVariants.{Empty, Minus, Digits, Cnf, P, NoNumber}

-- the first byte of a number
abbrev pub first_digit : Bool → ℕ → Word
first_digit negative b = elim (is_digit b) [ true ↦ Digits negative (b - 48) | false ↦ NoNumber ]

-- the first byte of a token
abbrev pub first_byte : ℕ → Word
first_byte b = elim (nat_eq b 45) [
  | true ↦ Minus
  | false ↦ elim (nat_eq b 112) [ true ↦ P | false ↦ elim (nat_eq b 99) [ true ↦ Cnf 1 | false ↦ first_digit false b ] ]
]

-- a byte more of the word `cnf`
abbrev pub format_more : ℕ → ℕ → Word
format_more count b = elim (nat_eq count 1) [
  | true ↦ elim (nat_eq b 110) [ true ↦ Cnf 2 | false ↦ NoNumber ]
  | false ↦ elim (nat_eq count 2) [ true ↦ elim (nat_eq b 102) [ true ↦ Cnf 3 | false ↦ NoNumber ] | false ↦ NoNumber ]
]

-- a part of a token, and one byte more; a number that is too large already stays as it is
unfoldable pub extended : ℕ → Word → ℕ → Word
extended vars Empty b = first_byte b
extended vars Minus b = first_digit true b
extended vars (Digits negative v) b = elim (is_digit b) [ true ↦ Digits negative (elim (nat_lt vars v) [ true ↦ v | false ↦ v * 10 + (b - 48) ]) | false ↦ NoNumber ]
extended vars (Cnf count) b = format_more count b
extended vars P b = NoNumber
extended vars NoNumber b = NoNumber

-- the part of a token that has come, after a part
unfoldable pub word_after : ℕ → Word → List ℕ → Word
word_after vars word [] = word
word_after vars word (b ∷ bs) = word_after vars (extended vars word b) bs

-- whether a token has begun
abbrev pub is_begun : Word → Bool
is_begun Empty = false
is_begun Minus = true
is_begun (Digits negative v) = true
is_begun (Cnf count) = true
is_begun P = true
is_begun NoNumber = true

-- the token that a whole word is, where literals are read
unfoldable pub token_of : ℕ → Word → Token
token_of vars Empty = NoLiteral
token_of vars Minus = NoLiteral
token_of vars (Digits negative v) = signed vars negative (Some v)
token_of vars (Cnf count) = NoLiteral
token_of vars P = NoLiteral
token_of vars NoNumber = NoLiteral

-- the number that a whole word stands for, if it is digits alone
abbrev pub number_of : Word → Option ℕ
number_of Empty = None
number_of Minus = None
number_of (Digits negative v) = elim negative [ true ↦ None | false ↦ Some v ]
number_of (Cnf count) = None
number_of P = None
number_of NoNumber = None

-- whether a whole word is `cnf`
abbrev pub is_format : Word → Bool
is_format Empty = false
is_format Minus = false
is_format (Digits negative v) = false
is_format (Cnf count) = nat_eq count 3
is_format P = false
is_format NoNumber = false

-- whether a whole word is `p`
abbrev pub is_p : Word → Bool
is_p Empty = false
is_p Minus = false
is_p (Digits negative v) = false
is_p (Cnf count) = false
is_p P = true
is_p NoNumber = false

-- the number of variables that a literal names fits
abbrev pub IsNamable : Token → Type 0
IsNamable (Literal lit) = lit.var.0 + 1 < 2 ^ 32
IsNamable Ending = Unit {0}
IsNamable TooLarge = Unit {0}
IsNamable NoLiteral = Unit {0}
