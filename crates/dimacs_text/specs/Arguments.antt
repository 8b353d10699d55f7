-- What stands between the brackets of a command, byte by byte.
use Rattle.std.specs.Prelude.{ℕ, suc, ◌+◌, max, Bool, true, false, ◌||◌, List, [], ◌∷◌, ◌++◌, Option, Some, None, Result, Ok, Err, nat_lt, nat_le, nat_eq, length}
use Rattle.sat_lits.specs.Limits.{LimitNumbers}
use Rattle.dimacs_text.specs.Walk.{Turn, is_blank, turned, word}
use Rattle.dimacs_text.specs.Words.{extended, token_of, number_of, word_after}
use Rattle.dimacs_text.specs.Comments.{inside, is_closed}
use Rattle.dimacs_text.specs.Lists.{Listing, solve_met, solve_literals, growth_met, growth, Said, Says, Refuses, solve_said, growth_said, unclosed}
use Rattle.dimacs_text.specs.declared.token.Token.{Token}
use Rattle.dimacs_text.specs.declared.token.Token.TheVariants.{Ending, Literal, TooLarge, NoLiteral}
use Rattle.dimacs_text.specs.declared.token.Word.{Word}
use Rattle.dimacs_text.specs.declared.token.Word.TheVariants.{Empty}
use Rattle.dimacs_text.specs.declared.arguments.Arguments.{Arguments}
use Rattle.dimacs_text.specs.declared.command.Command.TheVariants.{Solve, Grow}
use Rattle.dimacs_text.specs.declared.refusal.Refusal.{Refusal}
use Rattle.dimacs_text.specs.declared.refusal.Refusal.TheVariants.{BadToken, VarTooLarge, TooManyLits}

-- the bracket that opens has come, before a place
abbrev pub no_arguments : ℕ → ℕ → ℕ → Arguments
no_arguments named count start = record { lits = []; named = named; count = count; has_number = false; word = Empty; start = start; refused = None; is_closed = false }

-- they are refused
abbrev pub refuse : Arguments → Refusal → Arguments
refuse a why = record a { refused = Some why }

-- a token of a solve ends
unfoldable pub solve_token : LimitNumbers → Arguments → Token → Arguments
solve_token limits a Ending = refuse a (BadToken a.start)
solve_token limits a (Literal lit) = elim (nat_lt a.count limits.lits) [
  | true ↦ record a { lits = a.lits ++ lit ∷ []; named = max a.named (suc lit.var.0); count = suc a.count; word = Empty }
  | false ↦ refuse a (TooManyLits a.start)
]
solve_token limits a TooLarge = refuse a (VarTooLarge a.start)
solve_token limits a NoLiteral = refuse a (BadToken a.start)

-- the token of a solve that has begun ends, if there is one
unfoldable pub solve_word : LimitNumbers → Arguments → Word → Arguments
solve_word limits a Empty = a
solve_word limits a w = solve_token limits a (token_of limits.vars w)

-- a byte of a token comes
abbrev pub more_byte : LimitNumbers → Arguments → ℕ → Arguments
more_byte limits a b = record a { word = extended limits.vars a.word b }

-- whether they are refused
abbrev pub is_some : Option Refusal → Bool
is_some None = false
is_some (Some why) = true

-- nothing more is looked at
abbrev pub is_over : Arguments → Bool
is_over a = a.is_closed || is_some a.refused

-- the bracket that closes comes
abbrev pub closed_by : Arguments → Arguments
closed_by a = record a { is_closed = true }

-- a blank is passed
abbrev pub past : ℕ → Arguments → Arguments
past place a = record a { start = suc place }

-- a byte at a place comes between the brackets of a solve, or behind them
unfoldable pub solve_byte : LimitNumbers → ℕ → Arguments → ℕ → Arguments
solve_byte limits place a b = elim (is_over a) [
  | true ↦ a
  | false ↦ elim (nat_eq b 41) [
    | true ↦ closed_by (solve_word limits a a.word)
    | false ↦ elim (is_blank b) [ true ↦ past place (solve_word limits a a.word) | false ↦ more_byte limits a b ]
  ]
]

-- the number of a growth ends
unfoldable pub growth_number : LimitNumbers → Arguments → ℕ → Arguments
growth_number limits a value = elim (nat_le (a.named + value) limits.vars) [
  | true ↦ record a { named = a.named + value; has_number = true; word = Empty }
  | false ↦ refuse a (VarTooLarge a.start)
]

-- a token of a growth ends: the first is a number, and there is no second
abbrev pub growth_token : LimitNumbers → Arguments → Option ℕ → Arguments
growth_token limits a None = refuse a (BadToken a.start)
growth_token limits a (Some value) = elim a.has_number [ true ↦ refuse a (BadToken a.start) | false ↦ growth_number limits a value ]

-- the token of a growth that has begun ends, if there is one
unfoldable pub growth_word : LimitNumbers → Arguments → Word → Arguments
growth_word limits a Empty = a
growth_word limits a w = growth_token limits a (number_of w)

-- a growth has no number where its bracket closes
abbrev pub closed_number : ℕ → Arguments → Arguments
closed_number place a = elim (a.has_number || is_some a.refused) [ true ↦ closed_by a | false ↦ closed_by (refuse a (BadToken place)) ]

-- a byte at a place comes between the brackets of a growth, or behind them
unfoldable pub growth_byte : LimitNumbers → ℕ → Arguments → ℕ → Arguments
growth_byte limits place a b = elim (is_over a) [
  | true ↦ a
  | false ↦ elim (nat_eq b 41) [
    | true ↦ closed_number place (growth_word limits a a.word)
    | false ↦ elim (is_blank b) [ true ↦ past place (growth_word limits a a.word) | false ↦ more_byte limits a b ]
  ]
]

-- the open list of a solve
abbrev pub listing_in : Arguments → Listing
listing_in a = record { lits = a.lits; named = a.named; count = a.count }

-- The tokens from a place on, with a part of a token before it that began at `start`: `met` judges a token, and `on` goes
-- on behind it.
unfoldable pub tokens_from : {X R : Type 0} → ℕ → (ℕ → ℕ → X → Word → Turn X R) → (ℕ → ℕ → X → List ℕ → R) → ℕ → ℕ → X → Word → List ℕ → R
tokens_from vars met on start place x Empty text = on place place x text
tokens_from vars met on start place x w text = turned (met start (place + length (word text)) x (word_after vars w (word text))) (λ next x'. on next place x' text)

-- a whole word between the brackets of a solve
abbrev pub solve_word_met : LimitNumbers → ℕ → ℕ → Listing → Word → Turn Listing (Result Listing Refusal)
solve_word_met limits place after l w = solve_met limits place after l (token_of limits.vars w)

-- a whole word between the brackets of a growth
abbrev pub growth_word_met : LimitNumbers → ℕ → ℕ → ℕ → Option ℕ → Word → Turn (Option ℕ) (Result (Option ℕ) Refusal)
growth_word_met limits named place after sum w = growth_met limits place after named sum (number_of w)

-- the literals of a solve from a place on, with a part of a token before it
abbrev pub solve_rest : LimitNumbers → ℕ → Arguments → Word → List ℕ → Result Listing Refusal
solve_rest limits place a w text = tokens_from limits.vars (solve_word_met limits) (solve_literals limits) a.start place (listing_in a) w text

-- what a solve says that is not refused, by the bytes from a place on
abbrev pub solve_going : LimitNumbers → ℕ → ℕ → Bool → Arguments → List ℕ → Bool → Said
solve_going limits place end by_byte a rest true = Says (Solve a.lits) a.named a.count
solve_going limits place end by_byte a rest false = solve_said end by_byte (is_closed rest) (solve_rest limits place a a.word (inside rest))

-- what a solve says, by the bytes of its line from a place on
abbrev pub solve_says : LimitNumbers → ℕ → ℕ → Bool → Arguments → List ℕ → Option Refusal → Said
solve_says limits place end by_byte a rest None = solve_going limits place end by_byte a rest a.is_closed
solve_says limits place end by_byte a rest (Some why) = Refuses why

-- the token of a solve that has begun ends with the line
abbrev pub solve_last : LimitNumbers → Arguments → Arguments
solve_last limits a = elim (is_over a) [ true ↦ a | false ↦ solve_word limits a a.word ]

-- the token of a growth that has begun ends with the line
abbrev pub growth_last : LimitNumbers → Arguments → Arguments
growth_last limits a = elim (is_over a) [ true ↦ a | false ↦ growth_word limits a a.word ]

-- whether a command ends well with its line, by byte 10 or by the text's end, at a place, where it is refused or not
abbrev pub judged_by : Bool → Bool → ℕ → Option Refusal → Result (Unit {0}) Refusal
judged_by closed by_byte place None = elim closed [ true ↦ Ok tt | false ↦ Err (unclosed by_byte place) ]
judged_by closed by_byte place (Some why) = Err why

-- whether a command ends well with its line
abbrev pub judged : Arguments → Bool → ℕ → Result (Unit {0}) Refusal
judged a by_byte place = judged_by a.is_closed by_byte place a.refused

-- the sum that has come so far, if there is one
abbrev pub sum_in : Arguments → Option ℕ
sum_in a = elim a.has_number [ true ↦ Some a.named | false ↦ None ]

-- the sum of a growth from a place on, with a part of a token before it
abbrev pub growth_rest : LimitNumbers → ℕ → Arguments → Word → List ℕ → Result (Option ℕ) Refusal
growth_rest limits place a w text = tokens_from limits.vars (growth_word_met limits a.named) (growth limits a.named) a.start place (sum_in a) w text

-- what a growth says that is not refused, by the bytes from a place on
abbrev pub growth_going : LimitNumbers → ℕ → ℕ → Bool → Arguments → List ℕ → Bool → Said
growth_going limits place end by_byte a rest true = Says (Grow a.named) a.named a.count
growth_going limits place end by_byte a rest false = growth_said (place + length (inside rest)) end by_byte (is_closed rest) a.count (growth_rest limits place a a.word (inside rest))

-- what a growth says, by the bytes of its line from a place on
abbrev pub growth_says : LimitNumbers → ℕ → ℕ → Bool → Arguments → List ℕ → Option Refusal → Said
growth_says limits place end by_byte a rest None = growth_going limits place end by_byte a rest a.is_closed
growth_says limits place end by_byte a rest (Some why) = Refuses why
