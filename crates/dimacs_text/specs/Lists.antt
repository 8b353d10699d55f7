-- Lists of literals, and what stands between the brackets of a command.
use Rattle.std.specs.Prelude.{ℕ, suc, ◌+◌, ◌-◌, max, not, Bool, true, false, List, [], ◌∷◌, ◌++◌, Option, Some, None, Result, Ok, Err, nat_lt, nat_le, nat_eq, length, map}
use Rattle.sat_lits.specs.Limits.{LimitNumbers}
use Rattle.sat_lits.specs.declared.literal.Lit.{Lit}
use Rattle.dimacs_text.specs.Walk.{Turn, Next, Stop, walk, word}
use Rattle.dimacs_text.specs.Tokens.{literal_token, is_judged, number}
use Rattle.dimacs_text.specs.Comments.{line, is_line_judged, Kind, NoCommand, SolveWith, GrowBy, kind, is_command, inside, is_closed}
use Rattle.dimacs_text.specs.declared.token.Token.{Token}
use Rattle.dimacs_text.specs.declared.token.Token.TheVariants.{Ending, Literal, TooLarge, NoLiteral}
use Rattle.dimacs_text.specs.declared.command.Command.{Command}
use Rattle.dimacs_text.specs.declared.command.Command.TheVariants.{Parity, Grow, Solve}
use Rattle.dimacs_text.specs.declared.refusal.Refusal.{Refusal}
use Rattle.dimacs_text.specs.declared.refusal.Refusal.TheVariants.{BadToken, VarTooLarge, TooManyLits, Truncated}

-- how a text ends; `Open` is for a front of a text, of which more may come
pub data End : Type 0 where
  Ended : End
  Refused : Refusal → End
  Open : End

-- the end of a text within a phrase
abbrev pub cut_short : Bool → ℕ → End
cut_short true place = Refused (Truncated place)
cut_short false place = Open

-- what is known in an open list: its literals, the number of variables named, and the number of all literals so far
pub record Listing : Type 0 where
  pub lits : List Lit
  pub named : ℕ
  pub count : ℕ

-- an open list with a literal more
abbrev pub with_literal : Listing → Lit → Listing
with_literal l lit = record { lits = l.lits ++ lit ∷ []; named = max l.named (suc lit.var.0); count = suc l.count }

-- literal tokens up to the ending zero: the list and the place after it, or what comes instead
pub data Literals : Type 0 where
  Listed : Listing → ℕ → Literals
  Broken : End → Literals

-- a literal token from one place to another, where a list is open
unfoldable pub literal_met : LimitNumbers → ℕ → ℕ → Listing → Token → Turn Listing Literals
literal_met limits place after l Ending = Stop (Listed l after)
literal_met limits place after l (Literal lit) = elim (nat_lt l.count limits.lits) [ true ↦ Next after (with_literal l lit) | false ↦ Stop (Broken (Refused (TooManyLits place))) ]
literal_met limits place after l TooLarge = Stop (Broken (Refused (VarTooLarge place)))
literal_met limits place after l NoLiteral = Stop (Broken (Refused (BadToken place)))

-- the token at the front of a text, where a list is open
unfoldable pub token_turn : Bool → LimitNumbers → ℕ → Listing → List ℕ → Turn Listing Literals
token_turn whole limits place l text = elim (is_judged whole text) [
  | true ↦ literal_met limits place (place + length (word text)) l (literal_token limits.vars (word text))
  | false ↦ Stop (Broken Open)
]

-- a comment, where a list is open: it may be no command
unfoldable pub comment_in_list : Bool → ℕ → Listing → List ℕ → Turn Listing Literals
comment_in_list whole place l text = elim (is_line_judged whole text) [
  | true ↦ elim (is_command (kind (line text))) [ true ↦ Stop (Broken (Refused (BadToken place))) | false ↦ Next (place + length (line text)) l ]
  | false ↦ Stop (Broken Open)
]

-- Where a list is open `c` begins a comment, `%` ends the text, and all else is a literal token.
unfoldable pub literal_turn : Bool → LimitNumbers → ℕ → Listing → List ℕ → Turn Listing Literals
literal_turn whole limits place l [] = Stop (Broken Open)
literal_turn whole limits place l (b ∷ bs) = elim (nat_eq b 99) [
  | true ↦ comment_in_list whole place l (b ∷ bs)
  | false ↦ elim (nat_eq b 37) [ true ↦ Stop (Broken (Refused (Truncated place))) | false ↦ token_turn whole limits place l (b ∷ bs) ]
]

-- the text ends where a list is open
unfoldable pub literals_end : Bool → ℕ → Listing → Literals
literals_end whole place l = Broken (cut_short whole place)

-- the literals of an open list, from the place `next` on, in a text that begins at another place
unfoldable pub literals : Bool → LimitNumbers → ℕ → ℕ → Listing → List ℕ → Literals
literals whole limits next place l text = walk (literal_turn whole limits) (literals_end whole) next place l text

-- the right side of a parity: true, flipped once for each minus sign
abbrev pub right_side : List Lit → Bool
right_side [] = true
right_side (l ∷ ls) = elim l.negative [ true ↦ not (right_side ls) | false ↦ right_side ls ]

-- the parity of the variables of literals, in order, with repeats
abbrev pub parity_of : List Lit → Command
parity_of lits = Parity (map (λ (l : Lit). l.var) lits) (right_side lits)

-- a literal token from one place to another, between the brackets of a solve
unfoldable pub solve_met : LimitNumbers → ℕ → ℕ → Listing → Token → Turn Listing (Result Listing Refusal)
solve_met limits place after l Ending = Stop (Err (BadToken place))
solve_met limits place after l (Literal lit) = elim (nat_lt l.count limits.lits) [ true ↦ Next after (with_literal l lit) | false ↦ Stop (Err (TooManyLits place)) ]
solve_met limits place after l TooLarge = Stop (Err (VarTooLarge place))
solve_met limits place after l NoLiteral = Stop (Err (BadToken place))

-- the token at the front of what stands between the brackets of a solve
unfoldable pub solve_turn : LimitNumbers → ℕ → Listing → List ℕ → Turn Listing (Result Listing Refusal)
solve_turn limits place l text = solve_met limits place (place + length (word text)) l (literal_token limits.vars (word text))

-- what stands between the brackets of a solve has no more tokens
abbrev pub solve_end : ℕ → Listing → Result Listing Refusal
solve_end place l = Ok l

-- the literals between the brackets of a solve, from the place `next` on
unfoldable pub solve_literals : LimitNumbers → ℕ → ℕ → Listing → List ℕ → Result Listing Refusal
solve_literals limits next place l text = walk (solve_turn limits) solve_end next place l text

-- a token from one place to another, between the brackets of a growth: the first is a number, and there is no second
unfoldable pub growth_met : LimitNumbers → ℕ → ℕ → ℕ → Option ℕ → Option ℕ → Turn (Option ℕ) (Result (Option ℕ) Refusal)
growth_met limits place after named (Some sum) number = Stop (Err (BadToken place))
growth_met limits place after named None None = Stop (Err (BadToken place))
growth_met limits place after named None (Some more) = elim (nat_le (named + more) limits.vars) [ true ↦ Next after (Some (named + more)) | false ↦ Stop (Err (VarTooLarge place)) ]

-- the token at the front of what stands between the brackets of a growth
unfoldable pub growth_turn : LimitNumbers → ℕ → ℕ → Option ℕ → List ℕ → Turn (Option ℕ) (Result (Option ℕ) Refusal)
growth_turn limits named place sum text = growth_met limits place (place + length (word text)) named sum (number (word text))

-- what stands between the brackets of a growth has no more tokens
abbrev pub growth_end : ℕ → Option ℕ → Result (Option ℕ) Refusal
growth_end place sum = Ok sum

-- the sum of the variables named and the number between the brackets, if there is one, from the place `next` on
unfoldable pub growth : LimitNumbers → ℕ → ℕ → ℕ → Option ℕ → List ℕ → Result (Option ℕ) Refusal
growth limits named next place sum text = walk (growth_turn limits named) growth_end next place sum text

-- a command whose bracket does not close: its line ends with byte 10, or the text ends
abbrev pub unclosed : Bool → ℕ → Refusal
unclosed true end = BadToken end
unclosed false end = Truncated end

-- what a comment says, with the numbers of variables named and of literals after it
pub data Said : Type 0 where
  Skips : Said
  Says : Command → ℕ → ℕ → Said
  Refuses : Refusal → Said

-- a solve says its literals where its bracket closes
abbrev pub solve_said : ℕ → Bool → Bool → Result Listing Refusal → Said
solve_said end by_byte closed (Ok l) = elim closed [ true ↦ Says (Solve l.lits) l.named l.count | false ↦ Refuses (unclosed by_byte end) ]
solve_said end by_byte closed (Err why) = Refuses why

-- a growth says its sum where its bracket closes, at the place `bracket`
abbrev pub growth_said : ℕ → ℕ → Bool → Bool → ℕ → Result (Option ℕ) Refusal → Said
growth_said bracket end by_byte closed count (Ok (Some sum)) = elim closed [ true ↦ Says (Grow sum) sum count | false ↦ Refuses (unclosed by_byte end) ]
growth_said bracket end by_byte closed count (Ok None) = Refuses (elim closed [ true ↦ BadToken bracket | false ↦ unclosed by_byte end ])
growth_said bracket end by_byte closed count (Err why) = Refuses why

-- a solve whose brackets begin before these bytes
unfoldable pub solve_in : LimitNumbers → ℕ → Bool → Listing → List ℕ → Said
solve_in limits end by_byte l rest =
    (let place = end - length rest in solve_said end by_byte (is_closed rest) (solve_literals limits place place l (inside rest)))

-- a growth whose brackets begin before these bytes
unfoldable pub growth_in : LimitNumbers → ℕ → Bool → ℕ → ℕ → List ℕ → Said
growth_in limits end by_byte named count rest =
    (let place = end - length rest in growth_said (place + length (inside rest)) end by_byte (is_closed rest) count (growth limits named place place None (inside rest)))

-- what a comment says whose line ends at a place, by byte 10 or by the text's end
unfoldable pub said : LimitNumbers → ℕ → Bool → ℕ → ℕ → Kind → Said
said limits end by_byte named count NoCommand = Skips
said limits end by_byte named count (SolveWith rest) = solve_in limits end by_byte (record { lits = []; named = named; count = count }) rest
said limits end by_byte named count (GrowBy rest) = growth_in limits end by_byte named count rest
