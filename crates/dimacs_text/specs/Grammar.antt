-- What a text says.
use Rattle.std.specs.Prelude.{ℕ, ◌+◌, max, Bool, true, false, List, [], ◌∷◌, ◌++◌, nat_le, nat_eq, length, take}
use Rattle.sat_lits.specs.Limits.{LimitNumbers}
use Rattle.sat_lits.specs.declared.literal.Lit.{Lit}
use Rattle.dimacs_text.specs.Walk.{Turn, Next, Stop, turned, walk, word}
use Rattle.dimacs_text.specs.Tokens.{literal_token, is_judged, is_there}
use Rattle.dimacs_text.specs.Comments.{line, after_line, is_line_judged, kind}
use Rattle.dimacs_text.specs.Lists.{End, Ended, Refused, Open, Listing, Literals, Listed, Broken, literal_met, literals, parity_of, Said, Skips, Says, Refuses, said}
use Rattle.dimacs_text.specs.Headers.{Header, Headed, NoHeader, header}
use Rattle.dimacs_text.specs.declared.phrase.Wanted.TheVariants.{Format}
use Rattle.dimacs_text.specs.declared.command.Command.{Command}
use Rattle.dimacs_text.specs.declared.command.Command.TheVariants.{Clause, Grow}
use Rattle.dimacs_text.specs.declared.refusal.Refusal.TheVariants.{TooLong}

-- the commands that a text gives, and how it ends
pub record Reading : Type 0 where
  pub commands : List Command
  pub end : End

-- what is known between two phrases: the commands, and the numbers of variables named and of literals so far
pub record Sofar : Type 0 where
  pub commands : List Command
  pub named : ℕ
  pub count : ℕ

-- the reading ends here
abbrev pub ends_with : Sofar → End → Turn Sofar Reading
ends_with s end = Stop (record { commands = s.commands; end = end })

-- a list opens
abbrev pub listing_of : Sofar → Listing
listing_of s = record { lits = []; named = s.named; count = s.count }

-- a list is closed, and a command made of it
abbrev pub with_list : List Command → (List Lit → Command) → Listing → Sofar
with_list commands make l = record { commands = commands ++ make l.lits ∷ []; named = l.named; count = l.count }

-- what the literals of a list lead to
abbrev pub list_turn : Sofar → (List Lit → Command) → Literals → Turn Sofar Reading
list_turn s make (Listed l after) = Next after (with_list s.commands make l)
list_turn s make (Broken end) = ends_with s end

-- a list begins with its first token, and goes on behind it, in a text from a place on
abbrev pub begun : Bool → LimitNumbers → ℕ → List ℕ → Turn Listing Literals → Literals
begun whole limits place text turn = turned turn (λ next l. literals whole limits next place l text)

-- the first literal of a parity, in what follows the `x` in a token
unfoldable pub first_met : LimitNumbers → ℕ → ℕ → Listing → List ℕ → Turn Listing Literals
first_met limits place after l [] = Next after l
first_met limits place after l (b ∷ bs) = literal_met limits place after l (literal_token limits.vars (b ∷ bs))

-- n grows to the number of variables of a header
abbrev pub with_header : List Command → ℕ → ℕ → ℕ → Sofar
with_header commands named count vars = record { commands = commands ++ Grow (max named vars) ∷ []; named = max named vars; count = count }

-- what a header leads to
abbrev pub header_turned : Sofar → Header → Turn Sofar Reading
header_turned s (Headed vars after) = Next after (with_header s.commands s.named s.count vars)
header_turned s (NoHeader end) = ends_with s end

-- what a comment leads to, up to its end
abbrev pub said_turn : ℕ → Sofar → Said → Turn Sofar Reading
said_turn end s Skips = Next end s
said_turn end s (Says command named count) = Next end (record { commands = s.commands ++ command ∷ []; named = named; count = count })
said_turn end s (Refuses why) = ends_with s (Refused why)

-- a comment, where nothing is open
unfoldable pub comment_turn : Bool → LimitNumbers → ℕ → Sofar → List ℕ → Turn Sofar Reading
comment_turn whole limits place s text = elim (is_line_judged whole text) [
  | true ↦ (let end = place + length (line text) in said_turn end s (said limits end (is_there (after_line text)) s.named s.count (kind (line text))))
  | false ↦ ends_with s Open
]

-- which phrase a token opens, where nothing is open
pub data Opening : Type 0 where
  OpensHeader : Opening
  OpensParity : List ℕ → Opening
  OpensClause : Opening

-- the token `p` alone
abbrev pub header_opening : List ℕ → Opening
header_opening [] = OpensHeader
header_opening (b ∷ bs) = OpensClause

-- a token that begins with `x` opens a parity, the token `p` a header, and all else a clause
unfoldable pub opening : List ℕ → Opening
opening [] = OpensClause
opening (b ∷ bs) = elim (nat_eq b 120) [ true ↦ OpensParity bs | false ↦ elim (nat_eq b 112) [ true ↦ header_opening bs | false ↦ OpensClause ] ]

-- the phrase that the token at the front opens
unfoldable pub opened : Bool → LimitNumbers → ℕ → Sofar → List ℕ → List ℕ → Opening → Turn Sofar Reading
opened whole limits place s token text OpensHeader = header_turned s (header whole limits (place + length token) place Format text)
opened whole limits place s token text (OpensParity bs) = list_turn s parity_of (begun whole limits place text (first_met limits place (place + length token) (listing_of s) bs))
opened whole limits place s token text OpensClause =
    list_turn s Clause (begun whole limits place text (literal_met limits place (place + length token) (listing_of s) (literal_token limits.vars token)))

-- the token at the front, where nothing is open
unfoldable pub token_phrase : Bool → LimitNumbers → ℕ → Sofar → List ℕ → Turn Sofar Reading
token_phrase whole limits place s text = elim (is_judged whole text) [
  | true ↦ opened whole limits place s (word text) text (opening (word text))
  | false ↦ ends_with s Open
]

-- A phrase that begins here: `c` begins a comment, `%` ends the formula, and a token opens what it opens.
unfoldable pub phrase : Bool → LimitNumbers → ℕ → Sofar → List ℕ → Turn Sofar Reading
phrase whole limits place s [] = ends_with s Open
phrase whole limits place s (b ∷ bs) = elim (nat_eq b 99) [
  | true ↦ comment_turn whole limits place s (b ∷ bs)
  | false ↦ elim (nat_eq b 37) [ true ↦ ends_with s Ended | false ↦ token_phrase whole limits place s (b ∷ bs) ]
]

-- the text ends between two phrases
unfoldable pub text_end : Bool → ℕ → Sofar → Reading
text_end true place s = record { commands = s.commands; end = Ended }
text_end false place s = record { commands = s.commands; end = Open }

-- the reading from a place between two phrases on
unfoldable pub reading_from : Bool → LimitNumbers → ℕ → Sofar → List ℕ → Reading
reading_from whole limits place s text = walk (phrase whole limits) (text_end whole) place place s text

-- before the first phrase
abbrev pub nothing_read : Sofar
nothing_read = record { commands = []; named = 0; count = 0 }

-- a whole text, or a front of one
unfoldable pub read : Bool → LimitNumbers → List ℕ → Reading
read whole limits text = reading_from whole limits 0 nothing_read text

-- a text that is longer than the limit is refused behind what its front decides
abbrev pub cut_off : LimitNumbers → Reading → End → Reading
cut_off limits r Open = record { commands = r.commands; end = Refused (TooLong limits.input) }
cut_off limits r Ended = r
cut_off limits r (Refused why) = r

-- what the bytes of a front within the limit say, where more may come; only a `%` ends it
unfoldable pub front_reading : LimitNumbers → List ℕ → Reading
front_reading limits text = read false limits (take limits.input text)

-- what a text says
unfoldable pub reading_of : LimitNumbers → List ℕ → Reading
reading_of limits text = elim (nat_le (length text) limits.input) [
  | true ↦ read true limits text
  | false ↦ (let r : Reading = front_reading limits text in cut_off limits r r.end)
]

-- the commands that a front of a text decides, however the text goes on
abbrev pub decided_of : LimitNumbers → List ℕ → List Command
decided_of limits text = (front_reading limits text).commands

-- whether a reading ends well
abbrev pub is_ended : End → Bool
is_ended Ended = true
is_ended (Refused why) = false
is_ended Open = false

-- whether a `%` within a text, and within the limit, ends the formula
abbrev pub ends_within : LimitNumbers → List ℕ → Bool
ends_within limits text = is_ended (front_reading limits text).end
