-- What a reader does with a byte.
use Rattle.std.specs.Prelude.{ℕ, suc, ◌≡◌, max, Bool, true, false, ◌||◌, List, [], ◌∷◌, ◌++◌, nat_lt, nat_le, nat_eq, Option, Some, None, Result, Ok, Err}
use Rattle.sat_lits.specs.Limits.{LimitNumbers}
use Rattle.sat_lits.specs.declared.literal.Lit.{Lit}
use Rattle.dimacs_text.specs.Walk.{is_blank}
use Rattle.dimacs_text.specs.Words.{extended, token_of, is_begun, number_of, is_format, is_p}
use Rattle.dimacs_text.specs.Lists.{parity_of}
use Rattle.dimacs_text.specs.CommentSteps.{comment_next, is_opened, in_comment}
use Rattle.dimacs_text.specs.Phrases.{is_nothing, in_list, in_header}
use Rattle.dimacs_text.specs.Arguments.{no_arguments, solve_byte, growth_byte, solve_last, growth_last, judged}
use Rattle.dimacs_text.specs.declared.token.Token.{Token}
use Rattle.dimacs_text.specs.declared.token.Token.TheVariants.{Ending, Literal, TooLarge, NoLiteral}
use Rattle.dimacs_text.specs.declared.token.Word.{Word}
use Rattle.dimacs_text.specs.declared.token.Word.TheVariants.{Empty}
use Rattle.dimacs_text.specs.declared.comment.Comment.{Comment}
use Rattle.dimacs_text.specs.declared.comment.Comment.TheVariants.{Absent, First, Gap, Front, SolveName, GrowthName, Solving, Growing, Skipped}
use Rattle.dimacs_text.specs.declared.arguments.Arguments.{Arguments}
use Rattle.dimacs_text.specs.declared.phrase.Phrase.{Phrase}
use Rattle.dimacs_text.specs.declared.phrase.Phrase.TheVariants.{Nothing, Clause as InClause, Parity as InParity, Header}
use Rattle.dimacs_text.specs.declared.phrase.Wanted.{Wanted}
use Rattle.dimacs_text.specs.declared.phrase.Wanted.TheVariants.{Format, Variables, Clauses}
use Rattle.dimacs_text.specs.declared.state.State.{State}
use Rattle.dimacs_text.specs.declared.state.Stage.TheVariants.{Open, Ended}
use Rattle.dimacs_text.specs.declared.command.Command.{Command}
use Rattle.dimacs_text.specs.declared.command.Command.TheVariants.{Clause, Grow, Solve}
use Rattle.dimacs_text.specs.declared.refusal.ReadError.{ReadError}
use Rattle.dimacs_text.specs.declared.refusal.ReadError.TheVariants.{Refused, Memory}
use Rattle.dimacs_text.specs.declared.refusal.Refusal.{Refusal}
use Rattle.dimacs_text.specs.declared.refusal.Refusal.TheVariants.{BadToken, VarTooLarge, TooManyLits, Truncated, TooLong}

-- what a step leads to: a state, the end of the formula or a refusal, and the commands that are added
pub data Step : Type 0 where
  Goes : State → List Command → Step
  Ends : State → List Command → Step
  Fails : Refusal → List Command → Step

-- nothing has come of a text
pub record IsFresh (limits : LimitNumbers) (s : State) : Type 0 where
  pub limited : s.limits ≡ limits
  pub stage : s.stage ≡ Open
  pub place : s.place ≡ 0
  pub start : s.start ≡ 0
  pub named : s.named ≡ 0
  pub count : s.count ≡ 0
  pub phrase : s.phrase ≡ Nothing
  pub lits : s.lits ≡ []
  pub no_x : s.after_x ≡ false
  pub word : s.word ≡ Empty
  pub comment : s.comment ≡ Absent

-- what an open list makes of its literals
abbrev pub made : Phrase → List Lit → Command
made Nothing lits = Clause lits
made InClause lits = Clause lits
made InParity lits = parity_of lits
made (Header wanted) lits = Clause lits

-- the literals of the open list are taken out
abbrev pub without_list : State → State
without_list s = record s { lits = [] }

-- a literal opens a clause where nothing is open
abbrev pub listing_phrase : Phrase → Phrase
listing_phrase Nothing = InClause
listing_phrase InClause = InClause
listing_phrase InParity = InParity
listing_phrase (Header wanted) = Header wanted

-- a token ends where a list is open, or opens a clause
unfoldable pub list_step : State → Token → Step
list_step s Ending = Goes (record s { phrase = Nothing; lits = []; word = Empty }) (made s.phrase s.lits ∷ [])
list_step s (Literal lit) = elim (nat_lt s.count s.limits.lits) [
  | true ↦ Goes (record s { phrase = listing_phrase s.phrase; lits = s.lits ++ lit ∷ []; named = max s.named (suc lit.var.0); count = suc s.count; word = Empty }) []
  | false ↦ Fails (TooManyLits s.start) []
]
list_step s TooLarge = Fails (VarTooLarge s.start) []
list_step s NoLiteral = Fails (BadToken s.start) []

-- the number of variables of a header comes
abbrev pub variables_step : State → ℕ → Step
variables_step s value = elim (nat_le value s.limits.vars) [
  | true ↦ Goes (record s { phrase = Header (Clauses value); word = Empty }) []
  | false ↦ Fails (VarTooLarge s.start) []
]

-- the number of clauses of a header comes, behind its number of variables
abbrev pub headed_step : State → ℕ → Step
headed_step s vars = Goes (record s { named = max s.named vars; phrase = Nothing; word = Empty }) (Grow (max s.named vars) ∷ [])

-- a token in place of a header's number of variables
abbrev pub variables_by : State → Option ℕ → Step
variables_by s None = Fails (BadToken s.start) []
variables_by s (Some value) = variables_step s value

-- a token in place of a header's number of clauses
abbrev pub clauses_by : State → ℕ → Option ℕ → Step
clauses_by s vars None = Fails (BadToken s.start) []
clauses_by s vars (Some value) = headed_step s vars

-- a token ends where a header is open
unfoldable pub header_step : State → Wanted → Word → Step
header_step s Format w = elim (is_format w) [ true ↦ Goes (record s { phrase = Header Variables; word = Empty }) [] | false ↦ Fails (BadToken s.start) [] ]
header_step s Variables w = variables_by s (number_of w)
header_step s (Clauses vars) w = clauses_by s vars (number_of w)

-- a token ends that is no parity's first
abbrev pub phrase_word : State → Word → Phrase → Step
phrase_word s w Nothing = elim (is_p w) [ true ↦ Goes (record s { phrase = Header Format; word = Empty }) [] | false ↦ list_step s (token_of s.limits.vars w) ]
phrase_word s w InClause = list_step s (token_of s.limits.vars w)
phrase_word s w InParity = list_step s (token_of s.limits.vars w)
phrase_word s w (Header wanted) = header_step s wanted w

-- the token that has begun ends, if there is one, and it is no parity's first
unfoldable pub plain_word : State → Word → Step
plain_word s Empty = Goes s []
plain_word s w = phrase_word s w s.phrase

-- a parity opens
abbrev pub in_parity : State → State
in_parity s = record s { after_x = false; phrase = InParity }

-- the token that has begun ends, if there is one
unfoldable pub word_step : State → Step
word_step s = elim s.after_x [ true ↦ plain_word (in_parity s) s.word | false ↦ plain_word s s.word ]

-- a command is behind
abbrev pub with_command : State → Arguments → State
with_command s a = record s { comment = Absent; arguments = no_arguments 0 0 0; named = a.named; count = a.count }

-- the line of a command ends, and it is judged
abbrev pub command_step : State → Arguments → Command → Result (Unit {0}) Refusal → Step
command_step s a command (Ok x) = Goes (with_command s a) (command ∷ [])
command_step s a command (Err why) = Fails why []

-- the line of a solve ends, with these arguments
abbrev pub solve_line : State → Bool → Arguments → Step
solve_line s by_byte a = command_step s a (Solve a.lits) (judged a by_byte s.place)

-- the line of a growth ends, with these arguments
abbrev pub growth_line : State → Bool → Arguments → Step
growth_line s by_byte a = command_step s a (Grow a.named) (judged a by_byte s.place)

-- the line of a comment that is no command ends
abbrev pub skipped_line : State → Step
skipped_line s = Goes (record s { comment = Absent }) []

-- the line of a comment ends, by byte 10 or by the text's end
unfoldable pub line_by : State → Bool → Comment → Step
line_by s by_byte Absent = skipped_line s
line_by s by_byte First = skipped_line s
line_by s by_byte Gap = skipped_line s
line_by s by_byte (Front count) = skipped_line s
line_by s by_byte (SolveName count) = skipped_line s
line_by s by_byte (GrowthName count) = skipped_line s
line_by s by_byte Solving = elim (in_list s.phrase) [ true ↦ Fails (BadToken s.start) [] | false ↦ solve_line s by_byte (solve_last s.limits s.arguments) ]
line_by s by_byte Growing = elim (in_list s.phrase) [ true ↦ Fails (BadToken s.start) [] | false ↦ growth_line s by_byte (growth_last s.limits s.arguments) ]
line_by s by_byte Skipped = skipped_line s

-- a byte comes before the bracket of a comment, or where it is no command
abbrev pub named_byte : State → Comment → State
named_byte s next = record s { place = suc s.place; comment = next; arguments = elim (is_opened next) [ true ↦ no_arguments s.named s.count (suc s.place) | false ↦ s.arguments ] }

-- a byte comes in the line of a comment
unfoldable pub comment_byte : State → ℕ → Comment → State
comment_byte s b Absent = named_byte s (comment_next Absent b)
comment_byte s b First = named_byte s (comment_next First b)
comment_byte s b Gap = named_byte s (comment_next Gap b)
comment_byte s b (Front count) = named_byte s (comment_next (Front count) b)
comment_byte s b (SolveName count) = named_byte s (comment_next (SolveName count) b)
comment_byte s b (GrowthName count) = named_byte s (comment_next (GrowthName count) b)
comment_byte s b Solving = record s { place = suc s.place; arguments = elim (in_list s.phrase) [ true ↦ s.arguments | false ↦ solve_byte s.limits s.place s.arguments b ] }
comment_byte s b Growing = record s { place = suc s.place; arguments = elim (in_list s.phrase) [ true ↦ s.arguments | false ↦ growth_byte s.limits s.place s.arguments b ] }
comment_byte s b Skipped = named_byte s Skipped

-- a blank at a place is passed
abbrev pub past_blank : ℕ → Step → Step
past_blank place (Goes s cs) = Goes (record s { place = suc place; start = suc place }) cs
past_blank place (Ends s cs) = Ends (record s { place = suc place; start = suc place }) cs
past_blank place (Fails why cs) = Fails why cs

-- a byte comes where a comment has begun
unfoldable pub comment_step : State → ℕ → Step
comment_step s b = elim (nat_eq b 10) [ true ↦ past_blank s.place (line_by s true s.comment) | false ↦ Goes (comment_byte s b s.comment) [] ]

-- a byte of a token comes
abbrev pub more_step : State → ℕ → Step
more_step s b = Goes (record s { place = suc s.place; word = extended s.limits.vars s.word b }) []

-- `%` comes in place of a token
abbrev pub percent_step : State → Step
percent_step s = elim (is_nothing s.phrase) [ true ↦ Ends (record s { stage = Ended }) [] | false ↦ Fails (Truncated s.place) [] ]

-- a comment begins
abbrev pub comment_begins : State → State
comment_begins s = record s { place = suc s.place; comment = First }

-- `x` comes where nothing is open
abbrev pub x_comes : State → State
x_comes s = record s { place = suc s.place; after_x = true }

-- the first byte of a token comes where no header is open
unfoldable pub fresh_step : State → ℕ → Step
fresh_step s b = elim (nat_eq b 99) [
  | true ↦ Goes (comment_begins s) []
  | false ↦ elim (nat_eq b 37) [
    | true ↦ percent_step s
    | false ↦ elim (nat_eq b 120) [ true ↦ elim (is_nothing s.phrase) [ true ↦ Goes (x_comes s) [] | false ↦ more_step s b ] | false ↦ more_step s b ]
  ]
]

-- whether the next byte goes on with a token as it stands
abbrev pub goes_on : State → Bool
goes_on s = s.after_x || (is_begun s.word || in_header s.phrase)

-- a byte that is no blank comes outside comments
unfoldable pub solid_step : State → ℕ → Step
solid_step s b = elim (goes_on s) [ true ↦ more_step s b | false ↦ fresh_step s b ]

-- a byte comes outside comments
unfoldable pub plain_step : State → ℕ → Step
plain_step s b = elim (is_blank b) [ true ↦ past_blank s.place (word_step s) | false ↦ solid_step s b ]

-- a byte comes
unfoldable pub byte_step : State → ℕ → Step
byte_step s b = elim (nat_lt s.place s.limits.input) [
  | true ↦ elim (in_comment s.comment) [ true ↦ comment_step s b | false ↦ plain_step s b ]
  | false ↦ Fails (TooLong s.limits.input) []
]

-- the token or the comment that has begun ends with the text
unfoldable pub last_step : State → Step
last_step s = elim (in_comment s.comment) [ true ↦ line_by s false s.comment | false ↦ word_step s ]

-- nothing is open where the text ends
abbrev pub at_end : ℕ → Step → Step
at_end place (Goes s cs) = elim (is_nothing s.phrase) [ true ↦ Goes s cs | false ↦ Fails (Truncated place) cs ]
at_end place (Ends s cs) = elim (is_nothing s.phrase) [ true ↦ Ends s cs | false ↦ Fails (Truncated place) cs ]
at_end place (Fails why cs) = Fails why cs

-- the text ends
unfoldable pub end_step : State → Step
end_step s = at_end s.place (last_step s)

-- a call went on as the step says
abbrev pub GoesTo : State → List Command → List Command → Step → Type 0
GoesTo new before now (Goes s cs) = (new ≡ s) × (now ≡ before ++ cs)
GoesTo new before now (Ends s cs) = (new ≡ s) × (now ≡ before ++ cs)
GoesTo new before now (Fails why cs) = ⊥

-- a call refused the text as the step says
abbrev pub FailsAs : Refusal → List Command → List Command → Step → Type 0
FailsAs refusal before now (Goes s cs) = ⊥
FailsAs refusal before now (Ends s cs) = ⊥
FailsAs refusal before now (Fails why cs) = (refusal ≡ why) × (now ≡ before ++ cs)

-- what a call did is what the step says, or memory ran out and no command was added
abbrev pub Does : {X : Type 0} → Result X ReadError → State → List Command → List Command → Step → Type 0
Does (Ok x) new before now step = GoesTo new before now step
Does (Err (Refused refusal)) new before now step = FailsAs refusal before now step
Does (Err Memory) new before now step = now ≡ before
