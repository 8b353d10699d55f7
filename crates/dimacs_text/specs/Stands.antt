-- What the state of a reader says of the text so far.
use Rattle.std.specs.Prelude.{ℕ, ◌+◌, ◌≡◌, ◌≤◌, Bool, true, false, List, [], ◌∷◌, ◌++◌, length, nat_eq}
use Rattle.sat_lits.specs.Limits.{LimitNumbers}
use Rattle.sat_lits.specs.declared.literal.Lit.{Lit}
use Rattle.dimacs_text.specs.Walk.{is_blank, walk}
use Rattle.dimacs_text.specs.Words.{word_after}
use Rattle.dimacs_text.specs.Phrases.{in_list, in_header}
use Rattle.dimacs_text.specs.Comments.{kind, is_command}
use Rattle.dimacs_text.specs.CommentSteps.{in_comment, is_opened, kind_of}
use Rattle.dimacs_text.specs.Lists.{Listing, Literals, Listed, Broken, literals, parity_of, Said, said}
use Rattle.dimacs_text.specs.Headers.{Header, Headed, NoHeader, header}
use Rattle.dimacs_text.specs.Grammar.{Reading, Sofar, read, reading_from, phrase, text_end, with_list, with_header}
use Rattle.dimacs_text.specs.Arguments.{solve_says, growth_says, is_over}
use Rattle.dimacs_text.specs.declared.token.Word.TheVariants.{Empty}
use Rattle.dimacs_text.specs.declared.comment.Comment.{Comment}
use Rattle.dimacs_text.specs.declared.comment.Comment.TheVariants.{Absent, First, Gap, Front, SolveName, GrowthName, Solving, Growing, Skipped}
use Rattle.dimacs_text.specs.declared.phrase.Phrase.{Phrase}
use Rattle.dimacs_text.specs.declared.phrase.Phrase.TheVariants.{Nothing, Clause as InClause, Parity as InParity, Header as InHeader}
use Rattle.dimacs_text.specs.declared.state.State.{State}
use Rattle.dimacs_text.specs.declared.command.Command.{Command}
use Rattle.dimacs_text.specs.declared.command.Command.TheVariants.{Clause}

-- no byte of it is a blank
abbrev pub IsSolid : List ℕ → Type 0
IsSolid [] = Unit {0}
IsSolid (b ∷ bs) = (is_blank b ≡ false) × IsSolid bs

-- no byte of it is byte 10
abbrev pub IsInLine : List ℕ → Type 0
IsInLine [] = Unit {0}
IsInLine (b ∷ bs) = (nat_eq b 10 ≡ false) × IsInLine bs

-- part of a comment
abbrev pub IsComment : List ℕ → Type 0
IsComment [] = ⊥
IsComment (b ∷ bs) = (b ≡ 99) × IsInLine bs

-- it begins no comment, and is no `%`
abbrev pub IsPlainByte : ℕ → Type 0
IsPlainByte b = (nat_eq b 99 ≡ false) × (nat_eq b 37 ≡ false)

-- part of a token, which begins as the open phrase lets it
abbrev pub IsWord : Phrase → List ℕ → Type 0
IsWord phrase [] = Unit {0}
IsWord Nothing (b ∷ bs) = (is_blank b ≡ false) × IsSolid bs × IsPlainByte b × (nat_eq b 120 ≡ false)
IsWord InClause (b ∷ bs) = (is_blank b ≡ false) × IsSolid bs × IsPlainByte b
IsWord InParity (b ∷ bs) = (is_blank b ≡ false) × IsSolid bs × IsPlainByte b
IsWord (InHeader wanted) (b ∷ bs) = (is_blank b ≡ false) × IsSolid bs

-- the reading behind the literals of a list, in a text that begins before them
unfoldable pub closed : Bool → LimitNumbers → ℕ → List Command → (List Lit → Command) → List ℕ → Literals → Reading
closed whole limits place commands make text (Listed l after) = walk (phrase whole limits) (text_end whole) after place (with_list commands make l) text
closed whole limits place commands make text (Broken end) = record { commands = commands; end = end }

-- the reading behind a header, in a text that begins before it
unfoldable pub headed : Bool → LimitNumbers → ℕ → Sofar → List ℕ → Header → Reading
headed whole limits place s text (Headed vars after) = walk (phrase whole limits) (text_end whole) after place (with_header s.commands s.named s.count vars) text
headed whole limits place s text (NoHeader end) = record { commands = s.commands; end = end }

-- the numbers of an open list, behind these commands
abbrev pub sofar : List Command → Listing → Sofar
sofar commands l = record { commands = commands; named = l.named; count = l.count }

-- the reading of the rest of a text, by what is open
unfoldable pub rest_at : Bool → LimitNumbers → ℕ → List Command → Phrase → Listing → List ℕ → Reading
rest_at whole limits place commands Nothing l text = reading_from whole limits place (sofar commands l) text
rest_at whole limits place commands InClause l text = closed whole limits place commands Clause text (literals whole limits place place l text)
rest_at whole limits place commands InParity l text = closed whole limits place commands parity_of text (literals whole limits place place l text)
rest_at whole limits place commands (InHeader wanted) l text = headed whole limits place (sofar commands l) text (header whole limits place place wanted text)

-- the open list of a state
abbrev pub listing_in : State → Listing
listing_in st = record { lits = st.lits; named = st.named; count = st.count }

-- what a comment says whose line ends at a place, by the bytes of its line that follow
abbrev pub comment_says : State → ℕ → Bool → List ℕ → Comment → Said
comment_says st end by_byte rest Solving = solve_says st.limits st.place end by_byte st.arguments rest st.arguments.refused
comment_says st end by_byte rest Growing = growth_says st.limits st.place end by_byte st.arguments rest st.arguments.refused
comment_says st end by_byte rest Absent = said st.limits end by_byte st.named st.count (kind_of Absent rest)
comment_says st end by_byte rest First = said st.limits end by_byte st.named st.count (kind_of First rest)
comment_says st end by_byte rest Gap = said st.limits end by_byte st.named st.count (kind_of Gap rest)
comment_says st end by_byte rest (Front count) = said st.limits end by_byte st.named st.count (kind_of (Front count) rest)
comment_says st end by_byte rest (SolveName count) = said st.limits end by_byte st.named st.count (kind_of (SolveName count) rest)
comment_says st end by_byte rest (GrowthName count) = said st.limits end by_byte st.named st.count (kind_of (GrowthName count) rest)
comment_says st end by_byte rest Skipped = said st.limits end by_byte st.named st.count (kind_of Skipped rest)

-- what is known of a comment that has begun: it goes on as its state says
pub record HoldsComment (st : State) (held : List ℕ) : Type 0 where
  pub comment : IsComment held
  pub word : st.word ≡ Empty
  pub no_x : st.after_x ≡ false
  pub no_header : in_header st.phrase ≡ false
  pub command : (rest : List ℕ) → is_command (kind (held ++ rest)) ≡ is_command (kind_of st.comment rest)
  pub says : in_list st.phrase ≡ false → (end : ℕ) (by_byte : Bool) (rest : List ℕ) → end ≡ st.place + length rest
      → said st.limits end by_byte st.named st.count (kind (held ++ rest)) ≡ comment_says st end by_byte rest st.comment
  pub begins : in_list st.phrase ≡ false → is_opened st.comment ≡ true → is_over st.arguments ≡ false → st.arguments.word ≡ Empty → st.arguments.start ≡ st.place

-- what is known of a token that has begun, behind an `x` or not
abbrev pub HoldsWord : Bool → State → List ℕ → Type 0
HoldsWord true st held = (tail : List ℕ) × (held ≡ 120 ∷ tail) × IsSolid tail × (st.word ≡ word_after st.limits.vars Empty tail) × (st.phrase ≡ Nothing)
HoldsWord false st held = IsWord st.phrase held × (st.word ≡ word_after st.limits.vars Empty held)

-- what has come of a token or a comment
abbrev pub Holds : Bool → State → List ℕ → Type 0
Holds true st held = HoldsComment st held
Holds false st held = HoldsWord st.after_x st held

-- The state of a reader that was fed a text and gave these commands: `done` is what is judged, and `held` the token
-- or the comment that has begun. Whatever follows, the reading goes on from the state.
pub record Stands (text : List ℕ) (commands : List Command) (st : State) : Type 0 where
  pub done : List ℕ
  pub held : List ℕ
  pub is_text : text ≡ done ++ held
  pub holds : Holds (in_comment st.comment) st held
  pub place : st.place ≡ st.start + length held
  pub taken : st.place ≡ length text
  pub fits : st.place ≤ st.limits.input
  pub fresh : in_list st.phrase ≡ false → st.lits ≡ []
  pub rest : (whole : Bool) (tail : List ℕ) → read whole st.limits (done ++ tail) ≡ rest_at whole st.limits st.start commands st.phrase (listing_in st) tail
