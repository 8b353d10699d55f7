-- What the end of a token or of a comment leaves.
use Rattle.std.proofs.Common.{◌≡◌, ℕ, suc, max, Bool, true, false, [], ◌∷◌, ◌++◌, Option, Some, None, Result, Ok, Err, nat_lt, nat_le, refl, sym, ◌∙◌, ap}
use Rattle.std.proofs.lemmas.Bool.{false≢true}
use Rattle.dimacs_text.specs.Words.{token_of, number_of, is_p, is_format}
use Rattle.dimacs_text.specs.Phrases.{in_list, in_header}
use Rattle.dimacs_text.specs.CommentSteps.{in_comment}
use Rattle.dimacs_text.specs.Arguments.{solve_last, growth_last, judged}
use Rattle.dimacs_text.specs.Steps.{Goes, Fails, listing_phrase, list_step, variables_by, clauses_by, header_step, phrase_word, plain_word, in_parity, word_step, command_step, solve_line, growth_line, line_by}
use Rattle.dimacs_text.specs.declared.token.Token.{Token}
use Rattle.dimacs_text.specs.declared.token.Token.TheVariants.{Ending, Literal, TooLarge, NoLiteral}
use Rattle.dimacs_text.specs.declared.token.Word.{Word}
use Rattle.dimacs_text.specs.declared.token.Word.TheVariants.{Empty, Minus, Digits, Cnf, P, NoNumber}
use Rattle.dimacs_text.specs.declared.phrase.Phrase.{Phrase}
use Rattle.dimacs_text.specs.declared.phrase.Phrase.TheVariants.{Nothing, Clause as InClause, Parity as InParity, Header as InHeader}
use Rattle.dimacs_text.specs.declared.phrase.Wanted.{Wanted}
use Rattle.dimacs_text.specs.declared.phrase.Wanted.TheVariants.{Format, Variables, Clauses}
use Rattle.dimacs_text.specs.declared.comment.Comment.{Comment}
use Rattle.dimacs_text.specs.declared.comment.Comment.TheVariants.{Absent, First, Gap, Front, SolveName, GrowthName, Solving, Growing, Skipped}
use Rattle.dimacs_text.specs.declared.arguments.Arguments.{Arguments}
use Rattle.dimacs_text.specs.declared.state.State.{State}
use Rattle.dimacs_text.specs.declared.command.Command.{Command}
use Rattle.dimacs_text.specs.declared.command.Command.TheVariants.{Solve, Grow}
use Rattle.dimacs_text.specs.declared.refusal.Refusal.{Refusal}
use Rattle.dimacs_text.specs.declared.refusal.Refusal.TheVariants.{BadToken, VarTooLarge, TooManyLits}
use Rattle.dimacs_text.proofs.Feed.{Leaves}

-- no comment has begun
pub no_comment : (c : Comment) → in_comment c ≡ false → c ≡ Absent
no_comment Absent h = refl
no_comment First h = cc
no_comment Gap h = cc
no_comment (Front count) h = cc
no_comment (SolveName count) h = cc
no_comment (GrowthName count) h = cc
no_comment Solving h = cc
no_comment Growing h = cc
no_comment Skipped h = cc

-- no token and no comment has begun, and where no list is open it has no literals
pub record IsBare (s : State) : Type 0 where
  pub no_x : s.after_x ≡ false
  pub comment : s.comment ≡ Absent
  pub fresh : in_list s.phrase ≡ false → s.lits ≡ []

-- a literal leaves a list open
listing-open : (p : Phrase) → in_header p ≡ false → in_list (listing_phrase p) ≡ true
listing-open Nothing h = refl
listing-open InClause h = refl
listing-open InParity h = refl
listing-open (InHeader wanted) h = cc

-- a token in a list
list_leaves : (s : State) (t : Token) → IsBare s → in_header s.phrase ≡ false → Leaves s (list_step s t)
unfolding list_step
list_leaves s Ending bare h = (refl, refl, refl, bare.no_x, bare.comment, λ _. refl)
list_leaves s (Literal lit) bare h = go (nat_lt s.count s.limits.lits)
  where
    go : (v : Bool) → Leaves s (elim v [
      | true ↦ Goes (record s { phrase = listing_phrase s.phrase; lits = s.lits ++ lit ∷ []; named = max s.named (suc lit.var.0); count = suc s.count; word = Empty }) []
      | false ↦ Fails (TooManyLits s.start) []
    ])
    go true = (refl, refl, refl, bare.no_x, bare.comment, λ e. absurd (false≢true (sym e ∙ listing-open s.phrase h)))
    go false = tt
list_leaves s TooLarge bare h = tt
list_leaves s NoLiteral bare h = tt

-- the number of variables of a header
variables_leaves : (s : State) (x : Option ℕ) → IsBare s → s.lits ≡ [] → Leaves s (variables_by s x)
variables_leaves s None bare l = tt
variables_leaves s (Some value) bare l = go (nat_le value s.limits.vars)
  where
    go : (v : Bool) → Leaves s (elim v [ true ↦ Goes (record s { phrase = InHeader (Clauses value); word = Empty }) [] | false ↦ Fails (VarTooLarge s.start) [] ])
    go true = (refl, refl, refl, bare.no_x, bare.comment, λ _. l)
    go false = tt

-- a token in a header
header_leaves : (s : State) (wanted : Wanted) (w : Word) → IsBare s → s.lits ≡ [] → Leaves s (header_step s wanted w)
unfolding header_step
header_leaves s Format w bare l = go (is_format w)
  where
    go : (v : Bool) → Leaves s (elim v [ true ↦ Goes (record s { phrase = InHeader Variables; word = Empty }) [] | false ↦ Fails (BadToken s.start) [] ])
    go true = (refl, refl, refl, bare.no_x, bare.comment, λ _. l)
    go false = tt
header_leaves s Variables w bare l = variables_leaves s (number_of w) bare l
header_leaves s (Clauses vars) w bare l = go (number_of w)
  where
    go : (x : Option ℕ) → Leaves s (clauses_by s vars x)
    go None = tt
    go (Some value) = (refl, refl, refl, bare.no_x, bare.comment, λ _. l)

-- a token by what is open
phrase_leaves : (s : State) (w : Word) (p : Phrase) → s.phrase ≡ p → IsBare s → Leaves s (phrase_word s w p)
phrase_leaves s w Nothing e bare = go (is_p w)
  where
    go : (v : Bool) → Leaves s (elim v [ true ↦ Goes (record s { phrase = InHeader Format; word = Empty }) [] | false ↦ list_step s (token_of s.limits.vars w) ])
    go true = (refl, refl, refl, bare.no_x, bare.comment, λ _. bare.fresh (ap in_list e))
    go false = list_leaves s (token_of s.limits.vars w) bare (ap in_header e)
phrase_leaves s w InClause e bare = list_leaves s (token_of s.limits.vars w) bare (ap in_header e)
phrase_leaves s w InParity e bare = list_leaves s (token_of s.limits.vars w) bare (ap in_header e)
phrase_leaves s w (InHeader wanted) e bare = header_leaves s wanted w bare (bare.fresh (ap in_list e))

-- a word
plain_leaves : (s : State) (w : Word) → s.word ≡ w → IsBare s → Leaves s (plain_word s w)
unfolding plain_word
plain_leaves s Empty e bare = (refl, refl, e, bare.no_x, bare.comment, bare.fresh)
plain_leaves s Minus e bare = phrase_leaves s Minus s.phrase refl bare
plain_leaves s (Digits negative v) e bare = phrase_leaves s (Digits negative v) s.phrase refl bare
plain_leaves s (Cnf count) e bare = phrase_leaves s (Cnf count) s.phrase refl bare
plain_leaves s P e bare = phrase_leaves s P s.phrase refl bare
plain_leaves s NoNumber e bare = phrase_leaves s NoNumber s.phrase refl bare

-- The end of a token, behind an `x` or not.
pub word_leaves : (s : State) → in_comment s.comment ≡ false → (in_list s.phrase ≡ false → s.lits ≡ []) → Leaves s (word_step s)
unfolding word_step
word_leaves s c fresh = go s.after_x refl
  where
    go : (x : Bool) → s.after_x ≡ x → Leaves s (elim x [ true ↦ plain_word (in_parity s) s.word | false ↦ plain_word s s.word ])
    go true e = plain_leaves (in_parity s) s.word refl (record { no_x = refl; comment = no_comment s.comment c; fresh = λ i. absurd (false≢true (sym i)) })
    go false e = plain_leaves s s.word refl (record { no_x = e; comment = no_comment s.comment c; fresh = fresh })

-- a command that is judged
command_leaves : (s : State) (a : Arguments) (command : Command) (x : Result (Unit {0}) Refusal) → s.word ≡ Empty → s.after_x ≡ false → (in_list s.phrase ≡ false → s.lits ≡ [])
    → Leaves s (command_step s a command x)
command_leaves s a command (Ok u) w x fresh = (refl, refl, w, x, refl, fresh)
command_leaves s a command (Err why) w x fresh = tt

-- The end of a comment's line.
pub line_leaves : (s : State) (by_byte : Bool) (c : Comment) → s.word ≡ Empty → s.after_x ≡ false → (in_list s.phrase ≡ false → s.lits ≡ []) → Leaves s (line_by s by_byte c)
unfolding line_by
line_leaves s by_byte Absent w x fresh = (refl, refl, w, x, refl, fresh)
line_leaves s by_byte First w x fresh = (refl, refl, w, x, refl, fresh)
line_leaves s by_byte Gap w x fresh = (refl, refl, w, x, refl, fresh)
line_leaves s by_byte (Front count) w x fresh = (refl, refl, w, x, refl, fresh)
line_leaves s by_byte (SolveName count) w x fresh = (refl, refl, w, x, refl, fresh)
line_leaves s by_byte (GrowthName count) w x fresh = (refl, refl, w, x, refl, fresh)
line_leaves s by_byte Skipped w x fresh = (refl, refl, w, x, refl, fresh)
line_leaves s by_byte Solving w x fresh = go (in_list s.phrase)
  where
    a : Arguments
    a = solve_last s.limits s.arguments

    go : (v : Bool) → Leaves s (elim v [ true ↦ Fails (BadToken s.start) [] | false ↦ solve_line s by_byte a ])
    go true = tt
    go false = command_leaves s a (Solve a.lits) (judged a by_byte s.place) w x fresh
line_leaves s by_byte Growing w x fresh = go (in_list s.phrase)
  where
    a : Arguments
    a = growth_last s.limits s.arguments

    go : (v : Bool) → Leaves s (elim v [ true ↦ Fails (BadToken s.start) [] | false ↦ growth_line s by_byte a ])
    go true = tt
    go false = command_leaves s a (Grow a.named) (judged a by_byte s.place) w x fresh
