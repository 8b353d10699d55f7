-- The commands stay within the limits, step by step.
use Rattle.std.proofs.Common.{◌≡◌, ℕ, zero, suc, ◌+◌, ◌<◌, ◌≤◌, max, Bool, true, false, ◌||◌, List, [], ◌∷◌, ◌++◌, length, map, nat_lt, nat_le, nat_eq, sum_by, Option, Some, None, Result, Ok, Err, refl, sym, ◌∙◌, ap, subst, append-nil, length-append, arith}
use Rattle.std.proofs.lemmas.Bool.{false≢true, ltb-true, leb-true}
use Rattle.std.proofs.lemmas.List.{map-append, length-map}
use Rattle.std.proofs.lemmas.List.Sums.{sum_by-append, sum_by-cons}
use Rattle.sat_lits.specs.Limits.{LimitNumbers}
use Rattle.sat_lits.specs.declared.literal.Lit.{Lit}
use Rattle.sat_lits.specs.declared.literal.Var.{Var}
use Rattle.dimacs_text.specs.Walk.{is_blank}
use Rattle.dimacs_text.specs.Tokens.{signed}
use Rattle.dimacs_text.specs.Words.{extended, token_of, number_of, is_p, is_format}
use Rattle.dimacs_text.specs.Phrases.{is_nothing, in_list}
use Rattle.dimacs_text.specs.CommentSteps.{comment_next, is_opened, in_comment}
use Rattle.dimacs_text.specs.Commands.{greatest, named_by, literals_in, AreWithin}
use Rattle.dimacs_text.specs.Arguments.{no_arguments, refuse, solve_token, solve_word, closed_by, past, more_byte, is_some, is_over, solve_byte, growth_number, growth_token, growth_word, growth_byte, solve_last, growth_last, judged}
use Rattle.dimacs_text.specs.Steps.{IsFresh, Step, Goes, Ends, Fails, made, listing_phrase, list_step, variables_by, clauses_by, headed_step, header_step, phrase_word, plain_word, in_parity, word_step, command_step, solve_line, growth_line, skipped_line, line_by, named_byte, comment_byte, past_blank, comment_step, more_step, percent_step, comment_begins, x_comes, fresh_step, goes_on, solid_step, plain_step, byte_step, last_step, at_end, end_step}
use Rattle.dimacs_text.specs.Counts.{named_in, HeaderFits, CountsArguments, Counts}
use Rattle.dimacs_text.specs.declared.token.Token.{Token}
use Rattle.dimacs_text.specs.declared.token.Token.TheVariants.{Ending, Literal, TooLarge, NoLiteral}
use Rattle.dimacs_text.specs.declared.token.Word.{Word}
use Rattle.dimacs_text.specs.declared.token.Word.TheVariants.{Empty, Minus, Digits, Cnf, P, NoNumber}
use Rattle.dimacs_text.specs.declared.phrase.Phrase.{Phrase}
use Rattle.dimacs_text.specs.declared.phrase.Phrase.TheVariants.{Nothing, Clause as InClause, Parity as InParity, Header as InHeader}
use Rattle.dimacs_text.specs.declared.phrase.Wanted.{Wanted}
use Rattle.dimacs_text.specs.declared.phrase.Wanted.TheVariants.{Format, Variables, Clauses}
use Rattle.dimacs_text.specs.declared.comment.Comment.{Comment}
use Rattle.dimacs_text.specs.declared.comment.Comment.TheVariants.{Absent, First, Gap, Front, SolveName, GrowthName, Solving, Growing, Skipped}
use Rattle.dimacs_text.specs.declared.arguments.Arguments.{Arguments}
use Rattle.dimacs_text.specs.declared.state.State.{State}
use Rattle.dimacs_text.specs.declared.state.Stage.TheVariants.{Ended as IsEnded}
use Rattle.dimacs_text.specs.declared.command.Command.{Command}
use Rattle.dimacs_text.specs.declared.command.Command.TheVariants.{Grow, Solve}
use Rattle.dimacs_text.specs.declared.refusal.Refusal.{Refusal}
use Rattle.dimacs_text.specs.declared.refusal.Refusal.TheVariants.{BadToken, VarTooLarge, TooManyLits, Truncated, TooLong}
use Rattle.dimacs_text.proofs.Walks.{elim_true}
use Rattle.dimacs_text.proofs.Leaves.{no_comment}

-- the greatest of two rows of numbers
greatest-append : (xs ys : List ℕ) → greatest (xs ++ ys) ≡ max (greatest xs) (greatest ys)
greatest-append [] ys = omega arith
greatest-append (x ∷ xs) ys = omega (arith, greatest-append xs ys)

-- one element more
greatest-more : {X : Type 0} (f : X → ℕ) (xs : List X) (x : X) → greatest (map f (xs ++ x ∷ [])) ≡ max (greatest (map f xs)) (f x)
greatest-more f xs x =
    let e = ap greatest (map-append f xs (x ∷ [])) ∙ greatest-append (map f xs) (f x ∷ []) in
    omega (arith, e)

-- a literal's variable is below the limit
abbrev IsKnown : ℕ → Token → Type 0
IsKnown vars (Literal lit) = lit.var.0 < vars
IsKnown vars Ending = Unit {0}
IsKnown vars TooLarge = Unit {0}
IsKnown vars NoLiteral = Unit {0}

-- a number within the limit names a known variable
signed-known : (vars : ℕ) (negative : Bool) (n : Option ℕ) → IsKnown vars (signed vars negative n)
unfolding signed
signed-known vars negative None = tt
signed-known vars negative (Some zero) = elim negative as (λ v. IsKnown vars (elim v [ true ↦ NoLiteral | false ↦ Ending ])) [ true ↦ tt | false ↦ tt ]
signed-known vars negative (Some (suc v)) = go (nat_lt v vars) refl
  where
    go : (u : Bool) → nat_lt v vars ≡ u → IsKnown vars (elim u [ true ↦ Literal (record { var = record { 0 = v }; negative = negative }) | false ↦ TooLarge ])
    go true e = ltb-true _ _ e
    go false e = tt

-- so does a whole word
token_of-known : (vars : ℕ) (word : Word) → IsKnown vars (token_of vars word)
unfolding token_of
token_of-known vars Empty = tt
token_of-known vars Minus = tt
token_of-known vars (Digits negative v) = signed-known vars negative (Some v)
token_of-known vars (Cnf count) = tt
token_of-known vars P = tt
token_of-known vars NoNumber = tt

-- what a list makes names the variables of its literals
variables-named : (lits : List Lit) → greatest (map (λ (v : Var). suc v.0) (map (λ (l : Lit). l.var) lits)) ≡ named_in lits
variables-named [] = refl
variables-named (l ∷ ls) = ap (max (suc l.var.0)) (variables-named ls)

-- the command of a list
made-named : (p : Phrase) (lits : List Lit) → named_by (made p lits) ≡ named_in lits
made-named Nothing lits = refl
made-named InClause lits = refl
made-named InParity lits = variables-named lits
made-named (InHeader wanted) lits = refl

-- has as many literals
made-length : (p : Phrase) (lits : List Lit) → literals_in (made p lits) ≡ length lits
made-length Nothing lits = refl
made-length InClause lits = refl
made-length InParity lits = length-map lits (λ (l : Lit). l.var)
made-length (InHeader wanted) lits = refl

-- one command more adds its literals
literals-more : (commands : List Command) (c : Command) → sum_by literals_in (commands ++ c ∷ []) ≡ sum_by literals_in commands + literals_in c
literals-more commands c = let e = sum_by-append literals_in commands (c ∷ []) in let f = sum_by-cons literals_in c [] in omega (arith, e, f)

-- commands that are counted are within the limits
pub counts-within : (commands : List Command) (s : State) → Counts commands s → AreWithin s.limits commands
counts-within commands s counts = record { named = omega (arith, counts.named, counts.known); few = omega (arith, counts.count, counts.few) }

-- also where none is added
within_none : (commands : List Command) (s : State) → Counts commands s → AreWithin s.limits (commands ++ [])
within_none commands s counts = rw append-nil (counts-within commands s counts)

-- what a step leaves is counted and within the limits
abbrev pub Keeps : State → List Command → Step → Type 0
Keeps old commands (Goes s cs) = Counts (commands ++ cs) s × (s.limits ≡ old.limits)
Keeps old commands (Ends s cs) = AreWithin old.limits (commands ++ cs)
Keeps old commands (Fails why cs) = AreWithin old.limits (commands ++ cs)

-- a choice between two steps
keeps_choice : (v : Bool) (s : State) (commands : List Command) (x y : Step) → Keeps s commands x → Keeps s commands y → Keeps s commands (elim v [ true ↦ x | false ↦ y ])
keeps_choice true s commands x y p q = p
keeps_choice false s commands x y p q = q

-- where no bracket of a command has come there is nothing behind it
none_opened : (limits : LimitNumbers) (vars lits : ℕ) (a : Arguments) (c : Comment) → is_opened c ≡ false → is_opened c ≡ true → CountsArguments limits vars lits a
none_opened limits vars lits a c h o = absurd (false≢true (sym h ∙ o))

-- the end of a token keeps the counts, in a list
list-keeps : (commands : List Command) (s : State) (t : Token) → IsKnown s.limits.vars t → is_opened s.comment ≡ false → HeaderFits s.limits.vars (listing_phrase s.phrase)
    → Counts commands s → Keeps s commands (list_step s t)
unfolding list_step
list-keeps commands s Ending h c f counts = (
  record {
    named = omega (arith, greatest-more named_by commands (made s.phrase s.lits), made-named s.phrase s.lits, counts.named, counts.named_open);
    named_open = omega arith;
    known = counts.known;
    count = omega (arith, literals-more commands (made s.phrase s.lits), made-length s.phrase s.lits, counts.count);
    few = counts.few;
    header = tt;
    arguments = none_opened s.limits s.named s.count s.arguments s.comment c;
  },
  refl,
)
list-keeps commands s (Literal lit) h c f counts = go (nat_lt s.count s.limits.lits) refl
  where
    go : (v : Bool) → nat_lt s.count s.limits.lits ≡ v → Keeps s commands (elim v [
      | true ↦ Goes (record s { phrase = listing_phrase s.phrase; lits = s.lits ++ lit ∷ []; named = max s.named (suc lit.var.0); count = suc s.count; word = Empty }) []
      | false ↦ Fails (TooManyLits s.start) []
    ])
    go true e = (
      record {
        named = rw append-nil (omega (arith, counts.named));
        named_open = omega (arith, greatest-more (λ (l : Lit). suc l.var.0) s.lits lit, counts.named_open);
        known = omega (arith, counts.known, h);
        count = rw append-nil (omega (arith, counts.count, length-append s.lits (lit ∷ [])));
        few = omega (arith, ltb-true _ _ e);
        header = f;
        arguments = none_opened s.limits (max s.named (suc lit.var.0)) (suc s.count) s.arguments s.comment c;
      },
      refl,
    )
    go false e = within_none commands s counts
list-keeps commands s TooLarge h c f counts = within_none commands s counts
list-keeps commands s NoLiteral h c f counts = within_none commands s counts

-- the counts of a state do not look at its phrase or its word, but for the number in a header
recount : (commands : List Command) (s : State) (p : Phrase) (w : Word) → HeaderFits s.limits.vars p → Counts commands s → Counts (commands ++ []) (record s { phrase = p; word = w })
recount commands s p w f counts = rw append-nil (record {
  named = counts.named;
  named_open = counts.named_open;
  known = counts.known;
  count = counts.count;
  few = counts.few;
  header = f;
  arguments = counts.arguments;
})

-- the number of variables of a header
variables-keeps : (commands : List Command) (s : State) (x : Option ℕ) → Counts commands s → Keeps s commands (variables_by s x)
variables-keeps commands s None counts = within_none commands s counts
variables-keeps commands s (Some value) counts = go (nat_le value s.limits.vars) refl
  where
    go : (v : Bool) → nat_le value s.limits.vars ≡ v → Keeps s commands (elim v [ true ↦ Goes (record s { phrase = InHeader (Clauses value); word = Empty }) [] | false ↦ Fails (VarTooLarge s.start) [] ])
    go true e = (recount commands s (InHeader (Clauses value)) Empty (leb-true _ _ e) counts, refl)
    go false e = within_none commands s counts

-- a header comes to its end
headed-keeps : (commands : List Command) (s : State) (vars : ℕ) → vars ≤ s.limits.vars → is_opened s.comment ≡ false → Counts commands s → Keeps s commands (headed_step s vars)
headed-keeps commands s vars h c counts = (
  record {
    named = omega (arith, greatest-more named_by commands (Grow (max s.named vars)), counts.named);
    named_open = omega (arith, counts.named_open);
    known = omega (arith, counts.known, h);
    count = omega (arith, literals-more commands (Grow (max s.named vars)), counts.count);
    few = counts.few;
    header = tt;
    arguments = none_opened s.limits (max s.named vars) s.count s.arguments s.comment c;
  },
  refl,
)

-- a token of a header
header-keeps : (commands : List Command) (s : State) (wanted : Wanted) (w : Word) → HeaderFits s.limits.vars (InHeader wanted) → is_opened s.comment ≡ false → Counts commands s
    → Keeps s commands (header_step s wanted w)
unfolding header_step
header-keeps commands s Format w f c counts =
    keeps_choice (is_format w) s commands _ (Fails (BadToken s.start) []) (recount commands s (InHeader Variables) Empty tt counts, refl) (within_none commands s counts)
header-keeps commands s Variables w f c counts = variables-keeps commands s (number_of w) counts
header-keeps commands s (Clauses vars) w f c counts = go (number_of w)
  where
    go : (x : Option ℕ) → Keeps s commands (clauses_by s vars x)
    go None = within_none commands s counts
    go (Some value) = headed-keeps commands s vars f c counts

-- a token by what is open
phrase-keeps : (commands : List Command) (s : State) (w : Word) (p : Phrase) → s.phrase ≡ p → is_opened s.comment ≡ false → Counts commands s → Keeps s commands (phrase_word s w p)
phrase-keeps commands s w Nothing e c counts =
    let F : Phrase → Type 0 = λ q. HeaderFits s.limits.vars (listing_phrase q) in
    keeps_choice (is_p w) s commands _ (list_step s (token_of s.limits.vars w)) (recount commands s (InHeader Format) Empty tt counts, refl)
    (list-keeps commands s (token_of s.limits.vars w) (token_of-known s.limits.vars w) c (subst F (sym e) tt) counts)
phrase-keeps commands s w InClause e c counts =
    let F : Phrase → Type 0 = λ q. HeaderFits s.limits.vars (listing_phrase q) in list-keeps commands s (token_of s.limits.vars w) (token_of-known s.limits.vars w) c (subst F (sym e) tt) counts
phrase-keeps commands s w InParity e c counts =
    let F : Phrase → Type 0 = λ q. HeaderFits s.limits.vars (listing_phrase q) in list-keeps commands s (token_of s.limits.vars w) (token_of-known s.limits.vars w) c (subst F (sym e) tt) counts
phrase-keeps commands s w (InHeader wanted) e c counts = let F : Phrase → Type 0 = HeaderFits s.limits.vars in header-keeps commands s wanted w (subst F e counts.header) c counts

-- the end of a word
plain-keeps : (commands : List Command) (s : State) (w : Word) → is_opened s.comment ≡ false → Counts commands s → Keeps s commands (plain_word s w)
unfolding plain_word
plain-keeps commands s Empty c counts = (rw append-nil counts, refl)
plain-keeps commands s Minus c counts = phrase-keeps commands s Minus s.phrase refl c counts
plain-keeps commands s (Digits negative v) c counts = phrase-keeps commands s (Digits negative v) s.phrase refl c counts
plain-keeps commands s (Cnf count) c counts = phrase-keeps commands s (Cnf count) s.phrase refl c counts
plain-keeps commands s P c counts = phrase-keeps commands s P s.phrase refl c counts
plain-keeps commands s NoNumber c counts = phrase-keeps commands s NoNumber s.phrase refl c counts

-- The end of a token.
word-keeps : (commands : List Command) (s : State) → is_opened s.comment ≡ false → Counts commands s → Keeps s commands (word_step s)
unfolding word_step
word-keeps commands s c counts =
    keeps_choice s.after_x s commands (plain_word (in_parity s) s.word) (plain_word s s.word) (behind_x (plain_word (in_parity s) s.word) (plain-keeps commands (in_parity s) s.word c parity)) (plain-keeps commands s s.word c counts)
  where
    parity : Counts commands (in_parity s)
    parity = record {
      named = counts.named;
      named_open = counts.named_open;
      known = counts.known;
      count = counts.count;
      few = counts.few;
      header = tt;
      arguments = counts.arguments;
    }

    behind_x : (x : Step) → Keeps (in_parity s) commands x → Keeps s commands x
    behind_x (Goes t cs) h = h
    behind_x (Ends t cs) h = h
    behind_x (Fails why cs) h = h

-- a refusal changes no count
refuse-counts : (limits : LimitNumbers) (vars lits : ℕ) (a : Arguments) (why : Refusal) → CountsArguments limits vars lits a → CountsArguments limits vars lits (refuse a why)
refuse-counts limits vars lits a why h = record { named = h.named; since = h.since; known = h.known; count = h.count; few = h.few }

-- a token of a solve
solve_token-counts : (limits : LimitNumbers) (vars lits : ℕ) (a : Arguments) (t : Token) → IsKnown limits.vars t → CountsArguments limits vars lits a
    → CountsArguments limits vars lits (solve_token limits a t)
unfolding solve_token
solve_token-counts limits vars lits a Ending k h = refuse-counts limits vars lits a (BadToken a.start) h
solve_token-counts limits vars lits a (Literal lit) k h = go (nat_lt a.count limits.lits) refl
  where
    go : (v : Bool) → nat_lt a.count limits.lits ≡ v → CountsArguments limits vars lits (elim v [
      | true ↦ record a { lits = a.lits ++ lit ∷ []; named = max a.named (suc lit.var.0); count = suc a.count; word = Empty }
      | false ↦ refuse a (TooManyLits a.start)
    ])
    go true e = record {
      named = omega (arith, greatest-more (λ (l : Lit). suc l.var.0) a.lits lit, h.named);
      since = omega (arith, h.since);
      known = omega (arith, h.known, k);
      count = omega (arith, h.count, length-append a.lits (lit ∷ []));
      few = omega (arith, ltb-true _ _ e);
    }
    go false e = refuse-counts limits vars lits a (TooManyLits a.start) h
solve_token-counts limits vars lits a TooLarge k h = refuse-counts limits vars lits a (VarTooLarge a.start) h
solve_token-counts limits vars lits a NoLiteral k h = refuse-counts limits vars lits a (BadToken a.start) h

-- a word of a solve
solve_word-counts : (limits : LimitNumbers) (vars lits : ℕ) (a : Arguments) (w : Word) → CountsArguments limits vars lits a → CountsArguments limits vars lits (solve_word limits a w)
unfolding solve_word
solve_word-counts limits vars lits a Empty h = h
solve_word-counts limits vars lits a Minus h = solve_token-counts limits vars lits a (token_of limits.vars Minus) (token_of-known limits.vars Minus) h
solve_word-counts limits vars lits a (Digits negative v) h = solve_token-counts limits vars lits a (token_of limits.vars (Digits negative v)) (token_of-known limits.vars (Digits negative v)) h
solve_word-counts limits vars lits a (Cnf count) h = solve_token-counts limits vars lits a (token_of limits.vars (Cnf count)) (token_of-known limits.vars (Cnf count)) h
solve_word-counts limits vars lits a P h = solve_token-counts limits vars lits a (token_of limits.vars P) (token_of-known limits.vars P) h
solve_word-counts limits vars lits a NoNumber h = solve_token-counts limits vars lits a (token_of limits.vars NoNumber) (token_of-known limits.vars NoNumber) h

-- a growth grows within the limit
number-counts : (limits : LimitNumbers) (vars lits : ℕ) (a : Arguments) (value : ℕ) → CountsArguments limits vars lits a → CountsArguments limits vars lits (growth_number limits a value)
unfolding growth_number
number-counts limits vars lits a value h = go (nat_le (a.named + value) limits.vars) refl
  where
    go : (v : Bool) → nat_le (a.named + value) limits.vars ≡ v → CountsArguments limits vars lits (elim v [ true ↦ record a { named = a.named + value; has_number = true; word = Empty } | false ↦ refuse a (VarTooLarge a.start) ])
    go true e = record { named = omega (arith, h.named); since = omega (arith, h.since); known = leb-true _ _ e; count = h.count; few = h.few }
    go false e = refuse-counts limits vars lits a (VarTooLarge a.start) h

-- a token of a growth
growth_token-counts : (limits : LimitNumbers) (vars lits : ℕ) (a : Arguments) (x : Option ℕ) → CountsArguments limits vars lits a → CountsArguments limits vars lits (growth_token limits a x)
growth_token-counts limits vars lits a None h = refuse-counts limits vars lits a (BadToken a.start) h
growth_token-counts limits vars lits a (Some value) h = go a.has_number
  where
    go : (v : Bool) → CountsArguments limits vars lits (elim v [ true ↦ refuse a (BadToken a.start) | false ↦ growth_number limits a value ])
    go true = refuse-counts limits vars lits a (BadToken a.start) h
    go false = number-counts limits vars lits a value h

-- a word of a growth
growth_word-counts : (limits : LimitNumbers) (vars lits : ℕ) (a : Arguments) (w : Word) → CountsArguments limits vars lits a → CountsArguments limits vars lits (growth_word limits a w)
unfolding growth_word
growth_word-counts limits vars lits a Empty h = h
growth_word-counts limits vars lits a Minus h = growth_token-counts limits vars lits a (number_of Minus) h
growth_word-counts limits vars lits a (Digits negative v) h = growth_token-counts limits vars lits a (number_of (Digits negative v)) h
growth_word-counts limits vars lits a (Cnf count) h = growth_token-counts limits vars lits a (number_of (Cnf count)) h
growth_word-counts limits vars lits a P h = growth_token-counts limits vars lits a (number_of P) h
growth_word-counts limits vars lits a NoNumber h = growth_token-counts limits vars lits a (number_of NoNumber) h

-- counts look at the literals, the number of variables and the number of literals alone
same-counts : (limits : LimitNumbers) (vars lits : ℕ) (a x : Arguments) → x.lits ≡ a.lits → x.named ≡ a.named → x.count ≡ a.count → CountsArguments limits vars lits a
    → CountsArguments limits vars lits x
same-counts limits vars lits a x l n c h = record {
  named = rw (l, n) h.named;
  since = rw n h.since;
  known = rw n h.known;
  count = rw (l, c) h.count;
  few = rw c h.few;
}

-- a choice between two states of what stands between brackets
counts_choice : (v : Bool) (limits : LimitNumbers) (vars lits : ℕ) (x y : Arguments) → CountsArguments limits vars lits x → CountsArguments limits vars lits y
    → CountsArguments limits vars lits (elim v [ true ↦ x | false ↦ y ])
counts_choice true limits vars lits x y p q = p
counts_choice false limits vars lits x y p q = q

-- a byte of a solve
solve_byte-counts : (limits : LimitNumbers) (vars lits place : ℕ) (a : Arguments) (b : ℕ) → CountsArguments limits vars lits a → CountsArguments limits vars lits (solve_byte limits place a b)
unfolding solve_byte
solve_byte-counts limits vars lits place a b h =
    let word : Arguments = solve_word limits a a.word in
    let w = solve_word-counts limits vars lits a a.word h in
    counts_choice (is_over a) limits vars lits a _ h
    (counts_choice (nat_eq b 41) limits vars lits (closed_by word) _ (same-counts limits vars lits word (closed_by word) refl refl refl w)
    (counts_choice (is_blank b) limits vars lits (past place word) (more_byte limits a b) (same-counts limits vars lits word (past place word) refl refl refl w) (same-counts limits vars lits a (more_byte limits a b) refl refl refl h)))

-- a byte of a growth
growth_byte-counts : (limits : LimitNumbers) (vars lits place : ℕ) (a : Arguments) (b : ℕ) → CountsArguments limits vars lits a → CountsArguments limits vars lits (growth_byte limits place a b)
unfolding growth_byte
growth_byte-counts limits vars lits place a b h =
    let word : Arguments = growth_word limits a a.word in
    let w = growth_word-counts limits vars lits a a.word h in
    counts_choice (is_over a) limits vars lits a _ h
    (counts_choice (nat_eq b 41) limits vars lits _ _
    (counts_choice (word.has_number || is_some word.refused) limits vars lits (closed_by word) (closed_by (refuse word (BadToken place))) (same-counts limits vars lits word (closed_by word) refl refl refl w)
    (same-counts limits vars lits word (closed_by (refuse word (BadToken place))) refl refl refl w))
    (counts_choice (is_blank b) limits vars lits (past place word) (more_byte limits a b) (same-counts limits vars lits word (past place word) refl refl refl w) (same-counts limits vars lits a (more_byte limits a b) refl refl refl h)))

-- a command that is judged
command-keeps : (commands : List Command) (s : State) (a : Arguments) (command : Command) (x : Result (Unit {0}) Refusal) → Counts commands s → CountsArguments s.limits s.named s.count a
    → named_by command ≤ a.named → s.count + literals_in command ≤ a.count
    → Keeps s commands (command_step s a command x)
command-keeps commands s a command (Ok u) counts h n l = (
  record {
    named = omega (arith, greatest-more named_by commands command, counts.named, h.since, n);
    named_open = omega (arith, counts.named_open, h.since);
    known = h.known;
    count = omega (arith, literals-more commands command, counts.count, l);
    few = h.few;
    header = counts.header;
    arguments = λ o. absurd (false≢true o);
  },
  refl,
)
command-keeps commands s a command (Err why) counts h n l = within_none commands s counts

-- the end of a line that is no command's
skipped-keeps : (commands : List Command) (s : State) → Counts commands s → Keeps s commands (skipped_line s)
skipped-keeps commands s counts = (
  rw append-nil (record {
    named = counts.named;
    named_open = counts.named_open;
    known = counts.known;
    count = counts.count;
    few = counts.few;
    header = counts.header;
    arguments = λ o. absurd (false≢true o);
  }),
  refl,
)

-- the end of the line of a solve
solve-keeps : (commands : List Command) (s : State) (by_byte : Bool) → Counts commands s → CountsArguments s.limits s.named s.count s.arguments
    → Keeps s commands (solve_line s by_byte (solve_last s.limits s.arguments))
solve-keeps commands s by_byte counts h =
    let a : Arguments = solve_last s.limits s.arguments in
    let k : CountsArguments s.limits s.named s.count (solve_last s.limits s.arguments) = counts_choice (is_over s.arguments) s.limits s.named s.count s.arguments (solve_word s.limits s.arguments s.arguments.word) h (solve_word-counts s.limits s.named s.count s.arguments s.arguments.word h) in
    command-keeps commands s (solve_last s.limits s.arguments) (Solve (solve_last s.limits s.arguments).lits) (judged (solve_last s.limits s.arguments) by_byte s.place) counts k k.named k.count

-- the end of the line of a growth
growth-keeps : (commands : List Command) (s : State) (by_byte : Bool) → Counts commands s → CountsArguments s.limits s.named s.count s.arguments
    → Keeps s commands (growth_line s by_byte (growth_last s.limits s.arguments))
growth-keeps commands s by_byte counts h =
    let k : CountsArguments s.limits s.named s.count (growth_last s.limits s.arguments) = counts_choice (is_over s.arguments) s.limits s.named s.count s.arguments (growth_word s.limits s.arguments s.arguments.word) h (growth_word-counts s.limits s.named s.count s.arguments s.arguments.word h) in
    command-keeps commands s (growth_last s.limits s.arguments) (Grow (growth_last s.limits s.arguments).named) (judged (growth_last s.limits s.arguments) by_byte s.place) counts k (omega arith) (omega (arith, k.count))

-- The end of a comment's line.
line-keeps : (commands : List Command) (s : State) (by_byte : Bool) (c : Comment) → s.comment ≡ c → Counts commands s → Keeps s commands (line_by s by_byte c)
unfolding line_by
line-keeps commands s by_byte Absent e counts = skipped-keeps commands s counts
line-keeps commands s by_byte First e counts = skipped-keeps commands s counts
line-keeps commands s by_byte Gap e counts = skipped-keeps commands s counts
line-keeps commands s by_byte (Front count) e counts = skipped-keeps commands s counts
line-keeps commands s by_byte (SolveName count) e counts = skipped-keeps commands s counts
line-keeps commands s by_byte (GrowthName count) e counts = skipped-keeps commands s counts
line-keeps commands s by_byte Skipped e counts = skipped-keeps commands s counts
line-keeps commands s by_byte Solving e counts =
    keeps_choice (in_list s.phrase) s commands (Fails (BadToken s.start) []) (solve_line s by_byte (solve_last s.limits s.arguments)) (within_none commands s counts) (solve-keeps commands s by_byte counts (counts.arguments (ap is_opened e)))
line-keeps commands s by_byte Growing e counts =
    keeps_choice (in_list s.phrase) s commands (Fails (BadToken s.start) []) (growth_line s by_byte (growth_last s.limits s.arguments)) (within_none commands s counts) (growth-keeps commands s by_byte counts (counts.arguments (ap is_opened e)))

-- a byte before the bracket of a comment
named-keeps : (commands : List Command) (s : State) (next : Comment) → Counts commands s → Counts commands (named_byte s next)
named-keeps commands s next counts = record {
  named = counts.named;
  named_open = counts.named_open;
  known = counts.known;
  count = counts.count;
  few = counts.few;
  header = counts.header;
  arguments = λ o. subst (CountsArguments s.limits s.named s.count) (sym (elim_true (is_opened next) (no_arguments s.named s.count (suc s.place)) s.arguments o)) begun;
}
  where
    begun : CountsArguments s.limits s.named s.count (no_arguments s.named s.count (suc s.place))
    begun = record { named = omega arith; since = omega arith; known = counts.known; count = omega arith; few = counts.few }

-- a byte between brackets
between-keeps : (commands : List Command) (s : State) (a : Arguments) → Counts commands s → (is_opened s.comment ≡ true → CountsArguments s.limits s.named s.count a) → Counts commands (record s { place = suc s.place; arguments = a })
between-keeps commands s a counts h = record {
  named = counts.named;
  named_open = counts.named_open;
  known = counts.known;
  count = counts.count;
  few = counts.few;
  header = counts.header;
  arguments = h;
}

-- A byte in the line of a comment.
comment-keeps : (commands : List Command) (s : State) (b : ℕ) (c : Comment) → Counts commands s → Counts commands (comment_byte s b c)
unfolding comment_byte
comment-keeps commands s b Absent counts = named-keeps commands s (comment_next Absent b) counts
comment-keeps commands s b First counts = named-keeps commands s (comment_next First b) counts
comment-keeps commands s b Gap counts = named-keeps commands s (comment_next Gap b) counts
comment-keeps commands s b (Front count) counts = named-keeps commands s (comment_next (Front count) b) counts
comment-keeps commands s b (SolveName count) counts = named-keeps commands s (comment_next (SolveName count) b) counts
comment-keeps commands s b (GrowthName count) counts = named-keeps commands s (comment_next (GrowthName count) b) counts
comment-keeps commands s b Solving counts =
    between-keeps commands s _ counts (λ o. counts_choice (in_list s.phrase) s.limits s.named s.count s.arguments (solve_byte s.limits s.place s.arguments b) (counts.arguments o) (solve_byte-counts s.limits s.named s.count s.place s.arguments b (counts.arguments o)))
comment-keeps commands s b Growing counts =
    between-keeps commands s _ counts (λ o. counts_choice (in_list s.phrase) s.limits s.named s.count s.arguments (growth_byte s.limits s.place s.arguments b) (counts.arguments o) (growth_byte-counts s.limits s.named s.count s.place s.arguments b (counts.arguments o)))
comment-keeps commands s b Skipped counts = named-keeps commands s Skipped counts

-- a byte in the line of a comment changes no limits
comment-limits : (s : State) (b : ℕ) (c : Comment) → (comment_byte s b c).limits ≡ s.limits
unfolding comment_byte
comment-limits s b Absent = refl
comment-limits s b First = refl
comment-limits s b Gap = refl
comment-limits s b (Front count) = refl
comment-limits s b (SolveName count) = refl
comment-limits s b (GrowthName count) = refl
comment-limits s b Solving = refl
comment-limits s b Growing = refl
comment-limits s b Skipped = refl

-- a blank keeps the counts
blank-keeps : (commands : List Command) (old : State) (step : Step) → Keeps old commands step → Keeps old commands (past_blank old.place step)
blank-keeps commands old (Goes s cs) keeps = (
  record {
    named = keeps.0.named;
    named_open = keeps.0.named_open;
    known = keeps.0.known;
    count = keeps.0.count;
    few = keeps.0.few;
    header = keeps.0.header;
    arguments = keeps.0.arguments;
  },
  keeps.1,
)
blank-keeps commands old (Ends s cs) within = within
blank-keeps commands old (Fails why cs) within = within

-- a byte outside comments changes no count but in a step of its own
plain_state : (commands : List Command) (s : State) (place : ℕ) (x : Bool) (w : Word) (c : Comment) → is_opened c ≡ false → Counts commands s → Counts (commands ++ []) (record s { place = place; after_x = x; word = w; comment = c })
plain_state commands s place x w c h counts = rw append-nil (record {
  named = counts.named;
  named_open = counts.named_open;
  known = counts.known;
  count = counts.count;
  few = counts.few;
  header = counts.header;
  arguments = none_opened s.limits s.named s.count s.arguments c h;
})

-- a byte that is no blank
solid-keeps : (commands : List Command) (s : State) (b : ℕ) → is_opened s.comment ≡ false → Counts commands s → Keeps s commands (solid_step s b)
unfolding solid_step fresh_step
solid-keeps commands s b c counts = keeps_choice (goes_on s) s commands (more_step s b) _ more
    (keeps_choice (nat_eq b 99) s commands (Goes (comment_begins s) []) _ (plain_state commands s (suc s.place) s.after_x s.word First refl counts, refl)
    (keeps_choice (nat_eq b 37) s commands (percent_step s) _ percent
    (keeps_choice (nat_eq b 120) s commands _ (more_step s b) (keeps_choice (is_nothing s.phrase) s commands (Goes (x_comes s) []) (more_step s b) (plain_state commands s (suc s.place) true s.word s.comment c counts, refl) more) more)))
  where
    more : Keeps s commands (more_step s b)
    more = (plain_state commands s (suc s.place) s.after_x (extended s.limits.vars s.word b) s.comment c counts, refl)

    percent : Keeps s commands (percent_step s)
    percent = keeps_choice (is_nothing s.phrase) s commands (Ends (record s { stage = IsEnded }) []) (Fails (Truncated s.place) []) (within_none commands s counts) (within_none commands s counts)

-- where no comment has begun no bracket of one has come
not_opened : (c : Comment) → in_comment c ≡ false → is_opened c ≡ false
not_opened c h = ap is_opened (no_comment c h)

-- A byte keeps the counts.
pub byte-keeps : (commands : List Command) (s : State) (b : ℕ) → Counts commands s → Keeps s commands (byte_step s b)
unfolding byte_step comment_step plain_step
byte-keeps commands s b counts = keeps_choice (nat_lt s.place s.limits.input) s commands _ (Fails (TooLong s.limits.input) []) (go (in_comment s.comment) refl) (within_none commands s counts)
  where
    go : (v : Bool) → in_comment s.comment ≡ v → Keeps s commands (elim v [
      | true ↦ elim (nat_eq b 10) [ true ↦ past_blank s.place (line_by s true s.comment) | false ↦ Goes (comment_byte s b s.comment) [] ]
      | false ↦ elim (is_blank b) [ true ↦ past_blank s.place (word_step s) | false ↦ solid_step s b ]
    ])
    go true e =
        keeps_choice (nat_eq b 10) s commands (past_blank s.place (line_by s true s.comment)) (Goes (comment_byte s b s.comment) [])
        (blank-keeps commands s (line_by s true s.comment) (line-keeps commands s true s.comment refl counts))
        (rw append-nil (comment-keeps commands s b s.comment counts), comment-limits s b s.comment)
    go false e =
        let c = not_opened s.comment e in
        keeps_choice (is_blank b) s commands (past_blank s.place (word_step s)) (solid_step s b) (blank-keeps commands s (word_step s) (word-keeps commands s c counts)) (solid-keeps commands s b c counts)

-- the commands so far and those of a step are within the limits
abbrev pub IsWithin : LimitNumbers → List Command → Step → Type 0
IsWithin limits commands (Goes s cs) = AreWithin limits (commands ++ cs)
IsWithin limits commands (Ends s cs) = AreWithin limits (commands ++ cs)
IsWithin limits commands (Fails why cs) = AreWithin limits (commands ++ cs)

-- The commands are within the limits where the text ends.
pub end-within : (commands : List Command) (s : State) → Counts commands s → IsWithin s.limits commands (end_step s)
unfolding end_step last_step
end-within commands old counts = go (elim (in_comment old.comment) [ true ↦ line_by old false old.comment | false ↦ word_step old ]) (last (in_comment old.comment) refl)
  where
    last : (v : Bool) → in_comment old.comment ≡ v → Keeps old commands (elim v [ true ↦ line_by old false old.comment | false ↦ word_step old ])
    last true e = line-keeps commands old false old.comment refl counts
    last false e = word-keeps commands old (not_opened old.comment e) counts

    chosen : (v : Bool) (x : Step) (cs : List Command) → IsWithin old.limits commands x → AreWithin old.limits (commands ++ cs)
        → IsWithin old.limits commands (elim v [ true ↦ x | false ↦ Fails (Truncated old.place) cs ])
    chosen true x cs p h = p
    chosen false x cs p h = h

    go : (step : Step) → Keeps old commands step → IsWithin old.limits commands (at_end old.place step)
    go (Goes s cs) keeps =
        let P = λ (l : LimitNumbers). AreWithin l (commands ++ cs) in
        let within = subst P keeps.1 (counts-within (commands ++ cs) s keeps.0) in
        chosen (is_nothing s.phrase) (Goes s cs) cs within within
    go (Ends s cs) within = chosen (is_nothing s.phrase) (Ends s cs) cs within within
    go (Fails why cs) within = within

-- Nothing has come, and it is counted.
pub counts-fresh : (limits : LimitNumbers) (st : State) → IsFresh limits st → Counts [] st
counts-fresh limits st h = record {
  named = omega arith;
  named_open = rw h.lits (omega arith);
  known = omega (arith, h.named);
  count = rw h.lits (omega arith);
  few = omega (arith, h.count);
  header = rw h.phrase tt;
  arguments = λ o. absurd (false≢true (sym (ap is_opened h.comment) ∙ o));
}
