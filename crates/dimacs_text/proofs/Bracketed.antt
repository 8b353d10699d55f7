-- What stands between the brackets of a command, byte by byte.
use Rattle.std.proofs.Common.{◌≡◌, ℕ, suc, ◌+◌, max, Bool, true, false, ◌||◌, List, [], ◌∷◌, ◌++◌, Option, Some, None, Result, Ok, Err, length, nat_lt, nat_eq, refl, sym, ◌∙◌, ap}
use Rattle.std.proofs.lemmas.Bool.{false≢true}
use Rattle.sat_lits.specs.Limits.{LimitNumbers}
use Rattle.dimacs_text.specs.Walk.{is_blank, word, Next, Stop, turned}
use Rattle.dimacs_text.specs.Tokens.{literal_token}
use Rattle.dimacs_text.specs.Words.{word_after, token_of}
use Rattle.dimacs_text.specs.Comments.{inside, is_closed}
use Rattle.dimacs_text.specs.Lists.{Listing, with_literal, solve_met, solve_turn, solve_end, solve_literals, Said, Refuses, solve_said}
use Rattle.dimacs_text.specs.Arguments.{solve_token, solve_word, solve_byte, solve_rest, solve_word_met, solve_says, solve_going, listing_in, is_over, is_some, closed_by, past, more_byte, refuse, tokens_from}
use Rattle.dimacs_text.specs.declared.arguments.Arguments.{Arguments}
use Rattle.dimacs_text.specs.declared.token.Token.{Token}
use Rattle.dimacs_text.specs.declared.token.Token.TheVariants.{Ending, Literal, TooLarge, NoLiteral}
use Rattle.dimacs_text.specs.declared.token.Word.{Word}
use Rattle.dimacs_text.specs.declared.token.Word.TheVariants.{Empty, Minus, Digits, Cnf, P, NoNumber}
use Rattle.dimacs_text.specs.declared.refusal.Refusal.{Refusal}
use Rattle.dimacs_text.specs.declared.refusal.Refusal.TheVariants.{TooManyLits}
use Rattle.dimacs_text.proofs.Walks.{elim_true, elim_false}
use Rattle.dimacs_text.proofs.Words.{literal_token-held}
use Rattle.dimacs_text.proofs.Tokenings.{word_ends, tokens-more, tokens-blank, tokens-end, word-more}

-- the bracket that closes
pub inside-closing : (b : ℕ) (bs : List ℕ) → nat_eq b 41 ≡ true → (inside (b ∷ bs) ≡ []) × (is_closed (b ∷ bs) ≡ true)
unfolding inside is_closed
inside-closing b bs h = (elim_true (nat_eq b 41) [] (b ∷ inside bs) h, elim_true (nat_eq b 41) true (is_closed bs) h)

-- another byte
pub inside-on : (b : ℕ) (bs : List ℕ) → nat_eq b 41 ≡ false → (inside (b ∷ bs) ≡ b ∷ inside bs) × (is_closed (b ∷ bs) ≡ is_closed bs)
unfolding inside is_closed
inside-on b bs h = (elim_false (nat_eq b 41) [] (b ∷ inside bs) h, elim_false (nat_eq b 41) true (is_closed bs) h)

-- a token of a solve is judged by what is held of it
pub solve-held : (limits : LimitNumbers) (place : ℕ) (l : Listing) (b : ℕ) (bs : List ℕ) → is_blank b ≡ false
    → solve_turn limits place l (b ∷ bs) ≡ solve_word_met limits place (place + length (word (b ∷ bs))) l (word_after limits.vars Empty (word (b ∷ bs)))
unfolding solve_turn
solve-held limits place l b bs h =
    let q : literal_token limits.vars (word (b ∷ bs)) ≡ token_of limits.vars (word_after limits.vars Empty (word (b ∷ bs)))
    = ap (literal_token limits.vars) (word-more b bs h) ∙ (literal_token-held limits.vars b (word bs) ∙ ap (λ t. token_of limits.vars (word_after limits.vars Empty t)) (sym (word-more b bs h))) in
    ap (solve_met limits place (place + length (word (b ∷ bs))) l) q

-- behind a token the walk goes on where the token ends
solve_met-behind : (limits : LimitNumbers) (start after : ℕ) (l : Listing) (t : Token) (f g : ℕ → Listing → Result Listing Refusal) → ((l' : Listing) → f after l' ≡ g after l')
    → turned (solve_met limits start after l t) f ≡ turned (solve_met limits start after l t) g
unfolding solve_met
solve_met-behind limits start after l Ending f g h = refl
solve_met-behind limits start after l (Literal lit) f g h = go (nat_lt l.count limits.lits)
  where
    go : (v : Bool) → turned (elim v [ true ↦ Next after (with_literal l lit) | false ↦ Stop (Err (TooManyLits start)) ]) f ≡ turned (elim v [ true ↦ Next after (with_literal l lit) | false ↦ Stop (Err (TooManyLits start)) ]) g
    go true = h (with_literal l lit)
    go false = refl
solve_met-behind limits start after l TooLarge f g h = refl
solve_met-behind limits start after l NoLiteral f g h = refl

-- so behind a word
pub solve-behind : (limits : LimitNumbers) (start after : ℕ) (l : Listing) (w : Word) (f g : ℕ → Listing → Result Listing Refusal) → ((l' : Listing) → f after l' ≡ g after l')
    → turned (solve_word_met limits start after l w) f ≡ turned (solve_word_met limits start after l w) g
solve-behind limits start after l w f g h = solve_met-behind limits start after l (token_of limits.vars w) f g h

-- what is said by arguments that end with their literals, or are refused
abbrev pub said_by : (Listing → Said) → Arguments → Option Refusal → Said
said_by f a None = f (listing_in a)
said_by f a (Some why) = Refuses why

-- a token ends
pub token-said : (limits : LimitNumbers) (place end : ℕ) (by_byte closed : Bool) (a : Arguments) (t : Token) (f : Listing → Result Listing Refusal) → a.refused ≡ None
    → solve_said end by_byte closed (turned (solve_met limits a.start place (listing_in a) t) (λ next l. f l)) ≡ said_by (λ l. solve_said end by_byte closed (f l)) (solve_token limits a t) (solve_token limits a t).refused
unfolding solve_met solve_token
token-said limits place end by_byte closed a Ending f r = refl
token-said limits place end by_byte closed a (Literal lit) f r = go (nat_lt a.count limits.lits)
  where
    go : (v : Bool) → solve_said end by_byte closed (turned (elim v [ true ↦ Next place (with_literal (listing_in a) lit) | false ↦ Stop (Err (TooManyLits a.start)) ]) (λ next l. f l))
        ≡ said_by (λ l. solve_said end by_byte closed (f l)) (elim v [ true ↦ record a { lits = a.lits ++ lit ∷ []; named = max a.named (suc lit.var.0); count = suc a.count; word = Empty } | false ↦ refuse a (TooManyLits a.start) ])
        (elim v as (λ _. Arguments) [ true ↦ record a { lits = a.lits ++ lit ∷ []; named = max a.named (suc lit.var.0); count = suc a.count; word = Empty } | false ↦ refuse a (TooManyLits a.start) ]).refused
    go true = rw r refl
    go false = refl
token-said limits place end by_byte closed a TooLarge f r = refl
token-said limits place end by_byte closed a NoLiteral f r = refl

-- a word ends
pub word-said : (limits : LimitNumbers) (place end : ℕ) (by_byte closed : Bool) (a : Arguments) (w : Word) (f : Listing → Result Listing Refusal) → a.refused ≡ None
    → solve_said end by_byte closed (word_ends (solve_word_met limits a.start place (listing_in a)) (listing_in a) w f) ≡ said_by (λ l. solve_said end by_byte closed (f l)) (solve_word limits a w) (solve_word limits a w).refused
unfolding solve_word
word-said limits place end by_byte closed a Empty f r = rw r refl
word-said limits place end by_byte closed a Minus f r = token-said limits place end by_byte closed a (token_of limits.vars Minus) f r
word-said limits place end by_byte closed a (Digits negative v) f r = token-said limits place end by_byte closed a (token_of limits.vars (Digits negative v)) f r
word-said limits place end by_byte closed a (Cnf count) f r = token-said limits place end by_byte closed a (token_of limits.vars (Cnf count)) f r
word-said limits place end by_byte closed a P f r = token-said limits place end by_byte closed a (token_of limits.vars P) f r
word-said limits place end by_byte closed a NoNumber f r = token-said limits place end by_byte closed a (token_of limits.vars NoNumber) f r

-- what a word leaves: no token, and the bracket is not met
abbrev pub Leaves : Arguments → Arguments → Type 0
Leaves a a' = (a'.refused ≡ None → a'.word ≡ Empty) × (a'.is_closed ≡ a.is_closed)

-- a token leaves none
token-leaves : (limits : LimitNumbers) (a : Arguments) (t : Token) → Leaves a (solve_token limits a t)
unfolding solve_token
token-leaves limits a Ending = (λ h. cc, refl)
token-leaves limits a (Literal lit) = go (nat_lt a.count limits.lits)
  where
    go : (v : Bool) → Leaves a (elim v [ true ↦ record a { lits = a.lits ++ lit ∷ []; named = max a.named (suc lit.var.0); count = suc a.count; word = Empty } | false ↦ refuse a (TooManyLits a.start) ])
    go true = (λ h. refl, refl)
    go false = (λ h. cc, refl)
token-leaves limits a TooLarge = (λ h. cc, refl)
token-leaves limits a NoLiteral = (λ h. cc, refl)

-- a word leaves none
pub word-leaves : (limits : LimitNumbers) (a : Arguments) (w : Word) → a.word ≡ w → Leaves a (solve_word limits a w)
unfolding solve_word
word-leaves limits a Empty e = (λ h. e, refl)
word-leaves limits a Minus e = token-leaves limits a (token_of limits.vars Minus)
word-leaves limits a (Digits negative v) e = token-leaves limits a (token_of limits.vars (Digits negative v))
word-leaves limits a (Cnf count) e = token-leaves limits a (token_of limits.vars (Cnf count))
word-leaves limits a P e = token-leaves limits a (token_of limits.vars P)
word-leaves limits a NoNumber e = token-leaves limits a (token_of limits.vars NoNumber)

-- where nothing more is looked at the rest plays no part
solve-over : (limits : LimitNumbers) (place place' end : ℕ) (by_byte : Bool) (a : Arguments) (rest rest' : List ℕ) → is_over a ≡ true
    → solve_says limits place end by_byte a rest a.refused ≡ solve_says limits place' end by_byte a rest' a.refused
solve-over limits place place' end by_byte a rest rest' h = go a.refused a.is_closed refl h
  where
    go : (r : Option Refusal) (c : Bool) → a.is_closed ≡ c → c || is_some r ≡ true → solve_says limits place end by_byte a rest r ≡ solve_says limits place' end by_byte a rest' r
    go (Some why) c f k = refl
    go None true f k = ap (solve_going limits place end by_byte a rest) f ∙ sym (ap (solve_going limits place' end by_byte a rest') f)
    go None false f k = absurd (false≢true k)

-- where more is looked at
pub solve-open : (limits : LimitNumbers) (place end : ℕ) (by_byte : Bool) (a : Arguments) (rest : List ℕ) → a.refused ≡ None → a.is_closed ≡ false
    → solve_says limits place end by_byte a rest a.refused ≡ solve_said end by_byte (is_closed rest) (solve_rest limits place a a.word (inside rest))
solve-open limits place end by_byte a rest e f = ap (solve_says limits place end by_byte a rest) e ∙ ap (solve_going limits place end by_byte a rest) f

-- the bracket closes
solve-closed : (limits : LimitNumbers) (place end : ℕ) (by_byte : Bool) (a : Arguments) (rest : List ℕ) (r : Option Refusal)
    → said_by (λ l. solve_said end by_byte true (Ok l)) a r ≡ solve_says limits place end by_byte (closed_by a) rest r
solve-closed limits place end by_byte a rest None = refl
solve-closed limits place end by_byte a rest (Some why) = refl

-- a blank is passed
solve-past : (limits : LimitNumbers) (place end : ℕ) (by_byte : Bool) (a : Arguments) (rest : List ℕ) (r : Option Refusal) → (r ≡ None → a.word ≡ Empty) → a.is_closed ≡ false
    → said_by (λ l. solve_said end by_byte (is_closed rest) (solve_literals limits (suc place) (suc place) l (inside rest))) a r ≡ solve_says limits (suc place) end by_byte (past place a) rest r
unfolding tokens_from
solve-past limits place end by_byte a rest None w f =
    let e : a.word ≡ Empty = w refl in
    sym (ap (solve_going limits (suc place) end by_byte (past place a) rest) f
    ∙ ap (λ v. solve_said end by_byte (is_closed rest) (tokens_from limits.vars (solve_word_met limits) (solve_literals limits) (suc place) (suc place) (listing_in a) v (inside rest))) e)
solve-past limits place end by_byte a rest (Some why) w f = refl

-- A byte that a solve goes on with does not change what it says.
pub solve-next : (limits : LimitNumbers) (place end : ℕ) (by_byte : Bool) (a : Arguments) (b : ℕ) (bs : List ℕ) → (is_over a ≡ false → a.word ≡ Empty → a.start ≡ place)
    → solve_says limits place end by_byte a (b ∷ bs) a.refused ≡ solve_says limits (suc place) end by_byte (solve_byte limits place a b) bs (solve_byte limits place a b).refused
unfolding solve_byte solve_literals
solve-next limits place end by_byte a b bs s = go (is_over a) (nat_eq b 41) (is_blank b) refl refl refl
  where
    not_refused : (r : Option Refusal) (c : Bool) → c || is_some r ≡ false → (r ≡ None) × (c ≡ false)
    not_refused None false h = (refl, refl)
    not_refused None true h = absurd (false≢true (sym h))
    not_refused (Some why) false h = absurd (false≢true (sym h))
    not_refused (Some why) true h = absurd (false≢true (sym h))

    closing : nat_eq b 41 ≡ true → is_over a ≡ false
        → solve_says limits place end by_byte a (b ∷ bs) a.refused ≡ solve_says limits (suc place) end by_byte (closed_by (solve_word limits a a.word)) bs (solve_word limits a a.word).refused
    closing h o =
        let n = not_refused a.refused a.is_closed o in
        let i = inside-closing b bs h in
        solve-open limits place end by_byte a (b ∷ bs) n.0 n.1
        ∙ (ap (λ c. solve_said end by_byte c (solve_rest limits place a a.word (inside (b ∷ bs)))) i.1
        ∙ (ap (λ t. solve_said end by_byte true (solve_rest limits place a a.word t)) i.0
        ∙ (ap (solve_said end by_byte true) (tokens-end limits.vars (solve_turn limits) solve_end (solve_word_met limits) (solve-held limits) (solve-behind limits) a.start place (listing_in a) a.word)
        ∙ (word-said limits place end by_byte true a a.word (λ l. Ok l) n.0
        ∙ solve-closed limits (suc place) end by_byte (solve_word limits a a.word) bs (solve_word limits a a.word).refused))))

    blank : nat_eq b 41 ≡ false → is_blank b ≡ true → is_over a ≡ false
        → solve_says limits place end by_byte a (b ∷ bs) a.refused ≡ solve_says limits (suc place) end by_byte (past place (solve_word limits a a.word)) bs (solve_word limits a a.word).refused
    blank h k o =
        let n = not_refused a.refused a.is_closed o in
        let i = inside-on b bs h in
        let left = word-leaves limits a a.word refl in
        solve-open limits place end by_byte a (b ∷ bs) n.0 n.1
        ∙ (ap (λ c. solve_said end by_byte c (solve_rest limits place a a.word (inside (b ∷ bs)))) i.1
        ∙ (ap (λ t. solve_said end by_byte (is_closed bs) (solve_rest limits place a a.word t)) i.0
        ∙ (ap (solve_said end by_byte (is_closed bs)) (tokens-blank limits.vars (solve_turn limits) solve_end (solve_word_met limits) (solve-held limits) (solve-behind limits) a.start place (listing_in a) a.word b (inside bs) k)
        ∙ (word-said limits place end by_byte (is_closed bs) a a.word (λ l. solve_literals limits (suc place) (suc place) l (inside bs)) n.0
        ∙ solve-past limits place end by_byte (solve_word limits a a.word) bs (solve_word limits a a.word).refused left.0 (left.1 ∙ n.1)))))

    more : nat_eq b 41 ≡ false → is_blank b ≡ false → is_over a ≡ false
        → solve_says limits place end by_byte a (b ∷ bs) a.refused ≡ solve_says limits (suc place) end by_byte (more_byte limits a b) bs a.refused
    more h k o =
        let n = not_refused a.refused a.is_closed o in
        let i = inside-on b bs h in
        solve-open limits place end by_byte a (b ∷ bs) n.0 n.1
        ∙ (ap (λ c. solve_said end by_byte c (solve_rest limits place a a.word (inside (b ∷ bs)))) i.1
        ∙ (ap (λ t. solve_said end by_byte (is_closed bs) (solve_rest limits place a a.word t)) i.0
        ∙ (ap (solve_said end by_byte (is_closed bs)) (tokens-more limits.vars (solve_turn limits) solve_end (solve_word_met limits) (solve-held limits) (solve-behind limits) a.start place (listing_in a) a.word b (inside bs) k (s o))
        ∙ sym (solve-open limits (suc place) end by_byte (more_byte limits a b) bs n.0 n.1))))

    go : (u v w : Bool) → is_over a ≡ u → nat_eq b 41 ≡ v → is_blank b ≡ w → solve_says limits place end by_byte a (b ∷ bs) a.refused
        ≡ (λ (x : Arguments). solve_says limits (suc place) end by_byte x bs x.refused) (elim u [
          | true ↦ a
          | false ↦ elim v [ true ↦ closed_by (solve_word limits a a.word) | false ↦ elim w [ true ↦ past place (solve_word limits a a.word) | false ↦ more_byte limits a b ] ]
        ])
    go true v w o h k = solve-over limits place (suc place) end by_byte a (b ∷ bs) bs o
    go false true w o h k = closing h o
    go false false true o h k = blank h k o
    go false false false o h k = more h k o
