-- The number between the brackets of a growth, byte by byte.
use Rattle.std.proofs.Common.{◌≡◌, ℕ, suc, ◌+◌, ◌<◌, inl, inr, Bool, true, false, ◌||◌, List, [], ◌∷◌, Option, Some, None, Result, Ok, Err, length, nat_lt, nat_le, nat_eq, refl, sym, ◌∙◌, ap, subst, arith}
use Rattle.std.proofs.lemmas.Bool.{false≢true, lt-leb}
use Rattle.sat_lits.specs.Limits.{LimitNumbers}
use Rattle.dimacs_text.specs.Walk.{is_blank, word, Next, Stop, turned, walk}
use Rattle.dimacs_text.specs.Tokens.{number}
use Rattle.dimacs_text.specs.Words.{word_after, number_of}
use Rattle.dimacs_text.specs.Comments.{inside, is_closed}
use Rattle.dimacs_text.specs.Lists.{growth_met, growth_turn, growth_end, growth, Said, Refuses, growth_said}
use Rattle.dimacs_text.specs.Arguments.{growth_number, growth_token, growth_word, growth_byte, growth_rest, growth_word_met, growth_says, growth_going, sum_in, is_over, is_some, closed_by, closed_number, past, more_byte, refuse, tokens_from}
use Rattle.dimacs_text.specs.declared.arguments.Arguments.{Arguments}
use Rattle.dimacs_text.specs.declared.token.Word.{Word}
use Rattle.dimacs_text.specs.declared.token.Word.TheVariants.{Empty, Minus, Digits, Cnf, P, NoNumber}
use Rattle.dimacs_text.specs.declared.refusal.Refusal.{Refusal}
use Rattle.dimacs_text.specs.declared.refusal.Refusal.TheVariants.{BadToken, VarTooLarge}
use Rattle.dimacs_text.proofs.Walks.{elim_true, elim_false, or_true, or_true_left, or_false}
use Rattle.dimacs_text.proofs.Words.{IsHeld, Neither, Both, number-held-of}
use Rattle.dimacs_text.proofs.Tokenings.{word_ends, tokens-more, tokens-blank, tokens-end, word-more}
use Rattle.dimacs_text.proofs.Bracketed.{inside-closing, inside-on}

-- what is not at most a limit
not_le : (n limit : ℕ) → limit < n → nat_le n limit ≡ false
not_le n limit h = lt-leb n limit h

-- numbers that are held alike are judged alike
met-held : (limits : LimitNumbers) (place after named : ℕ) (sum x y : Option ℕ) → IsHeld limits.vars x y → growth_met limits place after named sum x ≡ growth_met limits place after named sum y
unfolding growth_met
met-held limits place after named (Some s) x y h = refl
met-held limits place after named None x y Neither = refl
met-held limits place after named None x y (Both n m (inl e)) = ap (λ k. growth_met limits place after named None (Some k)) (sym e)
met-held limits place after named None x y (Both n m (inr l)) =
    elim_false (nat_le (named + n) limits.vars) (Next after (Some (named + n))) (Stop (Err (VarTooLarge place))) (not_le (named + n) limits.vars (omega (arith, l.1)))
    ∙ sym (elim_false (nat_le (named + m) limits.vars) (Next after (Some (named + m))) (Stop (Err (VarTooLarge place))) (not_le (named + m) limits.vars (omega (arith, l.0))))

-- a token of a growth is judged by what is held of it
pub growth-held : (limits : LimitNumbers) (named place : ℕ) (sum : Option ℕ) (b : ℕ) (bs : List ℕ) → is_blank b ≡ false
    → growth_turn limits named place sum (b ∷ bs) ≡ growth_word_met limits named place (place + length (word (b ∷ bs))) sum (word_after limits.vars Empty (word (b ∷ bs)))
unfolding growth_turn
growth-held limits named place sum b bs h =
    let F : List ℕ → Type 0 = λ t. growth_met limits place (place + length t) named sum (number t) ≡ growth_word_met limits named place (place + length t) sum (word_after limits.vars Empty t) in
    subst F (sym (word-more b bs h)) (met-held limits place (place + length (b ∷ word bs)) named sum (number (b ∷ word bs)) (number_of (word_after limits.vars Empty (b ∷ word bs))) (number-held-of limits.vars b (word bs)))

-- behind a token the walk goes on where the token ends
growth_met-behind : (limits : LimitNumbers) (start after named : ℕ) (sum n : Option ℕ) (f g : ℕ → Option ℕ → Result (Option ℕ) Refusal) → ((s : Option ℕ) → f after s ≡ g after s)
    → turned (growth_met limits start after named sum n) f ≡ turned (growth_met limits start after named sum n) g
unfolding growth_met
growth_met-behind limits start after named (Some s) n f g h = refl
growth_met-behind limits start after named None None f g h = refl
growth_met-behind limits start after named None (Some v) f g h = go (nat_le (named + v) limits.vars)
  where
    go : (u : Bool) → turned (elim u [ true ↦ Next after (Some (named + v)) | false ↦ Stop (Err (VarTooLarge start)) ]) f ≡ turned (elim u [ true ↦ Next after (Some (named + v)) | false ↦ Stop (Err (VarTooLarge start)) ]) g
    go true = h (Some (named + v))
    go false = refl

-- so behind a word
pub growth-behind : (limits : LimitNumbers) (named start after : ℕ) (sum : Option ℕ) (w : Word) (f g : ℕ → Option ℕ → Result (Option ℕ) Refusal) → ((s : Option ℕ) → f after s ≡ g after s)
    → turned (growth_word_met limits named start after sum w) f ≡ turned (growth_word_met limits named start after sum w) g
growth-behind limits named start after sum w f g h = growth_met-behind limits start after named sum (number_of w) f g h

-- behind a number the number of variables named plays no part
growth-named : (limits : LimitNumbers) (n m s : ℕ) (text : List ℕ) (next place : ℕ)
    → walk (growth_turn limits n) growth_end next place (Some s) text ≡ walk (growth_turn limits m) growth_end next place (Some s) text
unfolding walk growth_turn growth_met
growth-named limits n m s [] next place = refl
growth-named limits n m s (b ∷ bs) next place = go (nat_lt place next || is_blank b) (growth-named limits n m s bs next (suc place))
  where
    go : (v : Bool) → walk (growth_turn limits n) growth_end next (suc place) (Some s) bs ≡ walk (growth_turn limits m) growth_end next (suc place) (Some s) bs
        → ◌≡◌ {A = Result (Option ℕ) Refusal} (elim v [ true ↦ walk (growth_turn limits n) growth_end next (suc place) (Some s) bs | false ↦ Err (BadToken place) ]) (elim v [ true ↦ walk (growth_turn limits m) growth_end next (suc place) (Some s) bs | false ↦ Err (BadToken place) ])
    go true ih = ih
    go false ih = refl

-- what is said by arguments that end with their sum, or are refused
abbrev pub said_by : (ℕ → Option ℕ → ℕ → Said) → Arguments → Option Refusal → Said
said_by f a None = f a.named (sum_in a) a.count
said_by f a (Some why) = Refuses why

-- a token ends
token-said : (limits : LimitNumbers) (place bracket end : ℕ) (by_byte closed : Bool) (a : Arguments) (n : Option ℕ) (f : ℕ → Option ℕ → Result (Option ℕ) Refusal)
    → ((x y s : ℕ) → f x (Some s) ≡ f y (Some s)) → a.refused ≡ None
    → growth_said bracket end by_byte closed a.count (turned (growth_met limits a.start place a.named (sum_in a) n) (λ next s. f a.named s))
    ≡ said_by (λ named s count. growth_said bracket end by_byte closed count (f named s)) (growth_token limits a n) (growth_token limits a n).refused
unfolding growth_met growth_number
token-said limits place bracket end by_byte closed a n f same r = go a.has_number n refl
  where
    numbered : (u : Bool) (v : ℕ)
        → growth_said bracket end by_byte closed a.count (turned (elim u [ true ↦ Next place (Some (a.named + v)) | false ↦ Stop (Err (VarTooLarge a.start)) ]) (λ next s. f a.named s))
        ≡ said_by (λ named s count. growth_said bracket end by_byte closed count (f named s)) (elim u [ true ↦ record a { named = a.named + v; has_number = true; word = Empty } | false ↦ refuse a (VarTooLarge a.start) ])
        (elim u as (λ _. Arguments) [ true ↦ record a { named = a.named + v; has_number = true; word = Empty } | false ↦ refuse a (VarTooLarge a.start) ]).refused
    numbered true v = rw r (ap (growth_said bracket end by_byte closed a.count) (same a.named (a.named + v) (a.named + v)))
    numbered false v = refl

    go : (u : Bool) (m : Option ℕ) → a.has_number ≡ u
        → growth_said bracket end by_byte closed a.count (turned (growth_met limits a.start place a.named (elim u [ true ↦ Some a.named | false ↦ None ]) m) (λ next s. f a.named s))
        ≡ said_by (λ named s count. growth_said bracket end by_byte closed count (f named s)) (growth_token limits a m) (growth_token limits a m).refused
    go true None e = refl
    go true (Some v) e =
        let F : Bool → Type 0 = λ x. Refuses (BadToken a.start) ≡ said_by (λ named s count. growth_said bracket end by_byte closed count (f named s)) (elim x [ true ↦ refuse a (BadToken a.start) | false ↦ growth_number limits a v ]) (elim x as (λ _. Arguments) [ true ↦ refuse a (BadToken a.start) | false ↦ growth_number limits a v ]).refused in subst F (sym e) refl
    go false None e = refl
    go false (Some v) e =
        let F : Bool → Type 0 = λ x. growth_said bracket end by_byte closed a.count (turned (growth_met limits a.start place a.named None (Some v)) (λ next s. f a.named s)) ≡ said_by (λ named s count. growth_said bracket end by_byte closed count (f named s)) (elim x [ true ↦ refuse a (BadToken a.start) | false ↦ growth_number limits a v ]) (elim x as (λ _. Arguments) [ true ↦ refuse a (BadToken a.start) | false ↦ growth_number limits a v ]).refused in subst F (sym e) (numbered (nat_le (a.named + v) limits.vars) v)

-- a word ends
pub word-said : (limits : LimitNumbers) (place bracket end : ℕ) (by_byte closed : Bool) (a : Arguments) (w : Word) (f : ℕ → Option ℕ → Result (Option ℕ) Refusal)
    → ((x y s : ℕ) → f x (Some s) ≡ f y (Some s)) → a.refused ≡ None
    → growth_said bracket end by_byte closed a.count (word_ends (growth_word_met limits a.named a.start place (sum_in a)) (sum_in a) w (f a.named))
    ≡ said_by (λ named s count. growth_said bracket end by_byte closed count (f named s)) (growth_word limits a w) (growth_word limits a w).refused
unfolding growth_word
word-said limits place bracket end by_byte closed a Empty f same r = rw r refl
word-said limits place bracket end by_byte closed a Minus f same r = token-said limits place bracket end by_byte closed a (number_of Minus) f same r
word-said limits place bracket end by_byte closed a (Digits negative v) f same r = token-said limits place bracket end by_byte closed a (number_of (Digits negative v)) f same r
word-said limits place bracket end by_byte closed a (Cnf count) f same r = token-said limits place bracket end by_byte closed a (number_of (Cnf count)) f same r
word-said limits place bracket end by_byte closed a P f same r = token-said limits place bracket end by_byte closed a (number_of P) f same r
word-said limits place bracket end by_byte closed a NoNumber f same r = token-said limits place bracket end by_byte closed a (number_of NoNumber) f same r

-- what a word leaves: no token, and the bracket is not met
abbrev pub Leaves : Arguments → Arguments → Type 0
Leaves a a' = (a'.refused ≡ None → a'.word ≡ Empty) × (a'.is_closed ≡ a.is_closed)

-- a token leaves none
token-leaves : (limits : LimitNumbers) (a : Arguments) (n : Option ℕ) → Leaves a (growth_token limits a n)
unfolding growth_number
token-leaves limits a None = (λ h. cc, refl)
token-leaves limits a (Some v) = go a.has_number (nat_le (a.named + v) limits.vars)
  where
    go : (u w : Bool) → Leaves a (elim u [ true ↦ refuse a (BadToken a.start) | false ↦ elim w [ true ↦ record a { named = a.named + v; has_number = true; word = Empty } | false ↦ refuse a (VarTooLarge a.start) ] ])
    go true w = (λ h. cc, refl)
    go false true = (λ h. refl, refl)
    go false false = (λ h. cc, refl)

-- a word leaves none
pub word-leaves : (limits : LimitNumbers) (a : Arguments) (w : Word) → a.word ≡ w → Leaves a (growth_word limits a w)
unfolding growth_word
word-leaves limits a Empty e = (λ h. e, refl)
word-leaves limits a Minus e = token-leaves limits a (number_of Minus)
word-leaves limits a (Digits negative v) e = token-leaves limits a (number_of (Digits negative v))
word-leaves limits a (Cnf count) e = token-leaves limits a (number_of (Cnf count))
word-leaves limits a P e = token-leaves limits a (number_of P)
word-leaves limits a NoNumber e = token-leaves limits a (number_of NoNumber)

-- where nothing more is looked at the rest plays no part
growth-over : (limits : LimitNumbers) (place place' end : ℕ) (by_byte : Bool) (a : Arguments) (rest rest' : List ℕ) → is_over a ≡ true
    → growth_says limits place end by_byte a rest a.refused ≡ growth_says limits place' end by_byte a rest' a.refused
growth-over limits place place' end by_byte a rest rest' h = go a.refused a.is_closed refl h
  where
    go : (r : Option Refusal) (c : Bool) → a.is_closed ≡ c → c || is_some r ≡ true → growth_says limits place end by_byte a rest r ≡ growth_says limits place' end by_byte a rest' r
    go (Some why) c f k = refl
    go None true f k = ap (growth_going limits place end by_byte a rest) f ∙ sym (ap (growth_going limits place' end by_byte a rest') f)
    go None false f k = absurd (false≢true k)

-- where more is looked at
pub growth-open : (limits : LimitNumbers) (place end : ℕ) (by_byte : Bool) (a : Arguments) (rest : List ℕ) → a.refused ≡ None → a.is_closed ≡ false
    → growth_says limits place end by_byte a rest a.refused ≡ growth_said (place + length (inside rest)) end by_byte (is_closed rest) a.count (growth_rest limits place a a.word (inside rest))
growth-open limits place end by_byte a rest e f = ap (growth_says limits place end by_byte a rest) e ∙ ap (growth_going limits place end by_byte a rest) f

-- the bracket closes
growth-closed : (limits : LimitNumbers) (place end : ℕ) (by_byte : Bool) (a : Arguments) (rest : List ℕ)
    → said_by (λ named s count. growth_said place end by_byte true count (Ok s)) a a.refused ≡ growth_says limits (suc place) end by_byte (closed_number place a) rest (closed_number place a).refused
growth-closed limits place end by_byte a rest = go a.refused a.has_number refl refl
  where
    said : ℕ → Option ℕ → ℕ → Said
    said named s count = growth_said place end by_byte true count (Ok s)

    says : Arguments → Said
    says x = growth_says limits (suc place) end by_byte x rest x.refused

    go : (r : Option Refusal) (h : Bool) → a.refused ≡ r → a.has_number ≡ h → said_by (λ named s count. growth_said place end by_byte true count (Ok s)) a a.refused
        ≡ (λ (x : Arguments). growth_says limits (suc place) end by_byte x rest x.refused) (elim (a.has_number || is_some a.refused) [ true ↦ closed_by a | false ↦ closed_by (refuse a (BadToken place)) ])
    go (Some why) h e f =
        ap (said_by said a) e
        ∙ sym (ap says (elim_true _ (closed_by a) (closed_by (refuse a (BadToken place))) (or_true a.has_number (is_some a.refused) (ap is_some e))) ∙ ap (growth_says limits (suc place) end by_byte (closed_by a) rest) e)
    go None true e f =
        ap (said_by said a) e
        ∙ (ap (λ h. growth_said place end by_byte true a.count (Ok (elim h [ true ↦ Some a.named | false ↦ None ]))) f
        ∙ sym (ap says (elim_true _ (closed_by a) (closed_by (refuse a (BadToken place))) (or_true_left a.has_number (is_some a.refused) f)) ∙ ap (growth_says limits (suc place) end by_byte (closed_by a) rest) e))
    go None false e f =
        ap (said_by said a) e
        ∙ (ap (λ h. growth_said place end by_byte true a.count (Ok (elim h [ true ↦ Some a.named | false ↦ None ]))) f
        ∙ sym (ap says (elim_false _ (closed_by a) (closed_by (refuse a (BadToken place))) (or_false a.has_number (is_some a.refused) f (ap is_some e)))))

-- a blank is passed
growth-past : (limits : LimitNumbers) (place bracket end : ℕ) (by_byte : Bool) (a : Arguments) (rest : List ℕ) (r : Option Refusal) → (r ≡ None → a.word ≡ Empty) → a.is_closed ≡ false
    → bracket ≡ suc place + length (inside rest)
    → said_by (λ named s count. growth_said bracket end by_byte (is_closed rest) count (growth limits named (suc place) (suc place) s (inside rest))) a r ≡ growth_says limits (suc place) end by_byte (past place a) rest r
unfolding tokens_from
growth-past limits place bracket end by_byte a rest None w f n =
    let e : a.word ≡ Empty = w refl in
    sym (ap (growth_going limits (suc place) end by_byte (past place a) rest) f
    ∙ (ap (λ v. growth_said (suc place + length (inside rest)) end by_byte (is_closed rest) a.count (tokens_from limits.vars (growth_word_met limits a.named) (growth limits a.named) (suc place) (suc place) (sum_in a) v (inside rest))) e
    ∙ ap (λ k. growth_said k end by_byte (is_closed rest) a.count (growth limits a.named (suc place) (suc place) (sum_in a) (inside rest))) (sym n)))
growth-past limits place bracket end by_byte a rest (Some why) w f n = refl

-- A byte that a growth goes on with does not change what it says.
pub growth-next : (limits : LimitNumbers) (place end : ℕ) (by_byte : Bool) (a : Arguments) (b : ℕ) (bs : List ℕ) → (is_over a ≡ false → a.word ≡ Empty → a.start ≡ place)
    → growth_says limits place end by_byte a (b ∷ bs) a.refused ≡ growth_says limits (suc place) end by_byte (growth_byte limits place a b) bs (growth_byte limits place a b).refused
unfolding growth_byte growth
growth-next limits place end by_byte a b bs s = go (is_over a) (nat_eq b 41) (is_blank b) refl refl refl
  where
    not_refused : (r : Option Refusal) (c : Bool) → c || is_some r ≡ false → (r ≡ None) × (c ≡ false)
    not_refused None false h = (refl, refl)
    not_refused None true h = absurd (false≢true (sym h))
    not_refused (Some why) false h = absurd (false≢true (sym h))
    not_refused (Some why) true h = absurd (false≢true (sym h))

    closing : nat_eq b 41 ≡ true → is_over a ≡ false → growth_says limits place end by_byte a (b ∷ bs) a.refused
        ≡ growth_says limits (suc place) end by_byte (closed_number place (growth_word limits a a.word)) bs (closed_number place (growth_word limits a a.word)).refused
    closing h o =
        let n = not_refused a.refused a.is_closed o in
        let i = inside-closing b bs h in
        let z : place + length {A = ℕ} [] ≡ place = omega arith in
        growth-open limits place end by_byte a (b ∷ bs) n.0 n.1
        ∙ (ap (λ c. growth_said (place + length (inside (b ∷ bs))) end by_byte c a.count (growth_rest limits place a a.word (inside (b ∷ bs)))) i.1
        ∙ (ap (λ t. growth_said (place + length t) end by_byte true a.count (growth_rest limits place a a.word t)) i.0
        ∙ (ap (λ k. growth_said k end by_byte true a.count (growth_rest limits place a a.word [])) z
        ∙ (ap (growth_said place end by_byte true a.count) (tokens-end limits.vars (growth_turn limits a.named) growth_end (growth_word_met limits a.named) (growth-held limits a.named) (growth-behind limits a.named) a.start place (sum_in a) a.word)
        ∙ (word-said limits place place end by_byte true a a.word (λ named s'. Ok s') (λ x y s'. refl) n.0
        ∙ growth-closed limits place end by_byte (growth_word limits a a.word) bs)))))

    blank : nat_eq b 41 ≡ false → is_blank b ≡ true → is_over a ≡ false
        → growth_says limits place end by_byte a (b ∷ bs) a.refused ≡ growth_says limits (suc place) end by_byte (past place (growth_word limits a a.word)) bs (growth_word limits a a.word).refused
    blank h k o =
        let n = not_refused a.refused a.is_closed o in
        let i = inside-on b bs h in
        let left = word-leaves limits a a.word refl in
        growth-open limits place end by_byte a (b ∷ bs) n.0 n.1
        ∙ (ap (λ c. growth_said (place + length (inside (b ∷ bs))) end by_byte c a.count (growth_rest limits place a a.word (inside (b ∷ bs)))) i.1
        ∙ (ap (λ t. growth_said (place + length t) end by_byte (is_closed bs) a.count (growth_rest limits place a a.word t)) i.0
        ∙ (ap (growth_said (place + length (b ∷ inside bs)) end by_byte (is_closed bs) a.count) (tokens-blank limits.vars (growth_turn limits a.named) growth_end (growth_word_met limits a.named) (growth-held limits a.named) (growth-behind limits a.named) a.start place (sum_in a) a.word b (inside bs) k)
        ∙ (word-said limits place (place + length (b ∷ inside bs)) end by_byte (is_closed bs) a a.word (λ named s'. growth limits named (suc place) (suc place) s' (inside bs)) (λ x y s'. growth-named limits x y s' (inside bs) (suc place) (suc place)) n.0
        ∙ growth-past limits place (place + length (b ∷ inside bs)) end by_byte (growth_word limits a a.word) bs (growth_word limits a a.word).refused left.0 (left.1 ∙ n.1) (omega arith)))))

    more : nat_eq b 41 ≡ false → is_blank b ≡ false → is_over a ≡ false
        → growth_says limits place end by_byte a (b ∷ bs) a.refused ≡ growth_says limits (suc place) end by_byte (more_byte limits a b) bs a.refused
    more h k o =
        let n = not_refused a.refused a.is_closed o in
        let i = inside-on b bs h in
        let z : place + length (b ∷ inside bs) ≡ suc place + length (inside bs) = omega arith in
        growth-open limits place end by_byte a (b ∷ bs) n.0 n.1
        ∙ (ap (λ c. growth_said (place + length (inside (b ∷ bs))) end by_byte c a.count (growth_rest limits place a a.word (inside (b ∷ bs)))) i.1
        ∙ (ap (λ t. growth_said (place + length t) end by_byte (is_closed bs) a.count (growth_rest limits place a a.word t)) i.0
        ∙ (ap (λ p. growth_said p end by_byte (is_closed bs) a.count (growth_rest limits place a a.word (b ∷ inside bs))) z
        ∙ (ap (growth_said (suc place + length (inside bs)) end by_byte (is_closed bs) a.count) (tokens-more limits.vars (growth_turn limits a.named) growth_end (growth_word_met limits a.named) (growth-held limits a.named) (growth-behind limits a.named) a.start place (sum_in a) a.word b (inside bs) k (s o))
        ∙ sym (growth-open limits (suc place) end by_byte (more_byte limits a b) bs n.0 n.1)))))

    go : (u v w : Bool) → is_over a ≡ u → nat_eq b 41 ≡ v → is_blank b ≡ w → growth_says limits place end by_byte a (b ∷ bs) a.refused
        ≡ (λ (x : Arguments). growth_says limits (suc place) end by_byte x bs x.refused) (elim u [
          | true ↦ a
          | false ↦ elim v [ true ↦ closed_number place (growth_word limits a a.word) | false ↦ elim w [ true ↦ past place (growth_word limits a a.word) | false ↦ more_byte limits a b ] ]
        ])
    go true v w o h k = growth-over limits place (suc place) end by_byte a (b ∷ bs) bs o
    go false true w o h k = closing h o
    go false false true o h k = blank h k o
    go false false false o h k = more h k o
