-- The literals of a list, and the tokens of a header, one by one.
use Rattle.std.proofs.Common.{◌≡◌, ℕ, suc, ◌+◌, ◌<◌, Bool, true, false, ◌||◌, List, [], ◌∷◌, ◌++◌, Option, Some, None, length, nat_lt, nat_le, nat_eq, refl, sym, ◌∙◌, ap, codes, arith}
use Rattle.sat_lits.specs.Limits.{LimitNumbers}
use Rattle.sat_lits.specs.declared.literal.Lit.{Lit}
use Rattle.dimacs_text.specs.Walk.{is_blank, word, after_word, Turn, Next, Stop, walk}
use Rattle.dimacs_text.specs.Tokens.{literal_token, is_judged, is_there, number}
use Rattle.dimacs_text.specs.Comments.{line, after_line, is_line_judged, kind, is_command, behind}
use Rattle.dimacs_text.specs.Lists.{Refused, Open, Listing, Literals, Listed, Broken, with_literal, literal_met, token_turn, comment_in_list, literal_turn, literals_end, literals}
use Rattle.dimacs_text.specs.Headers.{Header, Headed, NoHeader, format_met, variables_met, clauses_met, header_met, header_turn, header_end, header}
use Rattle.dimacs_text.specs.Grammar.{Reading, Sofar, phrase, text_end, reading_from, with_list, with_header}
use Rattle.dimacs_text.specs.Stands.{IsSolid, IsInLine, closed, headed}
use Rattle.dimacs_text.specs.declared.token.Token.{Token}
use Rattle.dimacs_text.specs.declared.token.Token.TheVariants.{Ending, Literal, TooLarge, NoLiteral}
use Rattle.dimacs_text.specs.declared.phrase.Wanted.{Wanted}
use Rattle.dimacs_text.specs.declared.phrase.Wanted.TheVariants.{Format, Variables, Clauses}
use Rattle.dimacs_text.specs.declared.command.Command.{Command}
use Rattle.dimacs_text.specs.declared.refusal.Refusal.TheVariants.{BadToken, VarTooLarge, TooManyLits, Truncated}
use Rattle.dimacs_text.proofs.Walks.{IsApart, IfStop, elim_true, elim_false, word-solid, after_word-solid, walk-all, walk-stop, walk-skips}
use Rattle.dimacs_text.proofs.Lines.{IsLineEnd, line-whole, after_line-whole}
use Rattle.dimacs_text.proofs.Inner.{inner-next, inner-blank}

-- the place after the list
abbrev pub IsBeyond : ℕ → Literals → Type 0
IsBeyond place (Listed l after) = place < after
IsBeyond place (Broken end) = Unit {0}

-- what is after a later place is after an earlier one
beyond_down : (place : ℕ) (r : Literals) → IsBeyond (suc place) r → IsBeyond place r
beyond_down place (Listed l after) h = omega arith
beyond_down place (Broken end) h = tt

-- at the end of the text
beyond_end : (whole : Bool) (place : ℕ) (l : Listing) → IsBeyond place (literals_end whole place l)
unfolding literals_end
beyond_end whole place l = tt

-- at a token
beyond_met : (limits : LimitNumbers) (place after : ℕ) (l : Listing) (t : Token) → place < after → IfStop (literal_met limits place after l t) (IsBeyond place)
unfolding literal_met
beyond_met limits place after l Ending h = h
beyond_met limits place after l (Literal lit) h = go (nat_lt l.count limits.lits)
  where
    go : (v : Bool) → IfStop (elim v [ true ↦ Next after (with_literal l lit) | false ↦ Stop (Broken (Refused (TooManyLits place))) ]) (IsBeyond place)
    go true = tt
    go false = tt
beyond_met limits place after l TooLarge h = tt
beyond_met limits place after l NoLiteral h = tt

-- a token is not empty
pub length_word : (b : ℕ) (bs : List ℕ) → is_blank b ≡ false → 0 < length (word (b ∷ bs))
unfolding word
length_word b bs h = let e : word (b ∷ bs) ≡ b ∷ word bs = elim_false (is_blank b) [] (b ∷ word bs) h in rw e (omega arith)

-- at the token at the front
beyond_token : (whole : Bool) (limits : LimitNumbers) (place : ℕ) (l : Listing) (b : ℕ) (bs : List ℕ) → is_blank b ≡ false → IfStop (token_turn whole limits place l (b ∷ bs)) (IsBeyond place)
unfolding token_turn
beyond_token whole limits place l b bs h = go (is_judged whole (b ∷ bs)) (beyond_met limits place _ l (literal_token limits.vars (word (b ∷ bs))) (omega (arith, length_word b bs h)))
  where
    go : (v : Bool) → IfStop (literal_met limits place (place + length (word (b ∷ bs))) l (literal_token limits.vars (word (b ∷ bs)))) (IsBeyond place)
        → IfStop (elim v [ true ↦ literal_met limits place (place + length (word (b ∷ bs))) l (literal_token limits.vars (word (b ∷ bs))) | false ↦ Stop (Broken Open) ]) (IsBeyond place)
    go true p = p
    go false p = tt

-- at a comment
beyond_comment : (whole : Bool) (place : ℕ) (l : Listing) (text : List ℕ) → IfStop (comment_in_list whole place l text) (IsBeyond place)
unfolding comment_in_list
beyond_comment whole place l text = go (is_line_judged whole text) (is_command (kind (line text)))
  where
    go : (u v : Bool) → IfStop (elim u [ true ↦ elim v [ true ↦ Stop (Broken (Refused (BadToken place))) | false ↦ Next (place + length (line text)) l ] | false ↦ Stop (Broken Open) ]) (IsBeyond place)
    go true true = tt
    go true false = tt
    go false v = tt

-- at the front of a text
beyond_turn : (whole : Bool) (limits : LimitNumbers) (place : ℕ) (l : Listing) (b : ℕ) (bs : List ℕ) → is_blank b ≡ false → IfStop (literal_turn whole limits place l (b ∷ bs)) (IsBeyond place)
unfolding literal_turn
beyond_turn whole limits place l b bs h = go (nat_eq b 99) (nat_eq b 37) (beyond_comment whole place l (b ∷ bs)) (beyond_token whole limits place l b bs h)
  where
    go : (u v : Bool) → IfStop (comment_in_list whole place l (b ∷ bs)) (IsBeyond place) → IfStop (token_turn whole limits place l (b ∷ bs)) (IsBeyond place)
        → IfStop (elim u [ true ↦ comment_in_list whole place l (b ∷ bs) | false ↦ elim v [ true ↦ Stop (Broken (Refused (Truncated place))) | false ↦ token_turn whole limits place l (b ∷ bs) ] ]) (IsBeyond place)
    go true v c t = c
    go false true c t = tt
    go false false c t = t

-- a list ends after the place where it is met
pub literals-beyond : (whole : Bool) (limits : LimitNumbers) (text : List ℕ) (next place : ℕ) (l : Listing) → IsBeyond place (walk (literal_turn whole limits) (literals_end whole) next place l text)
literals-beyond whole limits text next place l = walk-all (literal_turn whole limits) (literals_end whole) IsBeyond (beyond_end whole) (beyond_turn whole limits) beyond_down text next place l

-- a token that is judged
pub token-judged : (whole : Bool) (limits : LimitNumbers) (place : ℕ) (l : Listing) (w tail : List ℕ) → IsSolid w → IsApart tail → whole || is_there tail ≡ true
    → token_turn whole limits place l (w ++ tail) ≡ literal_met limits place (place + length w) l (literal_token limits.vars w)
unfolding token_turn is_judged
token-judged whole limits place l w tail s t k =
    let j : whole || is_there (after_word (w ++ tail)) ≡ true = rw (after_word-solid w tail s t) k in
    let e = word-solid w tail s t in
    elim_true (whole || is_there (after_word (w ++ tail))) _ (Stop (Broken Open)) j ∙ ap (λ v. literal_met limits place (place + length v) l (literal_token limits.vars v)) e

-- a token by its first byte
pub turn-token : (whole : Bool) (limits : LimitNumbers) (place : ℕ) (l : Listing) (b : ℕ) (bs : List ℕ) → nat_eq b 99 ≡ false → nat_eq b 37 ≡ false
    → literal_turn whole limits place l (b ∷ bs) ≡ token_turn whole limits place l (b ∷ bs)
unfolding literal_turn
turn-token whole limits place l b bs h k =
    elim_false (nat_eq b 99) (comment_in_list whole place l (b ∷ bs)) _ h ∙ elim_false (nat_eq b 37) (Stop (Broken (Refused (Truncated place)))) (token_turn whole limits place l (b ∷ bs)) k

-- the reading behind a list, over a text that has come
pub closed-past : (whole : Bool) (limits : LimitNumbers) (commands : List Command) (make : List Lit → Command) (place after : ℕ) (w tail : List ℕ) (r : Literals) → after ≡ place + length w
    → IsBeyond after r
    → closed whole limits place commands make (w ++ tail) r ≡ closed whole limits after commands make tail r
unfolding closed
closed-past whole limits commands make place after w tail (Listed l next) e h =
    walk-skips (phrase whole limits) (text_end whole) w next place (with_list commands make l) tail (omega arith)
    ∙ ap (λ p. walk (phrase whole limits) (text_end whole) next p (with_list commands make l) tail) (sym e)
closed-past whole limits commands make place after w tail (Broken end) e h = refl

-- the reading of an open list
abbrev pub list_rest : Bool → LimitNumbers → ℕ → List Command → (List Lit → Command) → Listing → List ℕ → Reading
list_rest whole limits place commands make l text = closed whole limits place commands make text (literals whole limits place place l text)

-- what follows a token that a list goes on or ends with
abbrev pub after_turn : Bool → LimitNumbers → ℕ → List Command → (List Lit → Command) → List ℕ → Turn Listing Literals → Reading
after_turn whole limits after commands make tail (Next next l) = list_rest whole limits after commands make l tail
after_turn whole limits after commands make tail (Stop (Listed l next)) = reading_from whole limits after (with_list commands make l) tail
after_turn whole limits after commands make tail (Stop (Broken end)) = record { commands = commands; end = end }

-- the place that a token leads to
abbrev pub IsAt : ℕ → Turn Listing Literals → Type 0
IsAt after (Next next l) = next ≡ after
IsAt after (Stop (Listed l next)) = next ≡ after
IsAt after (Stop (Broken end)) = Unit {0}

-- a token leads to its end
pub met-at : (limits : LimitNumbers) (place after : ℕ) (l : Listing) (t : Token) → IsAt after (literal_met limits place after l t)
unfolding literal_met
met-at limits place after l Ending = refl
met-at limits place after l (Literal lit) = go (nat_lt l.count limits.lits)
  where
    go : (v : Bool) → IsAt after (elim v [ true ↦ Next after (with_literal l lit) | false ↦ Stop (Broken (Refused (TooManyLits place))) ])
    go true = refl
    go false = tt
met-at limits place after l TooLarge = tt
met-at limits place after l NoLiteral = tt

-- a token where a list is open
pub list-turned : (whole : Bool) (limits : LimitNumbers) (place after : ℕ) (commands : List Command) (make : List Lit → Command) (l : Listing) (b : ℕ) (w tail : List ℕ) (t : Turn Listing Literals) → is_blank b ≡ false
    → after ≡ place + length (b ∷ w) → IsAt after t → literal_turn whole limits place l (b ∷ (w ++ tail)) ≡ t
    → list_rest whole limits place commands make l (b ∷ (w ++ tail)) ≡ after_turn whole limits after commands make tail t
unfolding literals closed reading_from
list-turned whole limits place after commands make l b w tail (Next next l') h n at e =
    inner-next (literal_turn whole limits) (literals_end whole) (λ p t r. closed whole limits p commands make t r) IsBeyond (literals-beyond whole limits) (closed-past whole limits commands make) place after l l' b w tail h (e ∙ ap (λ p. Next p l') at) n
list-turned whole limits place after commands make l b w tail (Stop (Listed l' next)) h n at e =
    ap (closed whole limits place commands make (b ∷ (w ++ tail))) (walk-stop (literal_turn whole limits) (literals_end whole) place l (Listed l' next) b (w ++ tail) h e)
    ∙ (walk-skips (phrase whole limits) (text_end whole) (b ∷ w) next place (with_list commands make l') tail (omega (arith, at, n))
    ∙ (ap (λ p. walk (phrase whole limits) (text_end whole) next p (with_list commands make l') tail) (sym n) ∙ ap (λ p. walk (phrase whole limits) (text_end whole) p after (with_list commands make l') tail) at))
list-turned whole limits place after commands make l b w tail (Stop (Broken end)) h n at e =
    ap (closed whole limits place commands make (b ∷ (w ++ tail))) (walk-stop (literal_turn whole limits) (literals_end whole) place l (Broken end) b (w ++ tail) h e)

-- A token that is judged where a list is open.
pub list-token : (whole : Bool) (limits : LimitNumbers) (place after : ℕ) (commands : List Command) (make : List Lit → Command) (l : Listing) (b : ℕ) (w tail : List ℕ) → IsSolid (b ∷ w)
    → nat_eq b 99 ≡ false → nat_eq b 37 ≡ false
    → IsApart tail → whole || is_there tail ≡ true → after ≡ place + length (b ∷ w)
    → list_rest whole limits place commands make l (b ∷ (w ++ tail)) ≡ after_turn whole limits after commands make tail (literal_met limits place after l (literal_token limits.vars (b ∷ w)))
list-token whole limits place after commands make l b w tail s c p t k n =
    list-turned whole limits place after commands make l b w tail (literal_met limits place after l (literal_token limits.vars (b ∷ w))) s.0 n (met-at limits place after l (literal_token limits.vars (b ∷ w)))
    (turn-token whole limits place l b (w ++ tail) c p ∙ (token-judged whole limits place l (b ∷ w) tail s t k ∙ ap (λ x. literal_met limits place x l (literal_token limits.vars (b ∷ w))) (sym n)))

-- A blank where a list is open.
pub list-blank : (whole : Bool) (limits : LimitNumbers) (place : ℕ) (commands : List Command) (make : List Lit → Command) (l : Listing) (b : ℕ) (tail : List ℕ) → is_blank b ≡ true
    → list_rest whole limits place commands make l (b ∷ tail) ≡ list_rest whole limits (suc place) commands make l tail
unfolding literals
list-blank whole limits place commands make l b tail h =
    inner-blank (literal_turn whole limits) (literals_end whole) (λ p t r. closed whole limits p commands make t r) IsBeyond (literals-beyond whole limits) (closed-past whole limits commands make) place l b tail h

-- A comment that is judged where a list is open: it may be no command.
pub list-comment : (whole : Bool) (limits : LimitNumbers) (place after : ℕ) (commands : List Command) (make : List Lit → Command) (l : Listing) (w tail : List ℕ) → IsInLine w
    → IsLineEnd tail → whole || is_there tail ≡ true → after ≡ place + length (99 ∷ w)
    → list_rest whole limits place commands make l (99 ∷ (w ++ tail)) ≡ elim (is_command (kind (99 ∷ w))) [ true ↦ record { commands = commands; end = Refused (BadToken place) } | false ↦ list_rest whole limits after commands make l tail ]
unfolding literal_turn comment_in_list is_line_judged is_blank
list-comment whole limits place after commands make l w tail s t k n = go (is_command (kind (99 ∷ w))) turn
  where
    judged : whole || is_there (after_line (99 ∷ (w ++ tail))) ≡ true
    judged = rw (after_line-whole (99 ∷ w) tail (refl, s) t) k

    turn : literal_turn whole limits place l (99 ∷ (w ++ tail)) ≡ elim (is_command (kind (99 ∷ w))) [ true ↦ Stop (Broken (Refused (BadToken place))) | false ↦ Next after l ]
    turn = elim_true (whole || is_there (after_line (99 ∷ (w ++ tail)))) _ (Stop (Broken Open)) judged
        ∙ (ap (λ v. elim (is_command (kind v)) [ true ↦ Stop (Broken (Refused (BadToken place))) | false ↦ Next (place + length v) l ]) (line-whole (99 ∷ w) tail (refl, s) t)
        ∙ ap (λ p. elim (is_command (kind (99 ∷ w))) [ true ↦ Stop (Broken (Refused (BadToken place))) | false ↦ Next p l ]) (sym n))

    go : (v : Bool) → literal_turn whole limits place l (99 ∷ (w ++ tail)) ≡ elim v [ true ↦ Stop (Broken (Refused (BadToken place))) | false ↦ Next after l ]
        → list_rest whole limits place commands make l (99 ∷ (w ++ tail)) ≡ elim v [ true ↦ record { commands = commands; end = Refused (BadToken place) } | false ↦ list_rest whole limits after commands make l tail ]
    go true e = list-turned whole limits place after commands make l 99 w tail (Stop (Broken (Refused (BadToken place)))) refl n tt e
    go false e = list-turned whole limits place after commands make l 99 w tail (Next after l) refl n refl e

-- A `%` where a list is open.
pub list-percent : (whole : Bool) (limits : LimitNumbers) (place : ℕ) (commands : List Command) (make : List Lit → Command) (l : Listing) (tail : List ℕ)
    → list_rest whole limits place commands make l (37 ∷ tail) ≡ record { commands = commands; end = Refused (Truncated place) }
unfolding literal_turn is_blank
list-percent whole limits place commands make l tail =
    let n : suc place ≡ place + length {A = ℕ} (37 ∷ []) = omega arith in list-turned whole limits place (suc place) commands make l 37 [] tail (Stop (Broken (Refused (Truncated place)))) refl n tt refl

-- the place after a header
abbrev pub IsHeadBeyond : ℕ → Header → Type 0
IsHeadBeyond place (Headed vars after) = place < after
IsHeadBeyond place (NoHeader end) = Unit {0}

-- what is after a later place is after an earlier one
head_down : (place : ℕ) (r : Header) → IsHeadBeyond (suc place) r → IsHeadBeyond place r
head_down place (Headed vars after) h = omega arith
head_down place (NoHeader end) h = tt

-- at the end of the text
head_end : (whole : Bool) (place : ℕ) (wanted : Wanted) → IsHeadBeyond place (header_end whole place wanted)
unfolding header_end
head_end whole place wanted = tt

-- what follows a token of a header
abbrev pub after_header : Bool → LimitNumbers → ℕ → Sofar → List ℕ → Turn Wanted Header → Reading
after_header whole limits after s tail (Next next wanted) = headed whole limits after s tail (header whole limits after after wanted tail)
after_header whole limits after s tail (Stop (Headed vars next)) = reading_from whole limits after (with_header s.commands s.named s.count vars) tail
after_header whole limits after s tail (Stop (NoHeader end)) = record { commands = s.commands; end = end }

-- the place that a token leads to
abbrev pub IsHeadAt : ℕ → Turn Wanted Header → Type 0
IsHeadAt after (Next next wanted) = next ≡ after
IsHeadAt after (Stop (Headed vars next)) = next ≡ after
IsHeadAt after (Stop (NoHeader end)) = Unit {0}

-- a token leads to its end
pub header_met-at : (limits : LimitNumbers) (place after : ℕ) (wanted : Wanted) (token : List ℕ) → IsHeadAt after (header_met limits place after wanted token)
unfolding header_met format_met variables_met clauses_met
header_met-at limits place after Format token = go (behind (codes "cnf") token)
  where
    go : (x : Option (List ℕ)) → IsHeadAt after (format_met place after x)
    go (Some []) = refl
    go (Some (b ∷ bs)) = tt
    go None = tt
header_met-at limits place after Variables token = go (number token)
  where
    test : (v : Bool) (n : ℕ) → IsHeadAt after (elim v [ true ↦ Next after (Clauses n) | false ↦ Stop (NoHeader (Refused (VarTooLarge place))) ])
    test true n = refl
    test false n = tt

    go : (x : Option ℕ) → IsHeadAt after (variables_met limits place after x)
    go (Some n) = test (nat_le n limits.vars) n
    go None = tt
header_met-at limits place after (Clauses vars) token = go (number token)
  where
    go : (x : Option ℕ) → IsHeadAt after (clauses_met place after vars x)
    go (Some n) = refl
    go None = tt

-- where it stops it stops behind its place
head_stop : (place after : ℕ) (t : Turn Wanted Header) → place < after → IsHeadAt after t → IfStop t (IsHeadBeyond place)
head_stop place after (Next next wanted) h at = tt
head_stop place after (Stop (Headed vars next)) h at = omega (arith, at)
head_stop place after (Stop (NoHeader end)) h at = tt

-- at the token at the front of a text
head_turn : (whole : Bool) (limits : LimitNumbers) (place : ℕ) (wanted : Wanted) (b : ℕ) (bs : List ℕ) → is_blank b ≡ false
    → IfStop (header_turn whole limits place wanted (b ∷ bs)) (IsHeadBeyond place)
unfolding header_turn
head_turn whole limits place wanted b bs h =
    go (is_judged whole (b ∷ bs)) (head_stop place (place + length (word (b ∷ bs))) _ (omega (arith, length_word b bs h)) (header_met-at limits place (place + length (word (b ∷ bs))) wanted (word (b ∷ bs))))
  where
    go : (v : Bool) → IfStop (header_met limits place (place + length (word (b ∷ bs))) wanted (word (b ∷ bs))) (IsHeadBeyond place)
        → IfStop (elim v [ true ↦ header_met limits place (place + length (word (b ∷ bs))) wanted (word (b ∷ bs)) | false ↦ Stop (NoHeader Open) ]) (IsHeadBeyond place)
    go true p = p
    go false p = tt

-- a header ends after the place where it is met
pub header-beyond : (whole : Bool) (limits : LimitNumbers) (text : List ℕ) (next place : ℕ) (wanted : Wanted)
    → IsHeadBeyond place (walk (header_turn whole limits) (header_end whole) next place wanted text)
header-beyond whole limits text next place wanted = walk-all (header_turn whole limits) (header_end whole) IsHeadBeyond (head_end whole) (head_turn whole limits) head_down text next place wanted

-- the reading behind a header, over a text that has come
pub headed-past : (whole : Bool) (limits : LimitNumbers) (s : Sofar) (place after : ℕ) (w tail : List ℕ) (r : Header) → after ≡ place + length w → IsHeadBeyond after r
    → headed whole limits place s (w ++ tail) r ≡ headed whole limits after s tail r
unfolding headed
headed-past whole limits s place after w tail (Headed vars next) e h =
    walk-skips (phrase whole limits) (text_end whole) w next place (with_header s.commands s.named s.count vars) tail (omega arith)
    ∙ ap (λ p. walk (phrase whole limits) (text_end whole) next p (with_header s.commands s.named s.count vars) tail) (sym e)
headed-past whole limits s place after w tail (NoHeader end) e h = refl

-- A token that is judged where a header is open.
pub header-token : (whole : Bool) (limits : LimitNumbers) (place after : ℕ) (s : Sofar) (wanted : Wanted) (b : ℕ) (w tail : List ℕ) → IsSolid (b ∷ w) → IsApart tail
    → whole || is_there tail ≡ true → after ≡ place + length (b ∷ w)
    → headed whole limits place s (b ∷ (w ++ tail)) (header whole limits place place wanted (b ∷ (w ++ tail))) ≡ after_header whole limits after s tail (header_met limits place after wanted (b ∷ w))
unfolding header header_turn is_judged headed reading_from
header-token whole limits place after s wanted b w tail h t k n = go (header_met limits place after wanted (b ∷ w)) (header_met-at limits place after wanted (b ∷ w)) turn
  where
    judged : whole || is_there (after_word (b ∷ (w ++ tail))) ≡ true
    judged = rw (after_word-solid (b ∷ w) tail h t) k

    turn : header_turn whole limits place wanted (b ∷ (w ++ tail)) ≡ header_met limits place after wanted (b ∷ w)
    turn = elim_true (whole || is_there (after_word (b ∷ (w ++ tail)))) _ (Stop (NoHeader Open)) judged
        ∙ (ap (λ v. header_met limits place (place + length v) wanted v) (word-solid (b ∷ w) tail h t) ∙ ap (λ p. header_met limits place p wanted (b ∷ w)) (sym n))

    go : (x : Turn Wanted Header) → IsHeadAt after x → header_turn whole limits place wanted (b ∷ (w ++ tail)) ≡ x
        → headed whole limits place s (b ∷ (w ++ tail)) (walk (header_turn whole limits) (header_end whole) place place wanted (b ∷ (w ++ tail))) ≡ after_header whole limits after s tail x
    go (Next next wanted') at e =
        inner-next (header_turn whole limits) (header_end whole) (λ p x r. headed whole limits p s x r) IsHeadBeyond (header-beyond whole limits) (headed-past whole limits s) place after wanted wanted' b w tail h.0 (e ∙ ap (λ p. Next p wanted') at) n
    go (Stop (Headed vars next)) at e =
        ap (headed whole limits place s (b ∷ (w ++ tail))) (walk-stop (header_turn whole limits) (header_end whole) place wanted (Headed vars next) b (w ++ tail) h.0 e)
        ∙ (walk-skips (phrase whole limits) (text_end whole) (b ∷ w) next place (with_header s.commands s.named s.count vars) tail (omega (arith, at, n))
        ∙ (ap (λ p. walk (phrase whole limits) (text_end whole) next p (with_header s.commands s.named s.count vars) tail) (sym n) ∙ ap (λ p. walk (phrase whole limits) (text_end whole) p after (with_header s.commands s.named s.count vars) tail) at))
    go (Stop (NoHeader end)) at e = ap (headed whole limits place s (b ∷ (w ++ tail))) (walk-stop (header_turn whole limits) (header_end whole) place wanted (NoHeader end) b (w ++ tail) h.0 e)

-- A blank where a header is open.
pub header-blank : (whole : Bool) (limits : LimitNumbers) (place : ℕ) (s : Sofar) (wanted : Wanted) (b : ℕ) (tail : List ℕ) → is_blank b ≡ true
    → headed whole limits place s (b ∷ tail) (header whole limits place place wanted (b ∷ tail)) ≡ headed whole limits (suc place) s tail (header whole limits (suc place) (suc place) wanted tail)
unfolding header
header-blank whole limits place s wanted b tail h =
    inner-blank (header_turn whole limits) (header_end whole) (λ p x r. headed whole limits p s x r) IsHeadBeyond (header-beyond whole limits) (headed-past whole limits s) place wanted b tail h
