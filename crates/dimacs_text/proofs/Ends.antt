-- How the reading of a whole text can end.
use Rattle.std.proofs.Common.{◌≡◌, ℕ, ◌+◌, Bool, true, false, List, [], ◌∷◌, Option, Some, None, length, nat_lt, nat_le, nat_eq, codes, refl, sym, subst}
use Rattle.sat_lits.specs.Limits.{LimitNumbers}
use Rattle.sat_lits.specs.declared.literal.Lit.{Lit}
use Rattle.dimacs_text.specs.Walk.{word, Turn, Next, Stop}
use Rattle.dimacs_text.specs.Tokens.{literal_token, is_judged, is_there, number}
use Rattle.dimacs_text.specs.Comments.{line, after_line, is_line_judged, kind, is_command, behind}
use Rattle.dimacs_text.specs.Lists.{End, Ended, Refused, Open, Listing, Literals, Listed, Broken, with_literal, literal_met, token_turn, comment_in_list, literal_turn, literals_end, literals, parity_of, Said, Skips, Says, Refuses, said}
use Rattle.dimacs_text.specs.Headers.{Header, Headed, NoHeader, format_met, variables_met, clauses_met, header_met, header_turn, header_end, header}
use Rattle.dimacs_text.specs.Grammar.{Reading, Sofar, read, reading_of, front_reading, cut_off, ends_with, listing_of, list_turn, begun, first_met, header_turned, said_turn, comment_turn, Opening, OpensHeader, OpensParity, OpensClause, opening, opened, token_phrase, phrase, text_end, reading_from, nothing_read}
use Rattle.dimacs_text.specs.Reads.{IsClosed}
use Rattle.dimacs_text.specs.declared.token.Token.{Token}
use Rattle.dimacs_text.specs.declared.token.Token.TheVariants.{Ending, Literal, TooLarge, NoLiteral}
use Rattle.dimacs_text.specs.declared.phrase.Wanted.{Wanted}
use Rattle.dimacs_text.specs.declared.phrase.Wanted.TheVariants.{Format, Variables, Clauses}
use Rattle.dimacs_text.specs.declared.command.Command.{Command}
use Rattle.dimacs_text.specs.declared.command.Command.TheVariants.{Clause}
use Rattle.dimacs_text.specs.declared.refusal.Refusal.TheVariants.{BadToken, VarTooLarge, TooManyLits, Truncated}
use Rattle.dimacs_text.proofs.Walks.{IfStop, walk-all}

-- what comes in place of a list closes the text
abbrev IsListClosed : Literals → Type 0
IsListClosed (Listed l after) = Unit {0}
IsListClosed (Broken end) = IsClosed end

-- at a token of a list
met-closed : (limits : LimitNumbers) (place after : ℕ) (l : Listing) (t : Token) → IfStop (literal_met limits place after l t) IsListClosed
unfolding literal_met
met-closed limits place after l Ending = tt
met-closed limits place after l (Literal lit) = go (nat_lt l.count limits.lits)
  where
    go : (v : Bool) → IfStop (elim v [ true ↦ Next after (with_literal l lit) | false ↦ Stop (Broken (Refused (TooManyLits place))) ]) IsListClosed
    go true = tt
    go false = tt
met-closed limits place after l TooLarge = tt
met-closed limits place after l NoLiteral = tt

-- at the front of a text where a list is open
list-turn-closed : (limits : LimitNumbers) (place : ℕ) (l : Listing) (b : ℕ) (bs : List ℕ) → IfStop (literal_turn true limits place l (b ∷ bs)) IsListClosed
unfolding literal_turn token_turn comment_in_list is_judged is_line_judged
list-turn-closed limits place l b bs = go (nat_eq b 99) (nat_eq b 37) (is_command (kind (line (b ∷ bs)))) (met-closed limits place _ l (literal_token limits.vars (word (b ∷ bs))))
  where
    go : (u v w : Bool) → IfStop (literal_met limits place (place + length (word (b ∷ bs))) l (literal_token limits.vars (word (b ∷ bs)))) IsListClosed → IfStop (elim u [
      | true ↦ elim w [ true ↦ Stop (Broken (Refused (BadToken place))) | false ↦ Next (place + length (line (b ∷ bs))) l ]
      | false ↦ elim v [ true ↦ Stop (Broken (Refused (Truncated place))) | false ↦ literal_met limits place (place + length (word (b ∷ bs))) l (literal_token limits.vars (word (b ∷ bs))) ]
    ]) IsListClosed
    go true v true h = tt
    go true v false h = tt
    go false true w h = tt
    go false false w h = h

-- a list in a whole text
list-closed : (limits : LimitNumbers) (next place : ℕ) (l : Listing) (text : List ℕ) → IsListClosed (literals true limits next place l text)
unfolding literals literals_end
list-closed limits next place l text =
    walk-all (literal_turn true limits) (literals_end true) (λ p r. IsListClosed r) (λ p a. tt) (λ p a b bs h. list-turn-closed limits p a b bs) (λ p r h. h) text next place l

-- what comes in place of a header closes the text
abbrev IsHeaderClosed : Header → Type 0
IsHeaderClosed (Headed vars after) = Unit {0}
IsHeaderClosed (NoHeader end) = IsClosed end

-- at a token of a header
header-met-closed : (limits : LimitNumbers) (place after : ℕ) (wanted : Wanted) (token : List ℕ) → IfStop (header_met limits place after wanted token) IsHeaderClosed
unfolding header_met format_met variables_met clauses_met
header-met-closed limits place after Format token = go (behind (codes "cnf") token)
  where
    go : (x : Option (List ℕ)) → IfStop (format_met place after x) IsHeaderClosed
    go (Some []) = tt
    go (Some (b ∷ bs)) = tt
    go None = tt
header-met-closed limits place after Variables token = go (number token)
  where
    test : (v : Bool) (n : ℕ) → IfStop (elim v [ true ↦ Next after (Clauses n) | false ↦ Stop (NoHeader (Refused (VarTooLarge place))) ]) IsHeaderClosed
    test true n = tt
    test false n = tt

    go : (x : Option ℕ) → IfStop (variables_met limits place after x) IsHeaderClosed
    go (Some n) = test (nat_le n limits.vars) n
    go None = tt
header-met-closed limits place after (Clauses vars) token = go (number token)
  where
    go : (x : Option ℕ) → IfStop (clauses_met place after vars x) IsHeaderClosed
    go (Some n) = tt
    go None = tt

-- a header in a whole text
header-closed : (limits : LimitNumbers) (next place : ℕ) (wanted : Wanted) (text : List ℕ) → IsHeaderClosed (header true limits next place wanted text)
unfolding header header_end header_turn is_judged
header-closed limits next place wanted text =
    walk-all (header_turn true limits) (header_end true) (λ p r. IsHeaderClosed r) (λ p a. tt) (λ p a b bs h. header-met-closed limits p (p + length (word (b ∷ bs))) a (word (b ∷ bs))) (λ p r h. h) text next place wanted

-- the reading that a phrase stops with is closed
abbrev IsReadingClosed : Reading → Type 0
IsReadingClosed r = IsClosed r.end

-- a list where nothing is open
begun-closed : (limits : LimitNumbers) (place : ℕ) (s : Sofar) (make : List Lit → Command) (text : List ℕ) (t : Turn Listing Literals) → IfStop t IsListClosed
    → IfStop (list_turn s make (begun true limits place text t)) IsReadingClosed
begun-closed limits place s make text (Next next l) h = go (literals true limits next place l text) (list-closed limits next place l text)
  where
    go : (r : Literals) → IsListClosed r → IfStop (list_turn s make r) IsReadingClosed
    go (Listed l' after) k = tt
    go (Broken end) k = k
begun-closed limits place s make text (Stop (Listed l after)) h = tt
begun-closed limits place s make text (Stop (Broken end)) h = h

-- the first token of a parity
first-closed : (limits : LimitNumbers) (place after : ℕ) (l : Listing) (w : List ℕ) → IfStop (first_met limits place after l w) IsListClosed
unfolding first_met
first-closed limits place after l [] = tt
first-closed limits place after l (b ∷ bs) = met-closed limits place after l (literal_token limits.vars (b ∷ bs))

-- a phrase that a token opens
opened-closed : (limits : LimitNumbers) (place : ℕ) (s : Sofar) (token text : List ℕ) (o : Opening) → IfStop (opened true limits place s token text o) IsReadingClosed
unfolding opened
opened-closed limits place s token text OpensHeader = go (header true limits (place + length token) place Format text) (header-closed limits (place + length token) place Format text)
  where
    go : (r : Header) → IsHeaderClosed r → IfStop (header_turned s r) IsReadingClosed
    go (Headed vars after) k = tt
    go (NoHeader end) k = k
opened-closed limits place s token text (OpensParity bs) =
    begun-closed limits place s parity_of text (first_met limits place (place + length token) (listing_of s) bs) (first-closed limits place (place + length token) (listing_of s) bs)
opened-closed limits place s token text OpensClause =
    begun-closed limits place s Clause text (literal_met limits place (place + length token) (listing_of s) (literal_token limits.vars token)) (met-closed limits place (place + length token) (listing_of s) (literal_token limits.vars token))

-- a phrase of a whole text
phrase-closed : (limits : LimitNumbers) (place : ℕ) (s : Sofar) (b : ℕ) (bs : List ℕ) → IfStop (phrase true limits place s (b ∷ bs)) IsReadingClosed
unfolding phrase comment_turn token_phrase is_judged is_line_judged
phrase-closed limits place s b bs =
    go (nat_eq b 99) (nat_eq b 37) (comment (said limits end (is_there (after_line (b ∷ bs))) s.named s.count (kind (line (b ∷ bs))))) (opened-closed limits place s (word (b ∷ bs)) (b ∷ bs) (opening (word (b ∷ bs))))
  where
    end : ℕ
    end = place + length (line (b ∷ bs))

    comment : (x : Said) → IfStop (said_turn end s x) IsReadingClosed
    comment Skips = tt
    comment (Says command named count) = tt
    comment (Refuses why) = tt

    go : (u v : Bool) → IfStop (said_turn end s (said limits end (is_there (after_line (b ∷ bs))) s.named s.count (kind (line (b ∷ bs))))) IsReadingClosed
        → IfStop (opened true limits place s (word (b ∷ bs)) (b ∷ bs) (opening (word (b ∷ bs)))) IsReadingClosed
        → IfStop (elim u [
          | true ↦ said_turn end s (said limits end (is_there (after_line (b ∷ bs))) s.named s.count (kind (line (b ∷ bs))))
          | false ↦ elim v [ true ↦ ends_with s Ended | false ↦ opened true limits place s (word (b ∷ bs)) (b ∷ bs) (opening (word (b ∷ bs))) ]
        ]) IsReadingClosed
    go true v c o = c
    go false true c o = tt
    go false false c o = o

-- A whole text ends or is refused.
pub reading_of-closed : (limits : LimitNumbers) (text : List ℕ) → IsClosed (reading_of limits text).end
unfolding reading_of front_reading read reading_from text_end
reading_of-closed limits text = go (nat_le (length text) limits.input)
  where
    front : Reading
    front = front_reading limits text

    cut : (e : End) → front.end ≡ e → IsClosed (cut_off limits front e).end
    cut Ended e = subst IsClosed (sym e) tt
    cut (Refused why) e = subst IsClosed (sym e) tt
    cut Open e = tt

    go : (v : Bool) → IsClosed (elim v as (λ _. Reading) [ true ↦ read true limits text | false ↦ cut_off limits front front.end ]).end
    go true = walk-all (phrase true limits) (text_end true) (λ p r. IsClosed r.end) (λ p a. tt) (λ p a b bs h. phrase-closed limits p a b bs) (λ p r h. h) text 0 0 nothing_read
    go false = cut front.end refl
