-- What begins where nothing is open.
use Rattle.std.proofs.Common.{◌≡◌, ℕ, suc, ◌+◌, ◌≤◌, Bool, true, false, ◌||◌, List, [], ◌∷◌, ◌++◌, length, nat_eq, refl, sym, ◌∙◌, ap, arith}
use Rattle.sat_lits.specs.Limits.{LimitNumbers}
use Rattle.sat_lits.specs.declared.literal.Lit.{Lit}
use Rattle.dimacs_text.specs.Walk.{is_blank, after_word, Turn, Next, Stop, turned, walk}
use Rattle.dimacs_text.specs.Tokens.{literal_token, is_judged, is_there}
use Rattle.dimacs_text.specs.Comments.{after_line, is_line_judged, kind}
use Rattle.dimacs_text.specs.Lists.{Ended, Refused, Open, Listing, Literals, Listed, Broken, literal_met, literal_turn, literals_end, literals, parity_of, Said, Skips, Says, Refuses, said}
use Rattle.dimacs_text.specs.Headers.{Header, Headed, NoHeader, header_turn, header_end, header}
use Rattle.dimacs_text.specs.Grammar.{Reading, Sofar, ends_with, listing_of, with_list, list_turn, begun, first_met, with_header, header_turned, said_turn, comment_turn, OpensHeader, OpensClause, opening, opened, token_phrase, phrase, text_end, reading_from}
use Rattle.dimacs_text.specs.Stands.{IsSolid, IsInLine, closed, headed}
use Rattle.dimacs_text.specs.declared.phrase.Wanted.TheVariants.{Format}
use Rattle.dimacs_text.specs.declared.command.Command.{Command}
use Rattle.dimacs_text.specs.declared.command.Command.TheVariants.{Clause}
use Rattle.dimacs_text.proofs.Walks.{IsApart, elim_true, elim_false, word-solid, after_word-solid, walk-met, walk-skips, walk-past_blank}
use Rattle.dimacs_text.proofs.Lines.{IsLineEnd, line-whole, after_line-whole}
use Rattle.dimacs_text.proofs.Literals.{IsBeyond, literals-beyond, after_turn, IsAt, met-at, IsHeadBeyond, header-beyond}

-- the rest of the outer walk, behind the first byte of a phrase
abbrev on : Bool → LimitNumbers → ℕ → List ℕ → Turn Sofar Reading → Reading
on whole limits place bs t = turned t (λ next s. walk (phrase whole limits) (text_end whole) next (suc place) s bs)

-- it passes the bytes of a token
on-past : (whole : Bool) (limits : LimitNumbers) (place after next : ℕ) (s : Sofar) (w tail : List ℕ) → after ≡ suc place + length w → after ≤ next
    → walk (phrase whole limits) (text_end whole) next (suc place) s (w ++ tail) ≡ walk (phrase whole limits) (text_end whole) next after s tail
on-past whole limits place after next s w tail n l =
    walk-skips (phrase whole limits) (text_end whole) w next (suc place) s tail (omega arith) ∙ ap (λ p. walk (phrase whole limits) (text_end whole) next p s tail) (sym n)

-- a list that begins with a token
begun-turned : (whole : Bool) (limits : LimitNumbers) (place after : ℕ) (s : Sofar) (make : List Lit → Command) (b : ℕ) (w tail : List ℕ) (t : Turn Listing Literals)
    → after ≡ place + length (b ∷ w) → IsAt after t
    → on whole limits place (w ++ tail) (list_turn s make (begun whole limits place (b ∷ (w ++ tail)) t)) ≡ after_turn whole limits after s.commands make tail t
unfolding literals closed reading_from
begun-turned whole limits place after s make b w tail (Next next l) n at =
    ap (λ r. on whole limits place (w ++ tail) (list_turn s make r)) passed
    ∙ go (walk (literal_turn whole limits) (literals_end whole) after after l tail) (literals-beyond whole limits tail after after l)
  where
    passed : walk (literal_turn whole limits) (literals_end whole) next place l (b ∷ (w ++ tail)) ≡ walk (literal_turn whole limits) (literals_end whole) after after l tail
    passed = ap (λ p. walk (literal_turn whole limits) (literals_end whole) p place l (b ∷ (w ++ tail))) at
        ∙ (walk-skips (literal_turn whole limits) (literals_end whole) (b ∷ w) after place l tail (omega arith) ∙ ap (λ p. walk (literal_turn whole limits) (literals_end whole) after p l tail) (sym n))

    go : (r : Literals) → IsBeyond after r → on whole limits place (w ++ tail) (list_turn s make r) ≡ closed whole limits after s.commands make tail r
    go (Listed l' last) h = on-past whole limits place after last (with_list s.commands make l') w tail (omega arith) (omega arith)
    go (Broken end) h = refl
begun-turned whole limits place after s make b w tail (Stop (Listed l next)) n at =
    on-past whole limits place after next (with_list s.commands make l) w tail (omega arith) (omega (arith, at))
    ∙ ap (λ p. walk (phrase whole limits) (text_end whole) p after (with_list s.commands make l) tail) at
begun-turned whole limits place after s make b w tail (Stop (Broken end)) n at = refl

-- a token that is judged opens a phrase
between-opened : (whole : Bool) (limits : LimitNumbers) (place : ℕ) (s : Sofar) (b : ℕ) (w tail : List ℕ) → IsSolid (b ∷ w) → nat_eq b 99 ≡ false → nat_eq b 37 ≡ false → IsApart tail
    → whole || is_there tail ≡ true
    → reading_from whole limits place s (b ∷ (w ++ tail)) ≡ on whole limits place (w ++ tail) (opened whole limits place s (b ∷ w) (b ∷ (w ++ tail)) (opening (b ∷ w)))
unfolding reading_from phrase token_phrase is_judged
between-opened whole limits place s b w tail h c p t k =
    walk-met (phrase whole limits) (text_end whole) place place s b (w ++ tail) (omega arith) h.0
    ∙ (ap (on whole limits place (w ++ tail)) (elim_false (nat_eq b 99) (comment_turn whole limits place s (b ∷ (w ++ tail))) _ c
    ∙ (elim_false (nat_eq b 37) (ends_with s Ended) _ p
    ∙ (elim_true (whole || is_there (after_word (b ∷ (w ++ tail)))) _ (ends_with s Open) judged
    ∙ ap (λ v. opened whole limits place s v (b ∷ (w ++ tail)) (opening v)) (word-solid (b ∷ w) tail h t)))))
  where
    judged : whole || is_there (after_word (b ∷ (w ++ tail))) ≡ true
    judged = rw (after_word-solid (b ∷ w) tail h t) k

-- A token that is judged opens a clause.
pub between-clause : (whole : Bool) (limits : LimitNumbers) (place after : ℕ) (s : Sofar) (b : ℕ) (w tail : List ℕ) → IsSolid (b ∷ w) → nat_eq b 99 ≡ false → nat_eq b 37 ≡ false
    → IsApart tail → whole || is_there tail ≡ true
    → after ≡ place + length (b ∷ w) → opening (b ∷ w) ≡ OpensClause
    → reading_from whole limits place s (b ∷ (w ++ tail)) ≡ after_turn whole limits after s.commands Clause tail (literal_met limits place after (listing_of s) (literal_token limits.vars (b ∷ w)))
unfolding opened
between-clause whole limits place after s b w tail h c p t k n o =
    between-opened whole limits place s b w tail h c p t k
    ∙ (ap (λ x. on whole limits place (w ++ tail) (opened whole limits place s (b ∷ w) (b ∷ (w ++ tail)) x)) o
    ∙ (ap (λ m. on whole limits place (w ++ tail) (list_turn s Clause (begun whole limits place (b ∷ (w ++ tail)) (literal_met limits place m (listing_of s) (literal_token limits.vars (b ∷ w)))))) (sym n)
    ∙ begun-turned whole limits place after s Clause b w tail (literal_met limits place after (listing_of s) (literal_token limits.vars (b ∷ w))) n (met-at limits place after (listing_of s) (literal_token limits.vars (b ∷ w)))))

-- the first token of a parity leads to its end
first-at : (limits : LimitNumbers) (place after : ℕ) (l : Listing) (w : List ℕ) → IsAt after (first_met limits place after l w)
unfolding first_met
first-at limits place after l [] = refl
first-at limits place after l (b ∷ bs) = met-at limits place after l (literal_token limits.vars (b ∷ bs))

-- A token that is judged opens a parity.
pub between-parity : (whole : Bool) (limits : LimitNumbers) (place after : ℕ) (s : Sofar) (w tail : List ℕ) → IsSolid w → IsApart tail → whole || is_there tail ≡ true
    → after ≡ place + length (120 ∷ w)
    → reading_from whole limits place s (120 ∷ (w ++ tail)) ≡ after_turn whole limits after s.commands parity_of tail (first_met limits place after (listing_of s) w)
unfolding opened opening is_blank
between-parity whole limits place after s w tail h t k n =
    between-opened whole limits place s 120 w tail (refl, h) refl refl t k
    ∙ (ap (λ m. on whole limits place (w ++ tail) (list_turn s parity_of (begun whole limits place (120 ∷ (w ++ tail)) (first_met limits place m (listing_of s) w)))) (sym n)
    ∙ begun-turned whole limits place after s parity_of 120 w tail (first_met limits place after (listing_of s) w) n (first-at limits place after (listing_of s) w))

-- A token that is judged opens a header.
pub between-header : (whole : Bool) (limits : LimitNumbers) (place after : ℕ) (s : Sofar) (b : ℕ) (w tail : List ℕ) → IsSolid (b ∷ w) → nat_eq b 99 ≡ false → nat_eq b 37 ≡ false
    → IsApart tail → whole || is_there tail ≡ true
    → after ≡ place + length (b ∷ w) → opening (b ∷ w) ≡ OpensHeader
    → reading_from whole limits place s (b ∷ (w ++ tail)) ≡ headed whole limits after s tail (header whole limits after after Format tail)
unfolding opened header headed
between-header whole limits place after s b w tail h c p t k n o =
    between-opened whole limits place s b w tail h c p t k
    ∙ (ap (λ x. on whole limits place (w ++ tail) (opened whole limits place s (b ∷ w) (b ∷ (w ++ tail)) x)) o
    ∙ (ap (λ r. on whole limits place (w ++ tail) (header_turned s r)) passed ∙ go (walk (header_turn whole limits) (header_end whole) after after Format tail) (header-beyond whole limits tail after after Format)))
  where
    passed : walk (header_turn whole limits) (header_end whole) (place + length (b ∷ w)) place Format (b ∷ (w ++ tail)) ≡ walk (header_turn whole limits) (header_end whole) after after Format tail
    passed = walk-skips (header_turn whole limits) (header_end whole) (b ∷ w) (place + length (b ∷ w)) place Format tail (omega arith)
        ∙ (ap (λ q. walk (header_turn whole limits) (header_end whole) q (place + length (b ∷ w)) Format tail) (sym n) ∙ ap (λ q. walk (header_turn whole limits) (header_end whole) after q Format tail) (sym n))

    go : (r : Header) → IsHeadBeyond after r → on whole limits place (w ++ tail) (header_turned s r) ≡ headed whole limits after s tail r
    go (Headed vars last) h = on-past whole limits place after last (with_header s.commands s.named s.count vars) w tail (omega arith) (omega arith)
    go (NoHeader end) h = refl

-- what follows a comment that is judged
abbrev pub after_said : Bool → LimitNumbers → ℕ → Sofar → List ℕ → Said → Reading
after_said whole limits after s tail Skips = reading_from whole limits after s tail
after_said whole limits after s tail (Says command named count) = reading_from whole limits after (record { commands = s.commands ++ command ∷ []; named = named; count = count }) tail
after_said whole limits after s tail (Refuses why) = record { commands = s.commands; end = Refused why }

-- A comment that is judged.
pub between-comment : (whole : Bool) (limits : LimitNumbers) (place after : ℕ) (s : Sofar) (w tail : List ℕ) → IsInLine w → IsLineEnd tail → whole || is_there tail ≡ true
    → after ≡ place + length (99 ∷ w)
    → reading_from whole limits place s (99 ∷ (w ++ tail)) ≡ after_said whole limits after s tail (said limits after (is_there tail) s.named s.count (kind (99 ∷ w)))
unfolding reading_from phrase comment_turn is_line_judged is_blank
between-comment whole limits place after s w tail h t k n =
    walk-met (phrase whole limits) (text_end whole) place place s 99 (w ++ tail) (omega arith) refl
    ∙ (ap (on whole limits place (w ++ tail)) (elim_true (whole || is_there (after_line (99 ∷ (w ++ tail)))) _ (ends_with s Open) judged
    ∙ (ap (λ v. said_turn (place + length v) s (said limits (place + length v) (is_there (after_line (99 ∷ (w ++ tail)))) s.named s.count (kind v))) (line-whole (99 ∷ w) tail (refl, h) t)
    ∙ (ap (λ v. said_turn (place + length (99 ∷ w)) s (said limits (place + length (99 ∷ w)) (is_there v) s.named s.count (kind (99 ∷ w)))) (after_line-whole (99 ∷ w) tail (refl, h) t)
    ∙ ap (λ p. said_turn p s (said limits p (is_there tail) s.named s.count (kind (99 ∷ w)))) (sym n))))
    ∙ go (said limits after (is_there tail) s.named s.count (kind (99 ∷ w))))
  where
    judged : whole || is_there (after_line (99 ∷ (w ++ tail))) ≡ true
    judged = rw (after_line-whole (99 ∷ w) tail (refl, h) t) k

    go : (x : Said) → on whole limits place (w ++ tail) (said_turn after s x) ≡ after_said whole limits after s tail x
    go Skips = on-past whole limits place after after s w tail (omega arith) (omega arith)
    go (Says command named count) = on-past whole limits place after after (record { commands = s.commands ++ command ∷ []; named = named; count = count }) w tail (omega arith) (omega arith)
    go (Refuses why) = refl

-- A `%`.
pub between-percent : (whole : Bool) (limits : LimitNumbers) (place : ℕ) (s : Sofar) (tail : List ℕ) → reading_from whole limits place s (37 ∷ tail) ≡ record { commands = s.commands; end = Ended }
unfolding reading_from phrase is_blank
between-percent whole limits place s tail = walk-met (phrase whole limits) (text_end whole) place place s 37 tail (omega arith) refl

-- A blank.
pub between-blank : (whole : Bool) (limits : LimitNumbers) (place : ℕ) (s : Sofar) (b : ℕ) (tail : List ℕ) → is_blank b ≡ true
    → reading_from whole limits place s (b ∷ tail) ≡ reading_from whole limits (suc place) s tail
unfolding reading_from
between-blank whole limits place s b tail h = walk-past_blank (phrase whole limits) (text_end whole) place s b tail h
