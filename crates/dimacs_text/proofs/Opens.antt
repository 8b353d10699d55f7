-- What is not judged at the end of a front of a text leaves it open.
use Rattle.std.proofs.Common.{◌≡◌, ℕ, false, List, [], ◌∷◌, nat_eq, refl, sym, ◌∙◌, ap, append-nil}
use Rattle.sat_lits.specs.Limits.{LimitNumbers}
use Rattle.sat_lits.specs.declared.literal.Lit.{Lit}
use Rattle.dimacs_text.specs.Walk.{is_blank, after_word, Stop, walk}
use Rattle.dimacs_text.specs.Tokens.{is_judged, is_there}
use Rattle.dimacs_text.specs.Comments.{after_line, is_line_judged}
use Rattle.dimacs_text.specs.Lists.{Ended, Open, Listing, Broken, token_turn, comment_in_list, literal_turn, literals_end, literals}
use Rattle.dimacs_text.specs.Headers.{NoHeader, header_turn, header_end, header}
use Rattle.dimacs_text.specs.Grammar.{Sofar, ends_with, comment_turn, token_phrase, phrase, text_end, reading_from}
use Rattle.dimacs_text.specs.Stands.{IsSolid, IsInLine, closed, headed}
use Rattle.dimacs_text.specs.declared.phrase.Wanted.{Wanted}
use Rattle.dimacs_text.specs.declared.command.Command.{Command}
use Rattle.dimacs_text.proofs.Walks.{elim_false, after_word-solid, walk-stop}
use Rattle.dimacs_text.proofs.Lines.{after_line-whole}
use Rattle.dimacs_text.proofs.Literals.{list_rest, turn-token}

-- nothing is behind a token that the text ends with
no_blank : (w : List ℕ) → IsSolid w → is_there (after_word w) ≡ false
no_blank w s = ap is_there (ap after_word (sym (append-nil w)) ∙ after_word-solid w [] s tt)

-- nor behind a line
no_line_end : (w : List ℕ) → IsInLine w → is_there (after_line w) ≡ false
no_line_end w s = ap is_there (ap after_line (sym (append-nil w)) ∙ after_line-whole w [] s tt)

-- nothing follows in a list
pub list-open_end : (limits : LimitNumbers) (place : ℕ) (commands : List Command) (make : List Lit → Command) (l : Listing) → list_rest false limits place commands make l [] ≡ record { commands = commands; end = Open }
unfolding closed literals walk literals_end
list-open_end limits place commands make l = refl

-- a token in a list that is not judged
pub list-open : (limits : LimitNumbers) (place : ℕ) (commands : List Command) (make : List Lit → Command) (l : Listing) (b : ℕ) (w : List ℕ) → IsSolid (b ∷ w) → nat_eq b 99 ≡ false
    → nat_eq b 37 ≡ false
    → list_rest false limits place commands make l (b ∷ w) ≡ record { commands = commands; end = Open }
unfolding closed literals token_turn is_judged
list-open limits place commands make l b w s c p =
    ap (closed false limits place commands make (b ∷ w)) (walk-stop (literal_turn false limits) (literals_end false) place l (Broken Open) b w s.0 (turn-token false limits place l b w c p ∙ elim_false (is_there (after_word (b ∷ w))) _ (Stop (Broken Open)) (no_blank (b ∷ w) s)))

-- a comment in a list that is not judged
pub list-open_comment : (limits : LimitNumbers) (place : ℕ) (commands : List Command) (make : List Lit → Command) (l : Listing) (w : List ℕ) → IsInLine w
    → list_rest false limits place commands make l (99 ∷ w) ≡ record { commands = commands; end = Open }
unfolding closed literals literal_turn comment_in_list is_line_judged is_blank
list-open_comment limits place commands make l w s =
    ap (closed false limits place commands make (99 ∷ w)) (walk-stop (literal_turn false limits) (literals_end false) place l (Broken Open) 99 w refl (elim_false (is_there (after_line (99 ∷ w))) _ (Stop (Broken Open)) (no_line_end (99 ∷ w) (refl, s))))

-- nothing follows in a header
pub header-open_end : (limits : LimitNumbers) (place : ℕ) (s : Sofar) (wanted : Wanted) → headed false limits place s [] (header false limits place place wanted []) ≡ record { commands = s.commands; end = Open }
unfolding headed header walk header_end
header-open_end limits place s wanted = refl

-- a token of a header that is not judged
pub header-open : (limits : LimitNumbers) (place : ℕ) (s : Sofar) (wanted : Wanted) (b : ℕ) (w : List ℕ) → IsSolid (b ∷ w)
    → headed false limits place s (b ∷ w) (header false limits place place wanted (b ∷ w)) ≡ record { commands = s.commands; end = Open }
unfolding headed header header_turn is_judged
header-open limits place s wanted b w h =
    ap (headed false limits place s (b ∷ w)) (walk-stop (header_turn false limits) (header_end false) place wanted (NoHeader Open) b w h.0 (elim_false (is_there (after_word (b ∷ w))) _ (Stop (NoHeader Open)) (no_blank (b ∷ w) h)))

-- nothing follows where nothing is open
pub between-open_end : (limits : LimitNumbers) (place : ℕ) (s : Sofar) → reading_from false limits place s [] ≡ record { commands = s.commands; end = Open }
unfolding reading_from walk text_end
between-open_end limits place s = refl

-- a token that is not judged, where nothing is open
pub between-open : (limits : LimitNumbers) (place : ℕ) (s : Sofar) (b : ℕ) (w : List ℕ) → IsSolid (b ∷ w) → nat_eq b 99 ≡ false → nat_eq b 37 ≡ false → reading_from false limits place s (b ∷ w) ≡ record { commands = s.commands; end = Open }
unfolding reading_from phrase token_phrase is_judged
between-open limits place s b w h c p =
    walk-stop (phrase false limits) (text_end false) place s (record { commands = s.commands; end = Open }) b w h.0
    (elim_false (nat_eq b 99) (comment_turn false limits place s (b ∷ w)) _ c ∙ (elim_false (nat_eq b 37) (ends_with s Ended) _ p ∙ elim_false (is_there (after_word (b ∷ w))) _ (ends_with s Open) (no_blank (b ∷ w) h)))

-- a comment that is not judged, where nothing is open
pub between-open_comment : (limits : LimitNumbers) (place : ℕ) (s : Sofar) (w : List ℕ) → IsInLine w → reading_from false limits place s (99 ∷ w) ≡ record { commands = s.commands; end = Open }
unfolding reading_from phrase comment_turn is_line_judged is_blank
between-open_comment limits place s w h =
    walk-stop (phrase false limits) (text_end false) place s (record { commands = s.commands; end = Open }) 99 w refl (elim_false (is_there (after_line (99 ∷ w))) _ (ends_with s Open) (no_line_end (99 ∷ w) (refl, h)))
