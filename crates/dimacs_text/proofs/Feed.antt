-- The state stands for the text so far, byte by byte.
use Rattle.std.proofs.Common.{◌≡◌, ℕ, suc, ◌+◌, ◌-◌, ◌<◌, ◌≤◌, Bool, true, false, List, [], ◌∷◌, ◌++◌, length, take, nat_le, refl, sym, ◌∙◌, ap, append_assoc, append-nil, length-append, arith}
use Rattle.std.proofs.Math.Seq.{take-append-add, take-append_seam}
use Rattle.std.proofs.lemmas.Bool.{leb-true}
use Rattle.sat_lits.specs.Limits.{LimitNumbers}
use Rattle.dimacs_text.specs.Walk.{is_blank}
use Rattle.dimacs_text.specs.Words.{word_after}
use Rattle.dimacs_text.specs.Phrases.{in_list, in_header}
use Rattle.dimacs_text.specs.CommentSteps.{in_comment}
use Rattle.dimacs_text.specs.Lists.{Refused, Open, Listing, parity_of}
use Rattle.dimacs_text.specs.Grammar.{Reading, read, reading_of, front_reading, cut_off}
use Rattle.dimacs_text.specs.Steps.{Step, Goes, Ends, Fails, comment_byte, past_blank}
use Rattle.dimacs_text.specs.Stands.{IsComment, IsWord, HoldsWord, Holds, Stands, rest_at, sofar, listing_in}
use Rattle.dimacs_text.specs.Reads.{IsSettled}
use Rattle.dimacs_text.specs.declared.token.Word.TheVariants.{Empty}
use Rattle.dimacs_text.specs.declared.state.Stage.TheVariants.{Ended as IsEnded}
use Rattle.dimacs_text.specs.declared.phrase.Phrase.{Phrase}
use Rattle.dimacs_text.specs.declared.phrase.Phrase.TheVariants.{Nothing, Clause as InClause, Parity as InParity, Header as InHeader}
use Rattle.dimacs_text.specs.declared.state.State.{State}
use Rattle.dimacs_text.specs.declared.command.Command.{Command}
use Rattle.dimacs_text.specs.declared.command.Command.TheVariants.{Clause}
use Rattle.dimacs_text.specs.declared.refusal.Refusal.TheVariants.{TooLong}
use Rattle.dimacs_text.specs.declared.comment.Comment.{Comment}
use Rattle.dimacs_text.specs.declared.comment.Comment.TheVariants.{Absent, First, Gap, Front, SolveName, GrowthName, Solving, Growing, Skipped}
use Rattle.dimacs_text.proofs.Literals.{list-blank, header-blank}
use Rattle.dimacs_text.proofs.Between.{between-blank}
use Rattle.dimacs_text.proofs.Leads.{Leads}
use Rattle.dimacs_text.proofs.Opens.{list-open_end, list-open, list-open_comment, header-open_end, header-open, between-open_end, between-open, between-open_comment}

-- a word that has begun is not judged at the end of a front of a text
word-open : (limits : LimitNumbers) (place : ℕ) (commands : List Command) (p : Phrase) (l : Listing) (held : List ℕ) → IsWord p held → rest_at false limits place commands p l held ≡ record { commands = commands; end = Open }
unfolding rest_at
word-open limits place commands Nothing l [] s = between-open_end limits place (sofar commands l)
word-open limits place commands InClause l [] s = list-open_end limits place commands Clause l
word-open limits place commands InParity l [] s = list-open_end limits place commands parity_of l
word-open limits place commands (InHeader wanted) l [] s = header-open_end limits place (sofar commands l) wanted
word-open limits place commands Nothing l (b ∷ w) s = between-open limits place (sofar commands l) b w (s.0, s.1) s.2.0 s.2.1
word-open limits place commands InClause l (b ∷ w) s = list-open limits place commands Clause l b w (s.0, s.1) s.2.0 s.2.1
word-open limits place commands InParity l (b ∷ w) s = list-open limits place commands parity_of l b w (s.0, s.1) s.2.0 s.2.1
word-open limits place commands (InHeader wanted) l (b ∷ w) s = header-open limits place (sofar commands l) wanted b w s

-- nor is a comment
comment-open : (limits : LimitNumbers) (place : ℕ) (commands : List Command) (p : Phrase) (l : Listing) (held : List ℕ) → in_header p ≡ false → IsComment held → rest_at false limits place commands p l held ≡ record { commands = commands; end = Open }
unfolding rest_at
comment-open limits place commands p l [] i s = absurd s
comment-open limits place commands Nothing l (b ∷ w) i s = rw (s.0) (between-open_comment limits place (sofar commands l) w s.1)
comment-open limits place commands InClause l (b ∷ w) i s = rw (s.0) (list-open_comment limits place commands Clause l w s.1)
comment-open limits place commands InParity l (b ∷ w) i s = rw (s.0) (list-open_comment limits place commands parity_of l w s.1)
comment-open limits place commands (InHeader wanted) l (b ∷ w) i s = cc

-- What is behind the front that has come isn't judged: the front alone has these commands, and more may come.
pub stands-open : (text : List ℕ) (commands : List Command) (st : State) → Stands text commands st → read false st.limits text ≡ record { commands = commands; end = Open }
unfolding is_blank
stands-open text commands st stands = ap (read false st.limits) stands.is_text ∙ (stands.rest false stands.held ∙ go (in_comment st.comment) stands.holds)
  where
    by_x : (x : Bool) → HoldsWord x st stands.held → rest_at false st.limits st.start commands st.phrase (listing_in st) stands.held ≡ record { commands = commands; end = Open }
    by_x false h = word-open st.limits st.start commands st.phrase (listing_in st) stands.held h.0
    by_x true h =
        let q : rest_at false st.limits st.start commands Nothing (listing_in st) (120 ∷ h.0) ≡ record { commands = commands; end = Open } = unfold rest_at in between-open st.limits st.start (sofar commands (listing_in st)) 120 h.0 (refl, h.2) refl refl in
        ap (rest_at false st.limits st.start commands st.phrase (listing_in st)) h.1 ∙ (ap (λ m. rest_at false st.limits st.start commands m (listing_in st) (120 ∷ h.0)) h.4 ∙ q)

    go : (c : Bool) → Holds c st stands.held → rest_at false st.limits st.start commands st.phrase (listing_in st) stands.held ≡ record { commands = commands; end = Open }
    go true h = comment-open st.limits st.start commands st.phrase (listing_in st) stands.held h.no_header h.comment
    go false h = by_x st.after_x h

-- a front of a text within the limit, of a longer one that is cut at the limit
pub cut-front : (limits : LimitNumbers) (front more : List ℕ) → length front ≤ limits.input → take limits.input (front ++ more) ≡ front ++ take (limits.input - length front) more
cut-front limits front more l =
    let e : limits.input ≡ length front + (limits.input - length front) = omega arith in
    ap (λ n. take n (front ++ more)) e ∙ take-append-add front more (limits.input - length front)

-- what holds of a front of a text, whatever follows, holds of its bytes within the limit
pub settles-front : (limits : LimitNumbers) (front more : List ℕ) (r : Reading) → length front ≤ limits.input → ((whole : Bool) (tail : List ℕ) → read whole limits (front ++ tail) ≡ r)
    → front_reading limits (front ++ more) ≡ r
unfolding front_reading
settles-front limits front more r l h = ap (read false limits) (cut-front limits front more l) ∙ h false (take (limits.input - length front) more)

-- a front of a text that settles it, whatever follows
pub settles : (limits : LimitNumbers) (front more : List ℕ) (r : Reading) → length front ≤ limits.input → cut_off limits r r.end ≡ r
    → ((whole : Bool) (tail : List ℕ) → read whole limits (front ++ tail) ≡ r) → reading_of limits (front ++ more) ≡ r
unfolding reading_of
settles limits front more r l same h = go (nat_le (length (front ++ more)) limits.input)
  where
    go : (v : Bool) → ◌≡◌ {A = Reading} (elim v [ true ↦ read true limits (front ++ more) | false ↦ cut_off limits (front_reading limits (front ++ more)) (front_reading limits (front ++ more)).end ]) r
    go true = h true more
    go false = ap (λ x. cut_off limits x x.end) (settles-front limits front more r l h) ∙ same

-- what a step makes of a text, with the byte that came
abbrev pub Follows : State → List ℕ → List Command → Step → Type 0
Follows old text commands (Goes s cs) = Stands text (commands ++ cs) s × (s.limits ≡ old.limits) × (s.stage ≡ old.stage)
Follows old text commands (Ends s cs) = IsSettled old.limits text (commands ++ cs) × (s.limits ≡ old.limits) × (s.stage ≡ IsEnded)
Follows old text commands (Fails r cs) = (more : List ℕ) → reading_of old.limits (text ++ more) ≡ record { commands = commands ++ cs; end = Refused r }

-- A byte past the limit.
pub long_follows : (text : List ℕ) (commands : List Command) (st : State) (b : ℕ) → Stands text commands st → st.limits.input ≤ st.place
    → Follows st (text ++ b ∷ []) commands (Fails (TooLong st.limits.input) [])
unfolding reading_of front_reading
long_follows text commands st b stands l more = go (nat_le (length (text ++ b ∷ [] ++ more)) st.limits.input) refl
  where
    cut : take st.limits.input (text ++ b ∷ [] ++ more) ≡ text
    cut = let e : st.limits.input ≡ length text = omega (arith, stands.taken, stands.fits) in
        ap (λ t. take st.limits.input t) (append_assoc text (b ∷ []) more) ∙ (ap (λ n. take n (text ++ b ∷ more)) e ∙ take-append_seam text (b ∷ more))

    short : read false st.limits (take st.limits.input (text ++ b ∷ [] ++ more)) ≡ record { commands = commands; end = Open }
    short = ap (read false st.limits) cut ∙ stands-open text commands st stands

    go : (v : Bool) → nat_le (length (text ++ b ∷ [] ++ more)) st.limits.input ≡ v → ◌≡◌ {A = Reading} (elim v [
      | true ↦ read true st.limits (text ++ b ∷ [] ++ more)
      | false ↦ cut_off st.limits (read false st.limits (take st.limits.input (text ++ b ∷ [] ++ more))) (read false st.limits (take st.limits.input (text ++ b ∷ [] ++ more))).end
    ]) (record { commands = commands ++ []; end = Refused (TooLong st.limits.input) })
    go true e = absurd (omega (arith, leb-true _ _ e, stands.taken, length-append (text ++ b ∷ []) more, length-append text (b ∷ [])))
    go false e = rw append-nil (ap (λ x. cut_off st.limits x x.end) short)

-- a blank is passed, whatever is open
pub rest-blank : (whole : Bool) (limits : LimitNumbers) (place : ℕ) (commands : List Command) (p : Phrase) (l : Listing) (b : ℕ) (tail : List ℕ) → is_blank b ≡ true
    → rest_at whole limits place commands p l (b ∷ tail) ≡ rest_at whole limits (suc place) commands p l tail
unfolding rest_at
rest-blank whole limits place commands Nothing l b tail h = between-blank whole limits place (sofar commands l) b tail h
rest-blank whole limits place commands InClause l b tail h = list-blank whole limits place commands Clause l b tail h
rest-blank whole limits place commands InParity l b tail h = list-blank whole limits place commands parity_of l b tail h
rest-blank whole limits place commands (InHeader wanted) l b tail h = header-blank whole limits place (sofar commands l) wanted b tail h

-- a byte in the line of a comment leaves the rest of the state as it is
abbrev pub IsSame : State → State → Type 0
IsSame old s = (s.place ≡ suc old.place) × (s.start ≡ old.start) × (s.limits ≡ old.limits) × (s.stage ≡ old.stage) × (s.phrase ≡ old.phrase) × (listing_in s ≡ listing_in old)

-- so each byte of a comment
pub comment_same : (st : State) (b : ℕ) (c : Comment) → IsSame st (comment_byte st b c)
unfolding comment_byte
comment_same st b Absent = (refl, refl, refl, refl, refl, refl)
comment_same st b First = (refl, refl, refl, refl, refl, refl)
comment_same st b Gap = (refl, refl, refl, refl, refl, refl)
comment_same st b (Front count) = (refl, refl, refl, refl, refl, refl)
comment_same st b (SolveName count) = (refl, refl, refl, refl, refl, refl)
comment_same st b (GrowthName count) = (refl, refl, refl, refl, refl, refl)
comment_same st b Solving = (refl, refl, refl, refl, refl, refl)
comment_same st b Growing = (refl, refl, refl, refl, refl, refl)
comment_same st b Skipped = (refl, refl, refl, refl, refl, refl)

-- what the end of a token or of a comment leaves
abbrev pub Leaves : State → Step → Type 0
Leaves old (Goes s cs) = (s.limits ≡ old.limits) × (s.stage ≡ old.stage) × (s.word ≡ Empty) × (s.after_x ≡ false) × (s.comment ≡ Absent) × (in_list s.phrase ≡ false → s.lits ≡ [])
Leaves old (Ends s cs) = Unit {0}
Leaves old (Fails r cs) = Unit {0}

-- A blank or a line's end, behind a token, a comment or nothing.
pub blank_follows : (text : List ℕ) (commands : List Command) (st : State) (b : ℕ) → Stands text commands st → is_blank b ≡ true → st.place < st.limits.input → (step : Step)
    → ((whole : Bool) (tail : List ℕ) → Leads whole st.limits st.place (b ∷ tail) commands (read whole st.limits (text ++ b ∷ tail)) step) → Leaves st step
    → Follows st (text ++ b ∷ []) commands (past_blank st.place step)
unfolding word_after
blank_follows text commands st b stands h l (Goes s cs) leads left = (
  record {
    done = text ++ b ∷ [];
    held = [];
    is_text = sym (append-nil (text ++ b ∷ []));
    holds = rw (left.4, left.3) (tt, left.2);
    place = omega arith;
    taken = omega (arith, stands.taken, length-append text (b ∷ []));
    fits = rw (left.0) (omega arith);
    fresh = left.5;
    rest = λ whole tail. rw (append_assoc, left.0) (leads whole tail ∙ rest-blank whole st.limits st.place (commands ++ cs) s.phrase (listing_in s) b tail h);
  },
  left.0,
  left.1,
)
blank_follows text commands st b stands h l (Ends s cs) leads left = absurd (leads true [])
blank_follows text commands st b stands h l (Fails r cs) leads left = λ more.
    settles st.limits (text ++ b ∷ []) more (record { commands = commands ++ cs; end = Refused r }) (omega (arith, stands.taken, length-append text (b ∷ []))) refl (λ whole tail. ap (read whole st.limits) (append_assoc text (b ∷ []) tail) ∙ leads whole tail)
