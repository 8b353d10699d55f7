-- The commands so far are a front of the commands of the whole, whatever follows.
use Rattle.std.proofs.Common.{◌≡◌, ℕ, ◌+◌, ◌-◌, ◌≤◌, Bool, true, false, List, [], ◌∷◌, ◌++◌, length, take, nat_le, nat_eq, refl, sym, ◌∙◌, ap, subst, append_assoc, append-nil, arith}
use Rattle.sat_lits.specs.Limits.{LimitNumbers}
use Rattle.sat_lits.specs.declared.literal.Lit.{Lit}
use Rattle.dimacs_text.specs.Walk.{word, Turn, Next, Stop, turned, walk}
use Rattle.dimacs_text.specs.Tokens.{literal_token, is_judged, is_there}
use Rattle.dimacs_text.specs.Comments.{line, after_line, is_line_judged, kind}
use Rattle.dimacs_text.specs.Lists.{End, Ended, Refused, Open, Listing, Literals, Listed, Broken, literal_met, literals, parity_of, Said, Skips, Says, Refuses, said}
use Rattle.dimacs_text.specs.Headers.{Header, Headed, NoHeader, header}
use Rattle.dimacs_text.specs.Grammar.{Reading, Sofar, read, reading_of, front_reading, cut_off, ends_with, with_list, with_header, list_turn, listing_of, begun, first_met, header_turned, said_turn, comment_turn, Opening, OpensHeader, OpensParity, OpensClause, opening, opened, token_phrase, phrase, text_end, reading_from}
use Rattle.dimacs_text.specs.Stands.{Stands, rest_at, closed, headed, sofar, listing_in}
use Rattle.dimacs_text.specs.declared.phrase.Phrase.{Phrase}
use Rattle.dimacs_text.specs.declared.phrase.Phrase.TheVariants.{Nothing, Clause as InClause, Parity as InParity, Header as InHeader}
use Rattle.dimacs_text.specs.declared.phrase.Wanted.TheVariants.{Format}
use Rattle.dimacs_text.specs.declared.state.State.{State}
use Rattle.dimacs_text.specs.declared.command.Command.{Command}
use Rattle.dimacs_text.specs.declared.command.Command.TheVariants.{Clause}
use Rattle.dimacs_text.proofs.Walks.{walk-keeps}
use Rattle.dimacs_text.proofs.Leads.{again}
use Rattle.dimacs_text.proofs.Feed.{cut-front}

-- a list begins with another
abbrev pub IsFront : List Command → List Command → Type 0
IsFront xs ys = (zs : List Command) × (ys ≡ xs ++ zs)

-- each list begins with itself
front_same : (xs : List Command) → IsFront xs xs
front_same xs = ([], sym (append-nil xs))

-- what begins with a list that begins with another begins with that
front_then : (xs ys zs : List Command) → IsFront xs ys → IsFront ys zs → IsFront xs zs
front_then xs ys zs h k = (h.0 ++ k.0, k.1 ∙ (ap (λ t. t ++ k.0) h.1 ∙ append_assoc xs h.0 k.0))

-- a phrase leaves the commands before it
abbrev IsOnward : Sofar → Turn Sofar Reading → Type 0
IsOnward s (Next place s') = IsFront s.commands s'.commands
IsOnward s (Stop r) = IsFront s.commands r.commands

-- a list
list-onward : (s : Sofar) (make : List Lit → Command) (r : Literals) → IsOnward s (list_turn s make r)
list-onward s make (Listed l after) = (make l.lits ∷ [], refl)
list-onward s make (Broken end) = front_same s.commands

-- a header
header-onward : (s : Sofar) (r : Header) → IsOnward s (header_turned s r)
header-onward s (Headed vars after) = ((with_header [] s.named s.count vars).commands, refl)
header-onward s (NoHeader end) = front_same s.commands

-- a comment
said-onward : (end : ℕ) (s : Sofar) (x : Said) → IsOnward s (said_turn end s x)
said-onward end s Skips = front_same s.commands
said-onward end s (Says command named count) = (command ∷ [], refl)
said-onward end s (Refuses why) = front_same s.commands

-- what a token opens
opened-onward : (whole : Bool) (limits : LimitNumbers) (place : ℕ) (s : Sofar) (token text : List ℕ) (o : Opening) → IsOnward s (opened whole limits place s token text o)
unfolding opened
opened-onward whole limits place s token text OpensHeader = header-onward s (header whole limits (place + length token) place Format text)
opened-onward whole limits place s token text (OpensParity bs) = list-onward s parity_of (begun whole limits place text (first_met limits place (place + length token) (listing_of s) bs))
opened-onward whole limits place s token text OpensClause =
    list-onward s Clause (begun whole limits place text (literal_met limits place (place + length token) (listing_of s) (literal_token limits.vars token)))

-- a choice of what a phrase leads to
onward_choice : (v : Bool) (s : Sofar) (x y : Turn Sofar Reading) → IsOnward s x → IsOnward s y → IsOnward s (elim v [ true ↦ x | false ↦ y ])
onward_choice true s x y p q = p
onward_choice false s x y p q = q

-- a comment that is judged or not
comment-onward : (whole : Bool) (limits : LimitNumbers) (place : ℕ) (s : Sofar) (text : List ℕ) → IsOnward s (comment_turn whole limits place s text)
unfolding comment_turn
comment-onward whole limits place s text =
    let end : ℕ = place + length (line text) in
    onward_choice (is_line_judged whole text) s _ (ends_with s Open) (said-onward end s (said limits end (is_there (after_line text)) s.named s.count (kind (line text)))) (front_same s.commands)

-- a phrase
phrase-onward : (whole : Bool) (limits : LimitNumbers) (place : ℕ) (s : Sofar) (text : List ℕ) → IsOnward s (phrase whole limits place s text)
unfolding phrase token_phrase
phrase-onward whole limits place s [] = front_same s.commands
phrase-onward whole limits place s (b ∷ bs) =
    onward_choice (nat_eq b 99) s (comment_turn whole limits place s (b ∷ bs)) _ (comment-onward whole limits place s (b ∷ bs))
    (onward_choice (nat_eq b 37) s (ends_with s Ended) _ (front_same s.commands)
    (onward_choice (is_judged whole (b ∷ bs)) s (opened whole limits place s (word (b ∷ bs)) (b ∷ bs) (opening (word (b ∷ bs)))) (ends_with s Open)
    (opened-onward whole limits place s (word (b ∷ bs)) (b ∷ bs) (opening (word (b ∷ bs)))) (front_same s.commands)))

-- the commands so far are a front of those that a walk ends with
walk-front : (whole : Bool) (limits : LimitNumbers) (text : List ℕ) (next place : ℕ) (s : Sofar) → IsFront s.commands (walk (phrase whole limits) (text_end whole) next place s text).commands
unfolding text_end
walk-front whole limits text next place s =
    walk-keeps (phrase whole limits) (text_end whole) (λ a r. IsFront a.commands r.commands) (at_end whole) (λ p a t on h. onward a (phrase whole limits p a t) (phrase-onward whole limits p a t) on h) text next place s
  where
    at_end : (v : Bool) (p : ℕ) (a : Sofar) → IsFront a.commands (text_end v p a).commands
    at_end true p a = front_same a.commands
    at_end false p a = front_same a.commands

    onward : (a : Sofar) (t : Turn Sofar Reading) → IsOnward a t → (on : ℕ → Sofar → Reading) → ((n : ℕ) (a' : Sofar) → IsFront a'.commands (on n a').commands)
        → IsFront a.commands (turned t on).commands
    onward a (Next n a') h on k = front_then a.commands a'.commands (on n a').commands h (k n a')
    onward a (Stop r) h on k = h

-- so behind a list
closed-front : (whole : Bool) (limits : LimitNumbers) (place : ℕ) (commands : List Command) (make : List Lit → Command) (text : List ℕ) (r : Literals)
    → IsFront commands (closed whole limits place commands make text r).commands
unfolding closed
closed-front whole limits place commands make text (Listed l after) =
    front_then commands (commands ++ make l.lits ∷ []) _ (make l.lits ∷ [], refl) (walk-front whole limits text after place (with_list commands make l))
closed-front whole limits place commands make text (Broken end) = front_same commands

-- and behind a header
headed-front : (whole : Bool) (limits : LimitNumbers) (place : ℕ) (s : Sofar) (text : List ℕ) (r : Header) → IsFront s.commands (headed whole limits place s text r).commands
unfolding headed
headed-front whole limits place s text (Headed vars after) =
    let t : Sofar = with_header s.commands s.named s.count vars in
    front_then s.commands t.commands _ (header-onward s (Headed vars after)) (walk-front whole limits text after place t)
headed-front whole limits place s text (NoHeader end) = front_same s.commands

-- the commands so far are a front of those of the rest
rest-front : (whole : Bool) (limits : LimitNumbers) (place : ℕ) (commands : List Command) (p : Phrase) (l : Listing) (text : List ℕ)
    → IsFront commands (rest_at whole limits place commands p l text).commands
unfolding rest_at reading_from
rest-front whole limits place commands Nothing l text = walk-front whole limits text place place (sofar commands l)
rest-front whole limits place commands InClause l text = closed-front whole limits place commands Clause text (literals whole limits place place l text)
rest-front whole limits place commands InParity l text = closed-front whole limits place commands parity_of text (literals whole limits place place l text)
rest-front whole limits place commands (InHeader wanted) l text = headed-front whole limits place (sofar commands l) text (header whole limits place place wanted text)

-- The commands that a reader gave are a front of those of the text, however it goes on.
pub stands-begins : (text more : List ℕ) (commands : List Command) (st : State) → Stands text commands st → IsFront commands (reading_of st.limits (text ++ more)).commands
unfolding reading_of front_reading
stands-begins text more commands st stands = go (nat_le (length (text ++ more)) st.limits.input)
  where
    reads : (whole : Bool) (tail : List ℕ) → IsFront commands (read whole st.limits (text ++ tail)).commands
    reads whole tail =
        let F : Reading → Type 0 = λ r. IsFront commands r.commands in
        subst F (sym (again text commands st stands whole tail stands.held stands.is_text)) (rest-front whole st.limits st.start commands st.phrase (listing_in st) (stands.held ++ tail))

    cut : (r : Reading) (e : End) → IsFront commands r.commands → IsFront commands (cut_off st.limits r e).commands
    cut r Ended h = h
    cut r (Refused x) h = h
    cut r Open h = h

    within : length text ≤ st.limits.input
    within = omega (arith, stands.taken, stands.fits)

    short : IsFront commands (read false st.limits (take st.limits.input (text ++ more))).commands
    short =
        let F : List ℕ → Type 0 = λ t. IsFront commands (read false st.limits t).commands in subst F (sym (cut-front st.limits text more within)) (reads false (take (st.limits.input - length text) more))

    go : (v : Bool) → IsFront commands (elim v as (λ _. Reading) [ true ↦ read true st.limits (text ++ more) | false ↦ cut_off st.limits (read false st.limits (take st.limits.input (text ++ more))) (read false st.limits (take st.limits.input (text ++ more))).end ]).commands
    go true = reads true more
    go false = cut (read false st.limits (take st.limits.input (text ++ more))) _ short
