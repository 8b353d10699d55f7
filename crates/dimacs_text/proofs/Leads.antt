-- What the end of a token leads to.
use Rattle.std.proofs.Common.{◌≡◌, ℕ, suc, ◌+◌, max, Bool, true, false, ◌||◌, List, [], ◌∷◌, ◌++◌, Option, length, nat_lt, nat_le, nat_eq, refl, sym, ◌∙◌, ap, subst, append_assoc, append-nil, inl, inr, arith}
use Rattle.std.proofs.lemmas.Bool.{lt-leb}
use Rattle.sat_lits.specs.Limits.{LimitNumbers}
use Rattle.dimacs_text.specs.Walk.{is_blank, Next, Stop}
use Rattle.dimacs_text.specs.Tokens.{literal_token, is_there, number}
use Rattle.dimacs_text.specs.Words.{extended, word_after, token_of, number_of, is_p, is_format}
use Rattle.dimacs_text.specs.Phrases.{in_list, in_header}
use Rattle.dimacs_text.specs.Lists.{Refused, Listing, Broken, with_literal, literal_met, parity_of}
use Rattle.dimacs_text.specs.Headers.{NoHeader, variables_met, clauses_met, header_met}
use Rattle.dimacs_text.specs.Grammar.{Reading, read, reading_from, first_met, Opening, OpensHeader, OpensClause, opening}
use Rattle.dimacs_text.specs.Steps.{Step, Goes, Ends, Fails, made, listing_phrase, list_step, variables_by, clauses_by, header_step, phrase_word, plain_word, in_parity, word_step}
use Rattle.dimacs_text.specs.Stands.{IsSolid, IsWord, HoldsWord, Stands, rest_at, sofar, listing_in}
use Rattle.dimacs_text.specs.declared.token.Token.{Token}
use Rattle.dimacs_text.specs.declared.token.Token.TheVariants.{Ending, Literal, TooLarge, NoLiteral}
use Rattle.dimacs_text.specs.declared.token.Word.{Word}
use Rattle.dimacs_text.specs.declared.token.Word.TheVariants.{Empty, Minus, Digits, Cnf, P, NoNumber}
use Rattle.dimacs_text.specs.declared.phrase.Phrase.{Phrase}
use Rattle.dimacs_text.specs.declared.phrase.Phrase.TheVariants.{Nothing, Clause as InClause, Parity as InParity, Header as InHeader}
use Rattle.dimacs_text.specs.declared.phrase.Wanted.{Wanted}
use Rattle.dimacs_text.specs.declared.phrase.Wanted.TheVariants.{Format, Variables, Clauses}
use Rattle.dimacs_text.specs.declared.state.State.{State}
use Rattle.dimacs_text.specs.declared.command.Command.{Command}
use Rattle.dimacs_text.specs.declared.command.Command.TheVariants.{Clause}
use Rattle.dimacs_text.specs.declared.refusal.Refusal.TheVariants.{BadToken, VarTooLarge, TooManyLits}
use Rattle.dimacs_text.proofs.Walks.{IsApart, elim_false}
use Rattle.dimacs_text.proofs.Words.{literal_token-held, IsHeld, Neither, Both, number-held-of, opening-held, IsBegun, extended-begun, word_after-begun}
use Rattle.dimacs_text.proofs.Formats.{by_format, format-held}
use Rattle.dimacs_text.proofs.Literals.{list_rest, after_turn, list-token, after_header, header-token}
use Rattle.dimacs_text.proofs.Between.{between-clause, between-parity, between-header}

-- what a step says of the rest of a text, behind a front of it
abbrev pub Leads : Bool → LimitNumbers → ℕ → List ℕ → List Command → Reading → Step → Type 0
Leads whole limits after tail commands r (Goes s cs) = r ≡ rest_at whole limits after (commands ++ cs) s.phrase (listing_in s) tail
Leads whole limits after tail commands r (Ends s cs) = ⊥
Leads whole limits after tail commands r (Fails refusal cs) = r ≡ record { commands = commands ++ cs; end = Refused refusal }

-- an open list is read as its phrase says
list_phrase : (whole : Bool) (limits : LimitNumbers) (after : ℕ) (commands : List Command) (p : Phrase) (l : Listing) (tail : List ℕ) → in_header p ≡ false
    → rest_at whole limits after commands (listing_phrase p) l tail ≡ list_rest whole limits after commands (made p) l tail
unfolding rest_at
list_phrase whole limits after commands Nothing l tail h = refl
list_phrase whole limits after commands InClause l tail h = refl
list_phrase whole limits after commands InParity l tail h = refl
list_phrase whole limits after commands (InHeader wanted) l tail h = cc

-- the end of a token in a list
pub leads_list : (whole : Bool) (after : ℕ) (tail : List ℕ) (commands : List Command) (s : State) (t : Token) (r : Reading) → in_header s.phrase ≡ false
    → r ≡ after_turn whole s.limits after commands (made s.phrase) tail (literal_met s.limits s.start after (listing_in s) t) → Leads whole s.limits after tail commands r (list_step s t)
unfolding list_step literal_met
leads_list whole after tail commands s Ending r h e = unfold rest_at in e
leads_list whole after tail commands s (Literal lit) r h e = go (nat_lt s.count s.limits.lits) e
  where
    go : (v : Bool) → r ≡ after_turn whole s.limits after commands (made s.phrase) tail (elim v [ true ↦ Next after (with_literal (listing_in s) lit) | false ↦ Stop (Broken (Refused (TooManyLits s.start))) ])
        → Leads whole s.limits after tail commands r (elim v [
          | true ↦ Goes (record s { phrase = listing_phrase s.phrase; lits = s.lits ++ lit ∷ []; named = max s.named (suc lit.var.0); count = suc s.count; word = Empty }) []
          | false ↦ Fails (TooManyLits s.start) []
        ])
    go true q = rw append-nil (q ∙ sym (list_phrase whole s.limits after commands s.phrase (with_literal (listing_in s) lit) tail h))
    go false q = rw append-nil q
leads_list whole after tail commands s TooLarge r h e = rw append-nil e
leads_list whole after tail commands s NoLiteral r h e = rw append-nil e

-- the number of variables of a header
leads_variables : (whole : Bool) (after : ℕ) (tail : List ℕ) (commands : List Command) (s : State) (x y : Option ℕ) (r : Reading) → IsHeld s.limits.vars x y
    → r ≡ after_header whole s.limits after (sofar commands (listing_in s)) tail (variables_met s.limits s.start after x) → Leads whole s.limits after tail commands r (variables_by s y)
unfolding variables_met
leads_variables whole after tail commands s x y r Neither e = rw append-nil e
leads_variables whole after tail commands s x y r (Both n m (inl q)) e =
    go (nat_le m s.limits.vars) (e ∙ ap (λ k. after_header whole s.limits after (sofar commands (listing_in s)) tail (elim (nat_le k s.limits.vars) [ true ↦ Next after (Clauses k) | false ↦ Stop (NoHeader (Refused (VarTooLarge s.start))) ])) (sym q))
  where
    go : (v : Bool) → r ≡ after_header whole s.limits after (sofar commands (listing_in s)) tail (elim v [ true ↦ Next after (Clauses m) | false ↦ Stop (NoHeader (Refused (VarTooLarge s.start))) ])
        → Leads whole s.limits after tail commands r (elim v [ true ↦ Goes (record s { phrase = InHeader (Clauses m); word = Empty }) [] | false ↦ Fails (VarTooLarge s.start) [] ])
    go true h = rw append-nil (unfold rest_at in h)
    go false h = rw append-nil h
leads_variables whole after tail commands s x y r (Both n m (inr l)) e =
    let q : r ≡ record { commands = commands; end = Refused (VarTooLarge s.start) } = e ∙ ap (after_header whole s.limits after (sofar commands (listing_in s)) tail) (elim_false (nat_le n s.limits.vars) (Next after (Clauses n)) (Stop (NoHeader (Refused (VarTooLarge s.start)))) (lt-leb n s.limits.vars l.1)) in
    let F : Step → Type 0 = Leads whole s.limits after tail commands r in
    subst F (sym (elim_false (nat_le m s.limits.vars) (Goes (record s { phrase = InHeader (Clauses m); word = Empty }) []) (Fails (VarTooLarge s.start) []) (lt-leb m s.limits.vars l.0))) (rw append-nil q)

-- the number of clauses of a header
leads_clauses : (whole : Bool) (after : ℕ) (tail : List ℕ) (commands : List Command) (s : State) (vars : ℕ) (x y : Option ℕ) (r : Reading) → IsHeld s.limits.vars x y
    → r ≡ after_header whole s.limits after (sofar commands (listing_in s)) tail (clauses_met s.start after vars x) → Leads whole s.limits after tail commands r (clauses_by s vars y)
unfolding clauses_met
leads_clauses whole after tail commands s vars x y r Neither e = rw append-nil e
leads_clauses whole after tail commands s vars x y r (Both n m h) e = unfold rest_at in e

-- a token of a header
leads_header : (whole : Bool) (after : ℕ) (tail : List ℕ) (commands : List Command) (s : State) (wanted : Wanted) (b : ℕ) (w : List ℕ) (r : Reading)
    → r ≡ after_header whole s.limits after (sofar commands (listing_in s)) tail (header_met s.limits s.start after wanted (b ∷ w))
    → Leads whole s.limits after tail commands r (header_step s wanted (word_after s.limits.vars Empty (b ∷ w)))
unfolding header_met header_step
leads_header whole after tail commands s Format b w r e =
    go (is_format (word_after s.limits.vars Empty (b ∷ w))) (e ∙ ap (after_header whole s.limits after (sofar commands (listing_in s)) tail) (format-held s.limits.vars s.start after b w))
  where
    go : (v : Bool) → r ≡ after_header whole s.limits after (sofar commands (listing_in s)) tail (by_format s.limits.vars s.start after v)
        → Leads whole s.limits after tail commands r (elim v [ true ↦ Goes (record s { phrase = InHeader Variables; word = Empty }) [] | false ↦ Fails (BadToken s.start) [] ])
    go true h = rw append-nil (unfold rest_at in h)
    go false h = rw append-nil h
leads_header whole after tail commands s Variables b w r e =
    leads_variables whole after tail commands s (number (b ∷ w)) (number_of (word_after s.limits.vars Empty (b ∷ w))) r (number-held-of s.limits.vars b w) e
leads_header whole after tail commands s (Clauses vars) b w r e =
    leads_clauses whole after tail commands s vars (number (b ∷ w)) (number_of (word_after s.limits.vars Empty (b ∷ w))) r (number-held-of s.limits.vars b w) e

-- a token that opens a clause or a header
leads_opening : (whole : Bool) (after : ℕ) (tail : List ℕ) (commands : List Command) (s : State) (b : ℕ) (w : List ℕ) → IsWord Nothing (b ∷ w) → s.phrase ≡ Nothing → s.lits ≡ []
    → IsApart tail → whole || is_there tail ≡ true → after ≡ s.start + length (b ∷ w)
    → Leads whole s.limits after tail commands (reading_from whole s.limits s.start (sofar commands (listing_in s)) (b ∷ (w ++ tail))) (phrase_word s (word_after s.limits.vars Empty (b ∷ w)) Nothing)
leads_opening whole after tail commands s b w h p l t k n = go (is_p (word_after s.limits.vars Empty (b ∷ w))) (opening-held s.limits.vars b w h.3)
  where
    token : Token
    token = literal_token s.limits.vars (b ∷ w)

    go : (v : Bool) → ◌≡◌ {A = Opening} (opening (b ∷ w)) (elim v [ true ↦ OpensHeader | false ↦ OpensClause ])
        → Leads whole s.limits after tail commands (reading_from whole s.limits s.start (sofar commands (listing_in s)) (b ∷ (w ++ tail))) (elim v [
          | true ↦ Goes (record s { phrase = InHeader Format; word = Empty }) []
          | false ↦ list_step s (token_of s.limits.vars (word_after s.limits.vars Empty (b ∷ w)))
        ])
    go true o = rw append-nil (unfold rest_at in between-header whole s.limits s.start after (sofar commands (listing_in s)) b w tail (h.0, h.1) h.2.0 h.2.1 t k n o)
    go false o =
        let F : Step → Type 0 = Leads whole s.limits after tail commands (reading_from whole s.limits s.start (sofar commands (listing_in s)) (b ∷ (w ++ tail))) in
        let q = between-clause whole s.limits s.start after (sofar commands (listing_in s)) b w tail (h.0, h.1) h.2.0 h.2.1 t k n o in
        let x = ap (λ ls. after_turn whole s.limits after commands Clause tail (literal_met s.limits s.start after (record { lits = ls; named = s.named; count = s.count }) (literal_token s.limits.vars (b ∷ w)))) (sym l) in
        let y = ap (λ (m : Phrase). after_turn whole s.limits after commands (made m) tail (literal_met s.limits s.start after (listing_in s) (literal_token s.limits.vars (b ∷ w)))) (sym p) in
        let z : in_header s.phrase ≡ false = ap in_header p in
        subst F (ap (list_step s) (literal_token-held s.limits.vars b w)) (leads_list whole after tail commands s (literal_token s.limits.vars (b ∷ w)) _ z (q ∙ (x ∙ y)))

-- a token where a list is open
leads_listed : (whole : Bool) (after : ℕ) (tail : List ℕ) (commands : List Command) (s : State) (b : ℕ) (w : List ℕ) → is_blank b ≡ false → IsSolid w → nat_eq b 99 ≡ false
    → nat_eq b 37 ≡ false → in_header s.phrase ≡ false → IsApart tail → whole || is_there tail ≡ true → after ≡ s.start + length (b ∷ w)
    → Leads whole s.limits after tail commands (list_rest whole s.limits s.start commands (made s.phrase) (listing_in s) (b ∷ (w ++ tail))) (list_step s (token_of s.limits.vars (word_after s.limits.vars Empty (b ∷ w))))
leads_listed whole after tail commands s b w h i c q z t k n =
    let F : Step → Type 0 = Leads whole s.limits after tail commands (list_rest whole s.limits s.start commands (made s.phrase) (listing_in s) (b ∷ (w ++ tail))) in
    subst F (ap (list_step s) (literal_token-held s.limits.vars b w)) (leads_list whole after tail commands s (literal_token s.limits.vars (b ∷ w)) _ z (list-token whole s.limits s.start after commands (made s.phrase) (listing_in s) b w tail (h, i) c q t k n))

-- a token by what is open
leads_phrase : (whole : Bool) (after : ℕ) (tail : List ℕ) (commands : List Command) (s : State) (p : Phrase) (b : ℕ) (w : List ℕ) → s.phrase ≡ p → IsWord p (b ∷ w)
    → (in_list p ≡ false → s.lits ≡ []) → IsApart tail → whole || is_there tail ≡ true → after ≡ s.start + length (b ∷ w)
    → Leads whole s.limits after tail commands (rest_at whole s.limits s.start commands p (listing_in s) (b ∷ (w ++ tail))) (phrase_word s (word_after s.limits.vars Empty (b ∷ w)) p)
unfolding rest_at
leads_phrase whole after tail commands s Nothing b w p h f t k n = leads_opening whole after tail commands s b w h p (f refl) t k n
leads_phrase whole after tail commands s InClause b w p h f t k n =
    let F : Phrase → Type 0 = λ m. Leads whole s.limits after tail commands (list_rest whole s.limits s.start commands (made m) (listing_in s) (b ∷ (w ++ tail))) (list_step s (token_of s.limits.vars (word_after s.limits.vars Empty (b ∷ w)))) in
    subst F p (leads_listed whole after tail commands s b w h.0 h.1 h.2.0 h.2.1 (ap in_header p) t k n)
leads_phrase whole after tail commands s InParity b w p h f t k n =
    let F : Phrase → Type 0 = λ m. Leads whole s.limits after tail commands (list_rest whole s.limits s.start commands (made m) (listing_in s) (b ∷ (w ++ tail))) (list_step s (token_of s.limits.vars (word_after s.limits.vars Empty (b ∷ w)))) in
    subst F p (leads_listed whole after tail commands s b w h.0 h.1 h.2.0 h.2.1 (ap in_header p) t k n)
leads_phrase whole after tail commands s (InHeader wanted) b w p h f t k n =
    leads_header whole after tail commands s wanted b w _ (header-token whole s.limits s.start after (sofar commands (listing_in s)) wanted b w tail h t k n)

-- a word that has begun ends by what is open
word-begun : (s : State) (w : Word) → IsBegun w → plain_word s w ≡ phrase_word s w s.phrase
unfolding plain_word
word-begun s Empty h = cc
word-begun s Minus h = refl
word-begun s (Digits negative v) h = refl
word-begun s (Cnf count) h = refl
word-begun s P h = refl
word-begun s NoNumber h = refl

-- the bytes of a token have begun a word
pub held-begun : (vars b : ℕ) (w : List ℕ) → IsBegun (word_after vars Empty (b ∷ w))
unfolding word_after
held-begun vars b w = word_after-begun vars w (extended vars Empty b) (extended-begun vars Empty b)

-- the reading of a text goes on with what is held
pub again : (text : List ℕ) (commands : List Command) (st : State) (stands : Stands text commands st) (whole : Bool) (tail held : List ℕ) → text ≡ stands.done ++ held
    → read whole st.limits (text ++ tail) ≡ rest_at whole st.limits st.start commands st.phrase (listing_in st) (held ++ tail)
again text commands st stands whole tail held e = ap (λ t. read whole st.limits (t ++ tail)) e ∙ (ap (read whole st.limits) (append_assoc stands.done held tail) ∙ stands.rest whole (held ++ tail))

-- The first token of a parity ends, by a blank or the text's end.
leads_x : (whole : Bool) (tail : List ℕ) (commands : List Command) (s : State) (w : List ℕ) → s.phrase ≡ Nothing → s.lits ≡ [] → IsSolid w → s.word ≡ word_after s.limits.vars Empty w
    → IsApart tail → whole || is_there tail ≡ true → s.place ≡ s.start + length (120 ∷ w)
    → Leads whole s.limits s.place tail commands (reading_from whole s.limits s.start (sofar commands (listing_in s)) (120 ∷ (w ++ tail))) (plain_word (in_parity s) s.word)
unfolding plain_word word_after first_met rest_at
leads_x whole tail commands s [] p l h e t k n =
    let F : Word → Type 0 = λ x. Leads whole s.limits s.place tail commands (reading_from whole s.limits s.start (sofar commands (listing_in s)) (120 ∷ tail)) (plain_word (in_parity s) x) in
    let x = ap (λ ls. list_rest whole s.limits s.place commands parity_of (record { lits = ls; named = s.named; count = s.count }) tail) (sym l) in
    subst F (sym e) (rw append-nil (between-parity whole s.limits s.start s.place (sofar commands (listing_in s)) [] tail tt t k n ∙ x))
leads_x whole tail commands s (b ∷ w) p l h e t k n =
    let F : Word → Type 0 = λ x. Leads whole s.limits s.place tail commands (reading_from whole s.limits s.start (sofar commands (listing_in s)) (120 ∷ b ∷ (w ++ tail))) (plain_word (in_parity s) x) in
    let G : Step → Type 0 = Leads whole s.limits s.place tail commands (reading_from whole s.limits s.start (sofar commands (listing_in s)) (120 ∷ b ∷ (w ++ tail))) in
    let q = between-parity whole s.limits s.start s.place (sofar commands (listing_in s)) (b ∷ w) tail h t k n in
    let x = ap (λ ls. after_turn whole s.limits s.place commands parity_of tail (literal_met s.limits s.start s.place (record { lits = ls; named = s.named; count = s.count }) (literal_token s.limits.vars (b ∷ w)))) (sym l) in
    let y : plain_word (in_parity s) (word_after s.limits.vars Empty (b ∷ w)) ≡ list_step (in_parity s) (token_of s.limits.vars (word_after s.limits.vars Empty (b ∷ w))) = word-begun (in_parity s) (word_after s.limits.vars Empty (b ∷ w)) (held-begun s.limits.vars b w) in
    let z : list_step (in_parity s) (literal_token s.limits.vars (b ∷ w)) ≡ plain_word (in_parity s) (word_after s.limits.vars Empty (b ∷ w)) = ap (list_step (in_parity s)) (literal_token-held s.limits.vars b w) ∙ sym y in
    subst F (sym e) (subst G z (leads_list whole s.place tail commands (in_parity s) (literal_token s.limits.vars (b ∷ w)) _ refl (q ∙ x)))

-- The token that has come ends, by a blank or the text's end.
pub leads_word : (text : List ℕ) (commands : List Command) (st : State) (stands : Stands text commands st) → HoldsWord st.after_x st stands.held → (whole : Bool) (tail : List ℕ)
    → IsApart tail → whole || is_there tail ≡ true
    → Leads whole st.limits st.place tail commands (read whole st.limits (text ++ tail)) (word_step st)
unfolding word_step plain_word word_after
leads_word text commands st stands holds whole tail apart known = go st.after_x holds
  where
    plain : (held : List ℕ) → text ≡ stands.done ++ held → IsWord st.phrase held → st.word ≡ word_after st.limits.vars Empty held → st.place ≡ st.start + length held
        → Leads whole st.limits st.place tail commands (read whole st.limits (text ++ tail)) (plain_word st st.word)
    plain [] e s w p =
        let q : st.place ≡ st.start = omega arith in
        let r : read whole st.limits (text ++ tail) ≡ rest_at whole st.limits st.place (commands ++ []) st.phrase (listing_in st) tail = rw (append-nil, q) (again text commands st stands whole tail [] e) in
        let F : Word → Type 0 = λ x. Leads whole st.limits st.place tail commands (read whole st.limits (text ++ tail)) (plain_word st x) in
        subst F (sym w) r
    plain (b ∷ bs) e s w p =
        let F : Word → Type 0 = λ x. Leads whole st.limits st.place tail commands (read whole st.limits (text ++ tail)) (plain_word st x) in
        let G : Step → Type 0 = Leads whole st.limits st.place tail commands (read whole st.limits (text ++ tail)) in
        let H : Reading → Type 0 = λ r. Leads whole st.limits st.place tail commands r (phrase_word st (word_after st.limits.vars Empty (b ∷ bs)) st.phrase) in
        let l = leads_phrase whole st.place tail commands st st.phrase b bs refl s stands.fresh apart known p in
        subst F (sym w) (subst G (sym (word-begun st (word_after st.limits.vars Empty (b ∷ bs)) (held-begun st.limits.vars b bs))) (subst H (sym (again text commands st stands whole tail (b ∷ bs) e)) l))

    parity : (w : List ℕ) → text ≡ stands.done ++ 120 ∷ w → IsSolid w → st.word ≡ word_after st.limits.vars Empty w → st.phrase ≡ Nothing → st.place ≡ st.start + length (120 ∷ w)
        → Leads whole st.limits st.place tail commands (read whole st.limits (text ++ tail)) (plain_word (in_parity st) st.word)
    parity w e s q n p =
        let H : Reading → Type 0 = λ r. Leads whole st.limits st.place tail commands r (plain_word (in_parity st) st.word) in
        let f : st.lits ≡ [] = stands.fresh (ap in_list n) in
        let r : read whole st.limits (text ++ tail) ≡ reading_from whole st.limits st.start (sofar commands (listing_in st)) (120 ∷ (w ++ tail))
        = again text commands st stands whole tail (120 ∷ w) e ∙ (ap (λ m. rest_at whole st.limits st.start commands m (listing_in st) (120 ∷ (w ++ tail))) n ∙ unfold rest_at in refl) in
        subst H (sym r) (leads_x whole tail commands st w n f s q apart known p)

    go : (x : Bool) → HoldsWord x st stands.held
        → Leads whole st.limits st.place tail commands (read whole st.limits (text ++ tail)) (elim x [ true ↦ plain_word (in_parity st) st.word | false ↦ plain_word st st.word ])
    go true h =
        let e : text ≡ stands.done ++ 120 ∷ h.0 = stands.is_text ∙ ap (λ t. stands.done ++ t) h.1 in
        let p : st.place ≡ st.start + length (120 ∷ h.0) = stands.place ∙ ap (λ t. st.start + length t) h.1 in
        parity h.0 e h.2 h.3 h.4 p
    go false h = plain stands.held stands.is_text h.0 h.1 stands.place
