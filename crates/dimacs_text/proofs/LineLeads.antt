-- What the end of a comment's line leads to.
use Rattle.std.proofs.Common.{◌≡◌, ℕ, ◌+◌, Bool, true, false, ◌||◌, List, [], ◌∷◌, ◌++◌, Result, Ok, Err, length, refl, sym, ◌∙◌, ap, subst, append-nil, arith}
use Rattle.sat_lits.specs.declared.literal.Lit.{Lit}
use Rattle.dimacs_text.specs.Tokens.{is_there}
use Rattle.dimacs_text.specs.Phrases.{in_list, in_header}
use Rattle.dimacs_text.specs.Comments.{kind, is_command}
use Rattle.dimacs_text.specs.CommentSteps.{is_opened, kind_of}
use Rattle.dimacs_text.specs.Lists.{Refused, Listing, parity_of, said}
use Rattle.dimacs_text.specs.Grammar.{Reading, read}
use Rattle.dimacs_text.specs.Arguments.{solve_last, growth_last, judged}
use Rattle.dimacs_text.specs.Steps.{Step, Fails, command_step, solve_line, growth_line, skipped_line, line_by}
use Rattle.dimacs_text.specs.Stands.{IsComment, HoldsComment, Stands, rest_at, sofar, listing_in, comment_says}
use Rattle.dimacs_text.specs.declared.arguments.Arguments.{Arguments}
use Rattle.dimacs_text.specs.declared.comment.Comment.{Comment}
use Rattle.dimacs_text.specs.declared.comment.Comment.TheVariants.{Absent, First, Gap, Front, SolveName, GrowthName, Solving, Growing, Skipped}
use Rattle.dimacs_text.specs.declared.phrase.Phrase.{Phrase}
use Rattle.dimacs_text.specs.declared.phrase.Phrase.TheVariants.{Nothing, Clause as InClause, Parity as InParity, Header as InHeader}
use Rattle.dimacs_text.specs.declared.state.State.{State}
use Rattle.dimacs_text.specs.declared.command.Command.{Command}
use Rattle.dimacs_text.specs.declared.command.Command.TheVariants.{Clause, Solve, Grow}
use Rattle.dimacs_text.specs.declared.refusal.Refusal.{Refusal}
use Rattle.dimacs_text.specs.declared.refusal.Refusal.TheVariants.{BadToken}
use Rattle.dimacs_text.proofs.Walks.{elim_true, elim_false}
use Rattle.dimacs_text.proofs.Lines.{IsLineEnd}
use Rattle.dimacs_text.proofs.Literals.{list_rest, list-comment}
use Rattle.dimacs_text.proofs.Between.{after_said, between-comment}
use Rattle.dimacs_text.proofs.LineEnds.{judged_said, solve-ends, growth-ends, kind-end}
use Rattle.dimacs_text.proofs.Leads.{Leads, again}

-- a command that is judged
leads_command : (whole : Bool) (tail : List ℕ) (commands : List Command) (s : State) (a : Arguments) (command : Command) (x : Result (Unit {0}) Refusal) (r : Reading) → s.phrase ≡ Nothing
    → r ≡ after_said whole s.limits s.place (sofar commands (listing_in s)) tail (judged_said command a x) → Leads whole s.limits s.place tail commands r (command_step s a command x)
unfolding rest_at
leads_command whole tail commands s a command (Ok x) r p e = rw p e
leads_command whole tail commands s a command (Err why) r p e = rw append-nil e

-- a comment that is no command, where nothing is open
leads_skipped : (whole : Bool) (tail : List ℕ) (commands : List Command) (s : State) (by_byte : Bool) (c : Comment) (r : Reading) → is_opened c ≡ false → s.phrase ≡ Nothing
    → r ≡ after_said whole s.limits s.place (sofar commands (listing_in s)) tail (said s.limits s.place by_byte s.named s.count (kind_of c []))
    → Leads whole s.limits s.place tail commands r (skipped_line s)
unfolding rest_at said
leads_skipped whole tail commands s by_byte c r h p e =
    rw (append-nil, p) (e ∙ ap (λ k. after_said whole s.limits s.place (sofar commands (listing_in s)) tail (said s.limits s.place by_byte s.named s.count k)) (kind-end c h))

-- the end of a comment's line, where nothing is open
leads_between : (whole : Bool) (tail : List ℕ) (commands : List Command) (s : State) (by_byte : Bool) (c : Comment) (r : Reading) → s.phrase ≡ Nothing
    → r ≡ after_said whole s.limits s.place (sofar commands (listing_in s)) tail (comment_says s s.place by_byte [] c) → Leads whole s.limits s.place tail commands r (line_by s by_byte c)
unfolding line_by
leads_between whole tail commands s by_byte Absent r p e = leads_skipped whole tail commands s by_byte Absent r refl p e
leads_between whole tail commands s by_byte First r p e = leads_skipped whole tail commands s by_byte First r refl p e
leads_between whole tail commands s by_byte Gap r p e = leads_skipped whole tail commands s by_byte Gap r refl p e
leads_between whole tail commands s by_byte (Front count) r p e = leads_skipped whole tail commands s by_byte (Front count) r refl p e
leads_between whole tail commands s by_byte (SolveName count) r p e = leads_skipped whole tail commands s by_byte (SolveName count) r refl p e
leads_between whole tail commands s by_byte (GrowthName count) r p e = leads_skipped whole tail commands s by_byte (GrowthName count) r refl p e
leads_between whole tail commands s by_byte Skipped r p e = leads_skipped whole tail commands s by_byte Skipped r refl p e
leads_between whole tail commands s by_byte Solving r p e =
    let a : Arguments = solve_last s.limits s.arguments in
    let F : Step → Type 0 = Leads whole s.limits s.place tail commands r in
    let q = e ∙ ap (after_said whole s.limits s.place (sofar commands (listing_in s)) tail) (solve-ends s.limits s.place s.place by_byte s.arguments) in
    subst F (sym (elim_false (in_list s.phrase) (Fails (BadToken s.start) []) (solve_line s by_byte (solve_last s.limits s.arguments)) (ap in_list p)))
    (leads_command whole tail commands s (solve_last s.limits s.arguments) (Solve (solve_last s.limits s.arguments).lits) (judged (solve_last s.limits s.arguments) by_byte s.place) r p q)
leads_between whole tail commands s by_byte Growing r p e =
    let F : Step → Type 0 = Leads whole s.limits s.place tail commands r in
    let q = e ∙ ap (after_said whole s.limits s.place (sofar commands (listing_in s)) tail) (growth-ends s.limits s.place s.place by_byte s.arguments) in
    subst F (sym (elim_false (in_list s.phrase) (Fails (BadToken s.start) []) (growth_line s by_byte (growth_last s.limits s.arguments)) (ap in_list p)))
    (leads_command whole tail commands s (growth_last s.limits s.arguments) (Grow (growth_last s.limits s.arguments).named) (judged (growth_last s.limits s.arguments) by_byte s.place) r p q)

-- a comment that is no command, where a list is open
skipped_list : (whole : Bool) (tail : List ℕ) (commands : List Command) (s : State) (c : Comment) (r : Reading) → is_opened c ≡ false
    → r ≡ elim (is_command (kind_of c [])) [ true ↦ record { commands = commands; end = Refused (BadToken s.start) } | false ↦ rest_at whole s.limits s.place commands s.phrase (listing_in s) tail ]
    → Leads whole s.limits s.place tail commands r (skipped_line s)
skipped_list whole tail commands s c r h e =
    rw append-nil (e ∙ ap (λ k. elim (is_command k) as (λ _. Reading) [ true ↦ record { commands = commands; end = Refused (BadToken s.start) } | false ↦ rest_at whole s.limits s.place commands s.phrase (listing_in s) tail ]) (kind-end c h))

-- the end of a comment's line, where a list is open
leads_in_list : (whole : Bool) (tail : List ℕ) (commands : List Command) (s : State) (by_byte : Bool) (c : Comment) (r : Reading) → in_list s.phrase ≡ true
    → r ≡ elim (is_command (kind_of c [])) [ true ↦ record { commands = commands; end = Refused (BadToken s.start) } | false ↦ rest_at whole s.limits s.place commands s.phrase (listing_in s) tail ]
    → Leads whole s.limits s.place tail commands r (line_by s by_byte c)
unfolding line_by
leads_in_list whole tail commands s by_byte Absent r p e = skipped_list whole tail commands s Absent r refl e
leads_in_list whole tail commands s by_byte First r p e = skipped_list whole tail commands s First r refl e
leads_in_list whole tail commands s by_byte Gap r p e = skipped_list whole tail commands s Gap r refl e
leads_in_list whole tail commands s by_byte (Front count) r p e = skipped_list whole tail commands s (Front count) r refl e
leads_in_list whole tail commands s by_byte (SolveName count) r p e = skipped_list whole tail commands s (SolveName count) r refl e
leads_in_list whole tail commands s by_byte (GrowthName count) r p e = skipped_list whole tail commands s (GrowthName count) r refl e
leads_in_list whole tail commands s by_byte Skipped r p e = skipped_list whole tail commands s Skipped r refl e
leads_in_list whole tail commands s by_byte Solving r p e =
    let F : Step → Type 0 = Leads whole s.limits s.place tail commands r in
    subst F (sym (elim_true (in_list s.phrase) (Fails (BadToken s.start) []) (solve_line s by_byte (solve_last s.limits s.arguments)) p)) (rw append-nil e)
leads_in_list whole tail commands s by_byte Growing r p e =
    let F : Step → Type 0 = Leads whole s.limits s.place tail commands r in
    subst F (sym (elim_true (in_list s.phrase) (Fails (BadToken s.start) []) (growth_line s by_byte (growth_last s.limits s.arguments)) p)) (rw append-nil e)

-- A comment ends, by byte 10 or by the text's end.
pub leads_line : (text : List ℕ) (commands : List Command) (st : State) (stands : Stands text commands st) → HoldsComment st stands.held → (whole : Bool) (tail : List ℕ) → IsLineEnd tail
    → whole || is_there tail ≡ true
    → Leads whole st.limits st.place tail commands (read whole st.limits (text ++ tail)) (line_by st (is_there tail) st.comment)
unfolding rest_at
leads_line text commands st stands holds whole tail t k = go stands.held refl holds.comment st.phrase refl
  where
    go : (held : List ℕ) → stands.held ≡ held → IsComment held → (p : Phrase) → st.phrase ≡ p
        → Leads whole st.limits st.place tail commands (read whole st.limits (text ++ tail)) (line_by st (is_there tail) st.comment)
    go [] q h p e = absurd h
    go (b ∷ w) q h p e = by_phrase p e
      where
        held : stands.held ≡ 99 ∷ w
        held = q ∙ ap (λ c. c ∷ w) h.0

        place : st.place ≡ st.start + length (99 ∷ w)
        place = stands.place ∙ ap (λ x. st.start + length x) held

        here : read whole st.limits (text ++ tail) ≡ rest_at whole st.limits st.start commands st.phrase (listing_in st) (99 ∷ (w ++ tail))
        here = again text commands st stands whole tail (99 ∷ w) (stands.is_text ∙ ap (λ x. stands.done ++ x) held)

        whole_held : stands.held ++ [] ≡ 99 ∷ w
        whole_held = append-nil stands.held ∙ held

        listed : in_list st.phrase ≡ true → (make : List Lit → Command)
            → ((l : Listing) (x : List ℕ) (n : ℕ) → rest_at whole st.limits n commands st.phrase l x ≡ list_rest whole st.limits n commands make l x)
            → Leads whole st.limits st.place tail commands (read whole st.limits (text ++ tail)) (line_by st (is_there tail) st.comment)
        listed i make same =
            let c : is_command (kind (99 ∷ w)) ≡ is_command (kind_of st.comment []) = ap (λ x. is_command (kind x)) (sym whole_held) ∙ holds.command [] in
            let r = here ∙ (same (listing_in st) (99 ∷ (w ++ tail)) st.start ∙ (list-comment whole st.limits st.start st.place commands make (listing_in st) w tail h.1 t k place
            ∙ (ap (λ v. elim v as (λ _. Reading) [ true ↦ record { commands = commands; end = Refused (BadToken st.start) } | false ↦ list_rest whole st.limits st.place commands make (listing_in st) tail ]) c
            ∙ ap (λ x. elim (is_command (kind_of st.comment [])) as (λ _. Reading) [ true ↦ record { commands = commands; end = Refused (BadToken st.start) } | false ↦ x ]) (sym (same (listing_in st) tail st.place))))) in
            leads_in_list whole tail commands st (is_there tail) st.comment _ i r

        by_phrase : (p : Phrase) → st.phrase ≡ p → Leads whole st.limits st.place tail commands (read whole st.limits (text ++ tail)) (line_by st (is_there tail) st.comment)
        by_phrase Nothing e =
            let n : st.place ≡ st.place + length {A = ℕ} [] = omega arith in
            let c : said st.limits st.place (is_there tail) st.named st.count (kind (99 ∷ w)) ≡ comment_says st st.place (is_there tail) [] st.comment
            = ap (λ x. said st.limits st.place (is_there tail) st.named st.count (kind x)) (sym whole_held) ∙ holds.says (ap in_list e) st.place (is_there tail) [] n in
            let r = here ∙ (ap (λ m. rest_at whole st.limits st.start commands m (listing_in st) (99 ∷ (w ++ tail))) e
            ∙ (between-comment whole st.limits st.start st.place (sofar commands (listing_in st)) w tail h.1 t k place ∙ ap (after_said whole st.limits st.place (sofar commands (listing_in st)) tail) c)) in
            leads_between whole tail commands st (is_there tail) st.comment _ e r
        by_phrase InClause e = listed (ap in_list e) Clause (λ l x n. ap (λ m. rest_at whole st.limits n commands m l x) e)
        by_phrase InParity e = listed (ap in_list e) parity_of (λ l x n. ap (λ m. rest_at whole st.limits n commands m l x) e)
        by_phrase (InHeader wanted) e = let z : true ≡ false = sym (ap in_header e) ∙ holds.no_header in cc
