-- The reader's step at a byte.
use Rattle.std.proofs.Common.{◌≡◌, ℕ, suc, ◌<◌, ◌≤◌, Bool, true, false, ◌||◌, List, [], ◌∷◌, ◌++◌, length, nat_lt, nat_eq, get_or, codes, refl, sym, ◌∙◌, ap, subst, append_assoc, append-nil, length-append, arith}
use Rattle.std.proofs.lemmas.Bool.{false≢true, eqb-true, ltb-true, ltb-false}
use Rattle.dimacs_text.specs.Walk.{is_blank}
use Rattle.dimacs_text.specs.Words.{extended, word_after, is_begun}
use Rattle.dimacs_text.specs.Phrases.{is_nothing, in_list, in_header}
use Rattle.dimacs_text.specs.Comments.{kind}
use Rattle.dimacs_text.specs.CommentSteps.{matched, fronted, solve_named, growth_named, comment_next, in_comment}
use Rattle.dimacs_text.specs.Lists.{Ended, Refused, parity_of}
use Rattle.dimacs_text.specs.Grammar.{Reading, read}
use Rattle.dimacs_text.specs.Steps.{Goes, Ends, Fails, word_step, line_by, comment_byte, past_blank, comment_step, more_step, percent_step, comment_begins, x_comes, fresh_step, goes_on, solid_step, plain_step, byte_step}
use Rattle.dimacs_text.specs.Stands.{IsSolid, IsWord, HoldsWord, HoldsComment, Holds, Stands, rest_at, sofar, listing_in}
use Rattle.dimacs_text.specs.declared.comment.Match.{Match}
use Rattle.dimacs_text.specs.declared.comment.Match.TheVariants.{Named, Opened, Lost}
use Rattle.dimacs_text.specs.declared.comment.Comment.{Comment}
use Rattle.dimacs_text.specs.declared.comment.Comment.TheVariants.{Absent, First, Gap, Front, SolveName, GrowthName, Solving, Growing, Skipped}
use Rattle.dimacs_text.specs.declared.token.Word.{Word}
use Rattle.dimacs_text.specs.declared.token.Word.TheVariants.{Empty, Minus, Digits, Cnf, P, NoNumber}
use Rattle.dimacs_text.specs.declared.phrase.Phrase.{Phrase}
use Rattle.dimacs_text.specs.declared.phrase.Phrase.TheVariants.{Nothing, Clause as InClause, Parity as InParity, Header as InHeader}
use Rattle.dimacs_text.specs.declared.state.State.{State}
use Rattle.dimacs_text.specs.declared.state.Stage.TheVariants.{Ended as IsEnded}
use Rattle.dimacs_text.specs.declared.command.Command.{Command}
use Rattle.dimacs_text.specs.declared.command.Command.TheVariants.{Clause}
use Rattle.dimacs_text.specs.declared.refusal.Refusal.TheVariants.{Truncated, TooLong}
use Rattle.dimacs_text.proofs.Words.{IsBegun, word_after-push}
use Rattle.dimacs_text.proofs.Walks.{or_true}
use Rattle.dimacs_text.proofs.Literals.{list-percent}
use Rattle.dimacs_text.proofs.Between.{between-percent}
use Rattle.dimacs_text.proofs.CommentBytes.{comment-goes}
use Rattle.dimacs_text.proofs.Leads.{leads_word, again, held-begun}
use Rattle.dimacs_text.proofs.LineLeads.{leads_line}
use Rattle.dimacs_text.proofs.Feed.{Follows, IsSame, comment_same, settles, settles-front, blank_follows, long_follows}
use Rattle.dimacs_text.proofs.Leaves.{word_leaves, line_leaves}

-- a choice between two comments that have begun
begun_choice : (v : Bool) (x y : Comment) → in_comment x ≡ true → in_comment y ≡ true → in_comment (elim v [ true ↦ x | false ↦ y ]) ≡ true
begun_choice true x y p q = p
begun_choice false x y p q = q

-- a comment goes on with the front of both names
fronted-begun : (count b : ℕ) → in_comment (fronted count b) ≡ true
fronted-begun count b =
    begun_choice (nat_lt count 8) _ _ (begun_choice (nat_eq b (get_or (codes "Solver::") count 0)) (Front (suc count)) Skipped refl refl)
    (begun_choice (nat_eq b 115) (SolveName 1) _ refl (begun_choice (nat_eq b 110) (GrowthName 1) Skipped refl refl))

-- with a name
solve-begun : (m : Match) → in_comment (solve_named m) ≡ true
solve-begun (Named count) = refl
solve-begun Opened = refl
solve-begun Lost = refl

-- with the other name
growth-begun : (m : Match) → in_comment (growth_named m) ≡ true
growth-begun (Named count) = refl
growth-begun Opened = refl
growth-begun Lost = refl

-- a comment that has begun goes on as one
next-begun : (c : Comment) (b : ℕ) → in_comment c ≡ true → in_comment (comment_next c b) ≡ true
next-begun Absent b h = h
next-begun First b h = begun_choice (is_blank b) Gap Skipped refl refl
next-begun Gap b h = begun_choice (is_blank b) Gap (fronted 0 b) refl (fronted-begun 0 b)
next-begun (Front count) b h = fronted-begun count b
next-begun (SolveName count) b h = solve-begun (matched (codes "solve") count b)
next-begun (GrowthName count) b h = growth-begun (matched (codes "new_vars") count b)
next-begun Solving b h = refl
next-begun Growing b h = refl
next-begun Skipped b h = refl

-- so the state's
byte-begun : (st : State) (b : ℕ) (c : Comment) → st.comment ≡ c → in_comment c ≡ true → in_comment (comment_byte st b c).comment ≡ true
unfolding comment_byte
byte-begun st b Absent e h = h
byte-begun st b First e h = next-begun First b h
byte-begun st b Gap e h = next-begun Gap b h
byte-begun st b (Front count) e h = next-begun (Front count) b h
byte-begun st b (SolveName count) e h = next-begun (SolveName count) b h
byte-begun st b (GrowthName count) e h = next-begun (GrowthName count) b h
byte-begun st b Solving e h = ap in_comment e
byte-begun st b Growing e h = ap in_comment e
byte-begun st b Skipped e h = refl

-- A byte comes in the line of a comment.
comment_follows : (text : List ℕ) (commands : List Command) (st : State) (b : ℕ) (stands : Stands text commands st) → in_comment st.comment ≡ true → HoldsComment st stands.held
    → nat_eq b 10 ≡ false → st.place < st.limits.input
    → Follows st (text ++ b ∷ []) commands (Goes (comment_byte st b st.comment) [])
comment_follows text commands st b stands c holds e l =
    go (comment_byte st b st.comment) (comment_same st b st.comment) (comment-goes st stands.held b st.comment holds refl e) (byte-begun st b st.comment refl c)
  where
    go : (s : State) → IsSame st s → HoldsComment s (stands.held ++ b ∷ []) → in_comment s.comment ≡ true → Follows st (text ++ b ∷ []) commands (Goes s [])
    go s same h begun = (
      record {
        done = stands.done;
        held = stands.held ++ b ∷ [];
        is_text = ap (λ t. t ++ b ∷ []) stands.is_text ∙ append_assoc stands.done stands.held (b ∷ []);
        holds = subst (λ v. Holds v s (stands.held ++ b ∷ [])) (sym begun) h;
        place = omega (arith, same.0, same.1, stands.place, length-append stands.held (b ∷ []));
        taken = omega (arith, same.0, stands.taken, length-append text (b ∷ []));
        fits = rw (same.2, same.0) l;
        fresh = λ i. ap (λ x. x.lits) same.5 ∙ stands.fresh (sym (ap in_list same.4) ∙ i);
        rest = λ whole tail. rw (append-nil, same.2, same.1, same.4, same.5) (stands.rest whole tail);
      },
      same.2,
      same.3,
    )

-- one byte more that is no blank
solid_push : (w : List ℕ) (b : ℕ) → IsSolid w → is_blank b ≡ false → IsSolid (w ++ b ∷ [])
solid_push [] b s h = (h, tt)
solid_push (x ∷ w) b s h = (s.0, solid_push w b s.1 h)

-- a token that has begun goes on with any byte that is no blank
word_push : (p : Phrase) (x : ℕ) (w : List ℕ) (b : ℕ) → IsWord p (x ∷ w) → is_blank b ≡ false → IsWord p (x ∷ (w ++ b ∷ []))
word_push Nothing x w b h e = (h.0, solid_push w b h.1 e, h.2, h.3)
word_push InClause x w b h e = (h.0, solid_push w b h.1 e, h.2)
word_push InParity x w b h e = (h.0, solid_push w b h.1 e, h.2)
word_push (InHeader wanted) x w b h e = (h.0, solid_push w b h.1 e)

-- a header's token begins with any byte that is no blank
header_first : (p : Phrase) (b : ℕ) → in_header p ≡ true → is_blank b ≡ false → IsWord p (b ∷ [])
header_first Nothing b h e = cc
header_first InClause b h e = cc
header_first InParity b h e = cc
header_first (InHeader wanted) b h e = (e, tt)

-- what has come of a token, behind an `x`, with a byte more
abbrev after : Word → State → State
after word s = record s { place = suc s.place; word = word }

-- A byte of a token comes.
more_follows : (text : List ℕ) (commands : List Command) (st : State) (b : ℕ) (stands : Stands text commands st) → in_comment st.comment ≡ false → st.place < st.limits.input
    → HoldsWord st.after_x (after (extended st.limits.vars st.word b) st) (stands.held ++ b ∷ []) → Follows st (text ++ b ∷ []) commands (more_step st b)
more_follows text commands st b stands c l h = (
  record {
    done = stands.done;
    held = stands.held ++ b ∷ [];
    is_text = ap (λ t. t ++ b ∷ []) stands.is_text ∙ append_assoc stands.done stands.held (b ∷ []);
    holds = subst (λ v. Holds v (after (extended st.limits.vars st.word b) st) (stands.held ++ b ∷ [])) (sym c) h;
    place = omega (arith, stands.place, length-append stands.held (b ∷ []));
    taken = omega (arith, stands.taken, length-append text (b ∷ []));
    fits = omega arith;
    fresh = stands.fresh;
    rest = λ whole tail. rw append-nil (stands.rest whole tail);
  },
  refl,
  refl,
)

-- the word that has come, with a byte more
word-more : (vars : ℕ) (word : Word) (held : List ℕ) (b : ℕ) → word ≡ word_after vars Empty held → extended vars word b ≡ word_after vars Empty (held ++ b ∷ [])
word-more vars word held b e = ap (λ w. extended vars w b) e ∙ sym (word_after-push vars Empty held b)

-- a token goes on, where it may
on_holds : (st : State) (held : List ℕ) (b : ℕ) → goes_on st ≡ true → is_blank b ≡ false → HoldsWord st.after_x st held
    → HoldsWord st.after_x (after (extended st.limits.vars st.word b) st) (held ++ b ∷ [])
unfolding word_after
on_holds st held b on e = go st.after_x refl
  where
    begun : (w : Word) → w ≡ Empty → is_begun w || in_header st.phrase ≡ true → in_header st.phrase ≡ true
    begun w q h = let F : Word → Type 0 = λ x. is_begun x || in_header st.phrase ≡ true in subst F q h

    word : (x : Bool) → st.after_x ≡ x → x ≡ false → (h : List ℕ) → IsWord st.phrase h → st.word ≡ word_after st.limits.vars Empty h → IsWord st.phrase (h ++ b ∷ [])
    word true q n h s w = absurd (false≢true (sym n))
    word false q n [] s w =
        let F : Bool → Type 0 = λ v. v || (is_begun st.word || in_header st.phrase) ≡ true in
        header_first st.phrase b (begun st.word w (subst F q on)) e
    word false q n (x ∷ bs) s w = word_push st.phrase x bs b s e

    go : (x : Bool) → st.after_x ≡ x → HoldsWord x st held → HoldsWord x (after (extended st.limits.vars st.word b) st) (held ++ b ∷ [])
    go true q h = (h.0 ++ b ∷ [], ap (λ t. t ++ b ∷ []) h.1, solid_push h.0 b h.2 e, word-more st.limits.vars st.word h.0 b h.3, h.4)
    go false q h = (word false q refl held h.0 h.1, word-more st.limits.vars st.word held b h.1)

-- a word that has not begun is empty
empty : (w : Word) → is_begun w ≡ false → w ≡ Empty
empty Empty h = refl
empty Minus h = cc
empty (Digits negative v) h = cc
empty (Cnf count) h = cc
empty P h = cc
empty NoNumber h = cc

-- and one that has begun is not
begun-word : (w : Word) → IsBegun w → is_begun w ≡ false → ⊥
begun-word w h e = false≢true (sym e ∙ h)

-- nothing has come of a token where none goes on
none_held : (st : State) (held : List ℕ) → goes_on st ≡ false → HoldsWord st.after_x st held → (st.after_x ≡ false) × (st.word ≡ Empty) × (in_header st.phrase ≡ false) × (held ≡ [])
unfolding word_after
none_held st held off = go st.after_x refl off
  where
    parts : (u v : Bool) → u || v ≡ false → (u ≡ false) × (v ≡ false)
    parts true v h = absurd (false≢true (sym h))
    parts false v h = (refl, h)

    by_held : (h : List ℕ) → st.word ≡ word_after st.limits.vars Empty h → is_begun st.word ≡ false → h ≡ []
    by_held [] w n = refl
    by_held (x ∷ bs) w n = absurd (begun-word (word_after st.limits.vars Empty (x ∷ bs)) (held-begun st.limits.vars x bs) (sym (ap is_begun w) ∙ n))

    go : (x : Bool) → st.after_x ≡ x → x || (is_begun st.word || in_header st.phrase) ≡ false → HoldsWord x st held
        → (st.after_x ≡ false) × (st.word ≡ Empty) × (in_header st.phrase ≡ false) × (held ≡ [])
    go true q o h = absurd (false≢true (sym o))
    go false q o h = let p = parts (is_begun st.word) (in_header st.phrase) o in (q, empty st.word p.0, p.1, by_held held h.1 p.0)

-- A comment begins.
begins_follows : (text : List ℕ) (commands : List Command) (st : State) (b : ℕ) (stands : Stands text commands st) → st.place < st.limits.input → nat_eq b 99 ≡ true
    → st.after_x ≡ false → st.word ≡ Empty → in_header st.phrase ≡ false → stands.held ≡ [] → Follows st (text ++ b ∷ []) commands (Goes (comment_begins st) [])
unfolding kind
begins_follows text commands st b stands l c x w h none = (
  record {
    done = stands.done;
    held = b ∷ [];
    is_text = ap (λ t. t ++ b ∷ []) (stands.is_text ∙ (ap (λ t. stands.done ++ t) none ∙ append-nil stands.done));
    holds = record {
      comment = (eqb-true b 99 c, tt);
      word = w;
      no_x = x;
      no_header = h;
      command = λ rest. refl;
      says = λ i end by_byte rest n. refl;
      begins = λ i p. absurd (false≢true p);
    };
    place = omega (arith, stands.place, ap length none);
    taken = omega (arith, stands.taken, length-append text (b ∷ []));
    fits = omega arith;
    fresh = stands.fresh;
    rest = λ whole tail. rw append-nil (stands.rest whole tail);
  },
  refl,
  refl,
)

-- An `x` comes where nothing is open.
x_follows : (text : List ℕ) (commands : List Command) (st : State) (b : ℕ) (stands : Stands text commands st) → in_comment st.comment ≡ false → st.place < st.limits.input → nat_eq b 120 ≡ true
    → st.word ≡ Empty → st.phrase ≡ Nothing → stands.held ≡ [] → Follows st (text ++ b ∷ []) commands (Goes (x_comes st) [])
unfolding word_after
x_follows text commands st b stands c l e w p none = (
  record {
    done = stands.done;
    held = b ∷ [];
    is_text = ap (λ t. t ++ b ∷ []) (stands.is_text ∙ (ap (λ t. stands.done ++ t) none ∙ append-nil stands.done));
    holds = subst (λ v. Holds v (x_comes st) (b ∷ [])) (sym c) ([], ap (λ t. t ∷ []) (eqb-true b 120 e), tt, w, p);
    place = omega (arith, stands.place, ap length none);
    taken = omega (arith, stands.taken, length-append text (b ∷ []));
    fits = omega arith;
    fresh = stands.fresh;
    rest = λ whole tail. rw append-nil (stands.rest whole tail);
  },
  refl,
  refl,
)

-- a phrase that is none of a token's own
nothing : (p : Phrase) → is_nothing p ≡ true → p ≡ Nothing
nothing Nothing h = refl
nothing InClause h = cc
nothing InParity h = cc
nothing (InHeader wanted) h = cc

-- a `%` in an open list
percent-open : (whole : Bool) (st : State) (commands : List Command) (tail : List ℕ) (p : Phrase) → is_nothing p ≡ false → in_header p ≡ false
    → rest_at whole st.limits st.start commands p (listing_in st) (37 ∷ tail) ≡ record { commands = commands; end = Refused (Truncated st.start) }
unfolding rest_at
percent-open whole st commands tail Nothing n h = cc
percent-open whole st commands tail InClause n h = list-percent whole st.limits st.start commands Clause (listing_in st) tail
percent-open whole st commands tail InParity n h = list-percent whole st.limits st.start commands parity_of (listing_in st) tail
percent-open whole st commands tail (InHeader wanted) n h = cc

-- A `%` comes in place of a token.
percent_follows : (text : List ℕ) (commands : List Command) (st : State) (b : ℕ) (stands : Stands text commands st) → st.place < st.limits.input → nat_eq b 37 ≡ true
    → in_header st.phrase ≡ false → stands.held ≡ [] → Follows st (text ++ b ∷ []) commands (percent_step st)
percent_follows text commands st b stands l e h none = go (is_nothing st.phrase) refl
  where
    short : length (text ++ b ∷ []) ≤ st.limits.input
    short = omega (arith, stands.taken, length-append text (b ∷ []))

    place : st.place ≡ st.start
    place = omega (arith, stands.place, ap length none)

    here : (whole : Bool) (tail : List ℕ) → read whole st.limits ((text ++ b ∷ []) ++ tail) ≡ rest_at whole st.limits st.start commands st.phrase (listing_in st) (37 ∷ tail)
    here whole tail = ap (read whole st.limits) (append_assoc text (b ∷ []) tail)
        ∙ (again text commands st stands whole (b ∷ tail) [] (stands.is_text ∙ ap (λ t. stands.done ++ t) none)
        ∙ ap (λ x. rest_at whole st.limits st.start commands st.phrase (listing_in st) (x ∷ tail)) (eqb-true b 37 e))

    over : Reading
    over = record { commands = commands ++ []; end = Ended }

    ends : is_nothing st.phrase ≡ true → (whole : Bool) (tail : List ℕ) → read whole st.limits ((text ++ b ∷ []) ++ tail) ≡ over
    ends n whole tail =
        rw append-nil (here whole tail ∙ (ap (λ p. rest_at whole st.limits st.start commands p (listing_in st) (37 ∷ tail)) (nothing st.phrase n) ∙ unfold rest_at in between-percent whole st.limits st.start (sofar commands (listing_in st)) tail))

    cut : is_nothing st.phrase ≡ false → (whole : Bool) (tail : List ℕ) → read whole st.limits ((text ++ b ∷ []) ++ tail) ≡ record { commands = commands ++ []; end = Refused (Truncated st.place) }
    cut n whole tail = rw (append-nil, place) (here whole tail ∙ percent-open whole st commands tail st.phrase n h)

    go : (v : Bool) → is_nothing st.phrase ≡ v → Follows st (text ++ b ∷ []) commands (elim v [ true ↦ Ends (record st { stage = IsEnded }) [] | false ↦ Fails (Truncated st.place) [] ])
    go true n = (
      record {
        reads = λ rest. settles st.limits (text ++ b ∷ []) rest over short refl (ends n);
        fronts = λ rest. settles-front st.limits (text ++ b ∷ []) rest over short (ends n);
      },
      refl,
      refl,
    )
    go false n = λ more. settles st.limits (text ++ b ∷ []) more (record { commands = commands ++ []; end = Refused (Truncated st.place) }) short refl (cut n)

-- the first byte of a token, where no header is open
first_word : (p : Phrase) (b : ℕ) → in_header p ≡ false → is_blank b ≡ false → nat_eq b 99 ≡ false → nat_eq b 37 ≡ false → (is_nothing p ≡ true → nat_eq b 120 ≡ false) → IsWord p (b ∷ [])
first_word Nothing b h e c q x = (e, tt, (c, q), x refl)
first_word InClause b h e c q x = (e, tt, (c, q))
first_word InParity b h e c q x = (e, tt, (c, q))
first_word (InHeader wanted) b h e c q x = cc

-- The first byte of a token comes where no header is open.
fresh_follows : (text : List ℕ) (commands : List Command) (st : State) (b : ℕ) (stands : Stands text commands st) → in_comment st.comment ≡ false → st.place < st.limits.input → is_blank b ≡ false
    → st.after_x ≡ false → st.word ≡ Empty → in_header st.phrase ≡ false → stands.held ≡ [] → Follows st (text ++ b ∷ []) commands (fresh_step st b)
unfolding fresh_step word_after
fresh_follows text commands st b stands c l e x w h none = go (nat_eq b 99) (nat_eq b 37) (nat_eq b 120) (is_nothing st.phrase) refl refl refl refl
  where
    more : nat_eq b 99 ≡ false → nat_eq b 37 ≡ false → (is_nothing st.phrase ≡ true → nat_eq b 120 ≡ false) → Follows st (text ++ b ∷ []) commands (more_step st b)
    more p q r =
        let word : st.word ≡ word_after st.limits.vars Empty stands.held = w ∙ ap (word_after st.limits.vars Empty) (sym none) in
        let F : List ℕ → Type 0 = λ t. IsWord st.phrase (t ++ b ∷ []) in
        more_follows text commands st b stands c l
        (subst (λ v. HoldsWord v (after (extended st.limits.vars st.word b) st) (stands.held ++ b ∷ [])) (sym x) (subst F (sym none) (first_word st.phrase b h e p q r), word-more st.limits.vars st.word stands.held b word))

    go : (p q r n : Bool) → nat_eq b 99 ≡ p → nat_eq b 37 ≡ q → nat_eq b 120 ≡ r → is_nothing st.phrase ≡ n → Follows st (text ++ b ∷ []) commands (elim p [
      | true ↦ Goes (comment_begins st) []
      | false ↦ elim q [ true ↦ percent_step st | false ↦ elim r [ true ↦ elim n [ true ↦ Goes (x_comes st) [] | false ↦ more_step st b ] | false ↦ more_step st b ] ]
    ])
    go true q r n f g i j = begins_follows text commands st b stands l f x w h none
    go false true r n f g i j = percent_follows text commands st b stands l g h none
    go false false true true f g i j = x_follows text commands st b stands c l i w (nothing st.phrase j) none
    go false false true false f g i j = more f g (λ k. absurd (false≢true (sym j ∙ k)))
    go false false false n f g i j = more f g (λ k. i)

-- A byte that is no blank comes outside comments.
solid_follows : (text : List ℕ) (commands : List Command) (st : State) (b : ℕ) (stands : Stands text commands st) → in_comment st.comment ≡ false → HoldsWord st.after_x st stands.held
    → st.place < st.limits.input → is_blank b ≡ false
    → Follows st (text ++ b ∷ []) commands (solid_step st b)
unfolding solid_step
solid_follows text commands st b stands c holds l e = go (goes_on st) refl
  where
    go : (v : Bool) → goes_on st ≡ v → Follows st (text ++ b ∷ []) commands (elim v [ true ↦ more_step st b | false ↦ fresh_step st b ])
    go true on = more_follows text commands st b stands c l (on_holds st stands.held b on e holds)
    go false off = let n = none_held st stands.held off holds in fresh_follows text commands st b stands c l e n.0 n.1 n.2 n.3

-- A byte comes outside comments.
plain_follows : (text : List ℕ) (commands : List Command) (st : State) (b : ℕ) (stands : Stands text commands st) → in_comment st.comment ≡ false → HoldsWord st.after_x st stands.held
    → st.place < st.limits.input
    → Follows st (text ++ b ∷ []) commands (plain_step st b)
unfolding plain_step
plain_follows text commands st b stands c holds l = go (is_blank b) refl
  where
    go : (v : Bool) → is_blank b ≡ v → Follows st (text ++ b ∷ []) commands (elim v [ true ↦ past_blank st.place (word_step st) | false ↦ solid_step st b ])
    go true h =
        blank_follows text commands st b stands h l (word_step st) (λ whole tail. leads_word text commands st stands holds whole (b ∷ tail) h (or_true whole true refl)) (word_leaves st c stands.fresh)
    go false h = solid_follows text commands st b stands c holds l h

-- A byte comes where a comment has begun.
line_follows : (text : List ℕ) (commands : List Command) (st : State) (b : ℕ) (stands : Stands text commands st) → in_comment st.comment ≡ true → HoldsComment st stands.held
    → st.place < st.limits.input
    → Follows st (text ++ b ∷ []) commands (comment_step st b)
unfolding comment_step is_blank
line_follows text commands st b stands c holds l = go (nat_eq b 10) refl
  where
    blank : nat_eq b 10 ≡ true → is_blank b ≡ true
    blank h = ap is_blank (eqb-true b 10 h)

    go : (v : Bool) → nat_eq b 10 ≡ v → Follows st (text ++ b ∷ []) commands (elim v [ true ↦ past_blank st.place (line_by st true st.comment) | false ↦ Goes (comment_byte st b st.comment) [] ])
    go true h =
        blank_follows text commands st b stands (blank h) l (line_by st true st.comment) (λ whole tail. leads_line text commands st stands holds whole (b ∷ tail) h (or_true whole true refl)) (line_leaves st true st.comment holds.word holds.no_x stands.fresh)
    go false h = comment_follows text commands st b stands c holds h l

-- The reader's step at a byte.
pub byte-follows : (text : List ℕ) (commands : List Command) (st : State) (b : ℕ) → Stands text commands st → Follows st (text ++ b ∷ []) commands (byte_step st b)
unfolding byte_step
byte-follows text commands st b stands = go (nat_lt st.place st.limits.input) refl
  where
    within : st.place < st.limits.input → (c : Bool) → in_comment st.comment ≡ c → Holds c st stands.held
        → Follows st (text ++ b ∷ []) commands (elim c [ true ↦ comment_step st b | false ↦ plain_step st b ])
    within l true c holds = line_follows text commands st b stands c holds l
    within l false c holds = plain_follows text commands st b stands c holds l

    go : (v : Bool) → nat_lt st.place st.limits.input ≡ v → Follows st (text ++ b ∷ []) commands (elim v [
      | true ↦ elim (in_comment st.comment) [ true ↦ comment_step st b | false ↦ plain_step st b ]
      | false ↦ Fails (TooLong st.limits.input) []
    ])
    go true e = within (ltb-true _ _ e) (in_comment st.comment) refl stands.holds
    go false e = long_follows text commands st b stands (ltb-false _ _ e)
