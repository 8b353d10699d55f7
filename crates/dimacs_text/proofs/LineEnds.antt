-- What a comment says where its line ends.
use Rattle.std.proofs.Common.{◌≡◌, ℕ, ◌+◌, Bool, true, false, ◌||◌, List, [], ◌∷◌, Option, Some, None, Result, Ok, Err, length, drop, codes, refl, sym, ◌∙◌, ap}
use Rattle.std.proofs.lemmas.Bool.{false≢true}
use Rattle.sat_lits.specs.Limits.{LimitNumbers}
use Rattle.dimacs_text.specs.Comments.{NoCommand, inside, is_closed, behind, behind_bracket, skip_blanks, kind_by, kind_fronted, kind_named, kind_behind}
use Rattle.dimacs_text.specs.CommentSteps.{is_opened, kind_of}
use Rattle.dimacs_text.specs.Lists.{solve_turn, solve_end, solve_literals, growth_turn, growth_end, growth, Said, Says, Refuses, solve_said, growth_said, unclosed}
use Rattle.dimacs_text.specs.Arguments.{solve_word, solve_last, solve_word_met, solve_says, solve_going, growth_word, growth_last, growth_word_met, growth_says, growth_going, sum_in, listing_in, is_over, is_some, judged, judged_by}
use Rattle.dimacs_text.specs.declared.arguments.Arguments.{Arguments}
use Rattle.dimacs_text.specs.declared.comment.Comment.{Comment}
use Rattle.dimacs_text.specs.declared.comment.Comment.TheVariants.{Absent, First, Gap, Front, SolveName, GrowthName, Solving, Growing, Skipped}
use Rattle.dimacs_text.specs.declared.command.Command.{Command}
use Rattle.dimacs_text.specs.declared.command.Command.TheVariants.{Solve, Grow}
use Rattle.dimacs_text.specs.declared.refusal.Refusal.{Refusal}
use Rattle.dimacs_text.proofs.Tokenings.{tokens-end}
use Rattle.dimacs_text.proofs.Bracketed.{solve-held, solve-behind, solve-open, word-said as solve_word-said, word-leaves as solve_word-leaves, said_by as solve_by}
use Rattle.dimacs_text.proofs.Growths.{growth-held, growth-behind, growth-open, word-said as growth_word-said, word-leaves as growth_word-leaves, said_by as growth_by}

-- what a command says that is judged
abbrev pub judged_said : Command → Arguments → Result (Unit {0}) Refusal → Said
judged_said command a (Ok x) = Says command a.named a.count
judged_said command a (Err why) = Refuses why

-- neither is there
pub not_over : (r : Option Refusal) (c : Bool) → c || is_some r ≡ false → (r ≡ None) × (c ≡ false)
not_over None false h = (refl, refl)
not_over None true h = absurd (false≢true (sym h))
not_over (Some why) false h = absurd (false≢true (sym h))
not_over (Some why) true h = absurd (false≢true (sym h))

-- A solve whose line ends says its literals, or it is refused.
pub solve-ends : (limits : LimitNumbers) (place end : ℕ) (by_byte : Bool) (a : Arguments)
    → solve_says limits place end by_byte a [] a.refused ≡ judged_said (Solve (solve_last limits a).lits) (solve_last limits a) (judged (solve_last limits a) by_byte end)
unfolding inside is_closed solve_literals
solve-ends limits place end by_byte a = go (is_over a) refl
  where
    says : Arguments → Said
    says x = judged_said (Solve x.lits) x (judged x by_byte end)

    over : (r : Option Refusal) (c : Bool) → a.is_closed ≡ c → c || is_some r ≡ true → solve_says limits place end by_byte a [] r ≡ judged_said (Solve a.lits) a (judged_by a.is_closed by_byte end r)
    over (Some why) c f k = refl
    over None true f k = ap (solve_going limits place end by_byte a []) f ∙ sym (ap (λ c. judged_said (Solve a.lits) a (judged_by c by_byte end None)) f)
    over None false f k = absurd (false≢true k)

    cut : (r : Option Refusal) (x : Arguments) → x.is_closed ≡ false → solve_by (λ l. solve_said end by_byte false (Ok l)) x r ≡ judged_said (Solve x.lits) x (judged_by x.is_closed by_byte end r)
    cut None x f = sym (ap (λ c. judged_said (Solve x.lits) x (judged_by c by_byte end None)) f)
    cut (Some why) x f = refl

    go : (v : Bool) → is_over a ≡ v → solve_says limits place end by_byte a [] a.refused ≡ says (elim v [ true ↦ a | false ↦ solve_word limits a a.word ])
    go true o = over a.refused a.is_closed refl o
    go false o =
        let n = not_over a.refused a.is_closed o in
        let left = solve_word-leaves limits a a.word refl in
        solve-open limits place end by_byte a [] n.0 n.1
        ∙ (ap (solve_said end by_byte false) (tokens-end limits.vars (solve_turn limits) solve_end (solve_word_met limits) (solve-held limits) (solve-behind limits) a.start place (listing_in a) a.word)
        ∙ (solve_word-said limits place end by_byte false a a.word (λ l. Ok l) n.0
        ∙ cut (solve_word limits a a.word).refused (solve_word limits a a.word) (left.1 ∙ n.1)))

-- A growth whose line ends says its sum, or it is refused.
pub growth-ends : (limits : LimitNumbers) (place end : ℕ) (by_byte : Bool) (a : Arguments)
    → growth_says limits place end by_byte a [] a.refused ≡ judged_said (Grow (growth_last limits a).named) (growth_last limits a) (judged (growth_last limits a) by_byte end)
unfolding inside is_closed growth
growth-ends limits place end by_byte a = go (is_over a) refl
  where
    says : Arguments → Said
    says x = judged_said (Grow x.named) x (judged x by_byte end)

    over : (r : Option Refusal) (c : Bool) → a.is_closed ≡ c → c || is_some r ≡ true → growth_says limits place end by_byte a [] r ≡ judged_said (Grow a.named) a (judged_by a.is_closed by_byte end r)
    over (Some why) c f k = refl
    over None true f k = ap (growth_going limits place end by_byte a []) f ∙ sym (ap (λ c. judged_said (Grow a.named) a (judged_by c by_byte end None)) f)
    over None false f k = absurd (false≢true k)

    summed : (bracket : ℕ) (count : ℕ) (s : Option ℕ) → growth_said bracket end by_byte false count (Ok s) ≡ Refuses (unclosed by_byte end)
    summed bracket count None = refl
    summed bracket count (Some x) = refl

    cut : (r : Option Refusal) (x : Arguments) → x.is_closed ≡ false → growth_by (λ named s count. growth_said (place + length {A = ℕ} []) end by_byte false count (Ok s)) x r ≡ judged_said (Grow x.named) x (judged_by x.is_closed by_byte end r)
    cut None x f = summed (place + length {A = ℕ} []) x.count (sum_in x) ∙ sym (ap (λ c. judged_said (Grow x.named) x (judged_by c by_byte end None)) f)
    cut (Some why) x f = refl

    go : (v : Bool) → is_over a ≡ v → growth_says limits place end by_byte a [] a.refused ≡ says (elim v [ true ↦ a | false ↦ growth_word limits a a.word ])
    go true o = over a.refused a.is_closed refl o
    go false o =
        let n = not_over a.refused a.is_closed o in
        let left = growth_word-leaves limits a a.word refl in
        growth-open limits place end by_byte a [] n.0 n.1
        ∙ (ap (growth_said (place + length {A = ℕ} []) end by_byte false a.count) (tokens-end limits.vars (growth_turn limits a.named) growth_end (growth_word_met limits a.named) (growth-held limits a.named) (growth-behind limits a.named) a.start place (sum_in a) a.word)
        ∙ (growth_word-said limits place (place + length {A = ℕ} []) end by_byte false a a.word (λ named s. Ok s) (λ x y s. refl) n.0
        ∙ cut (growth_word limits a a.word).refused (growth_word limits a a.word) (left.1 ∙ n.1)))

-- a name that ends has no bracket
none_behind : (name : List ℕ) → behind_bracket name [] ≡ None
unfolding behind_bracket behind skip_blanks
none_behind [] = refl
none_behind (x ∷ xs) = refl

-- nor has the front of both names
none_fronted : (front : List ℕ) → kind_fronted (behind front []) ≡ NoCommand
unfolding behind_bracket behind skip_blanks
none_fronted [] = refl
none_fronted (x ∷ xs) = refl

-- what ends before its bracket is no command
pub kind-end : (c : Comment) → is_opened c ≡ false → kind_of c [] ≡ NoCommand
unfolding kind_behind kind_named skip_blanks behind
kind-end Absent h = refl
kind-end First h = refl
kind-end Gap h = refl
kind-end (Front count) h = none_fronted (drop count (codes "Solver::"))
kind-end (SolveName count) h = ap (λ x. kind_by x None) (none_behind (drop count (codes "solve")))
kind-end (GrowthName count) h = ap (kind_by None) (none_behind (drop count (codes "new_vars")))
kind-end Solving h = cc
kind-end Growing h = cc
kind-end Skipped h = refl
