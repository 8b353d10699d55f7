-- A comment that goes on keeps what it says.
use Rattle.std.proofs.Common.{◌≡◌, ℕ, suc, ◌+◌, ◌-◌, Bool, true, false, ◌||◌, List, [], ◌∷◌, ◌++◌, None, length, nat_eq, refl, sym, ◌∙◌, ap, subst, append_assoc, arith}
use Rattle.std.proofs.lemmas.Bool.{false≢true}
use Rattle.sat_lits.specs.Limits.{LimitNumbers}
use Rattle.dimacs_text.specs.Walk.{is_blank}
use Rattle.dimacs_text.specs.Phrases.{in_list}
use Rattle.dimacs_text.specs.Comments.{SolveWith, GrowBy, kind, is_command, inside, is_closed}
use Rattle.dimacs_text.specs.CommentSteps.{comment_next, is_opened, kind_of}
use Rattle.dimacs_text.specs.Lists.{said, solve_in, growth_in, solve_said, solve_literals, growth_said, growth}
use Rattle.dimacs_text.specs.Arguments.{no_arguments, solve_says, growth_says, solve_byte, growth_byte, is_over, is_some, tokens_from, closed_by, past, more_byte, refuse, solve_word, growth_word}
use Rattle.dimacs_text.specs.Steps.{named_byte, comment_byte}
use Rattle.dimacs_text.specs.Stands.{IsComment, HoldsComment, comment_says}
use Rattle.dimacs_text.specs.declared.arguments.Arguments.{Arguments}
use Rattle.dimacs_text.specs.Words.{extended, is_begun}
use Rattle.dimacs_text.specs.declared.token.Word.{Word}
use Rattle.dimacs_text.specs.declared.token.Word.TheVariants.{Empty}
use Rattle.dimacs_text.specs.declared.comment.Comment.{Comment}
use Rattle.dimacs_text.specs.declared.comment.Comment.TheVariants.{Absent, First, Gap, Front, SolveName, GrowthName, Solving, Growing, Skipped}
use Rattle.dimacs_text.specs.declared.state.State.{State}
use Rattle.dimacs_text.proofs.Walks.{elim_true, elim_false}
use Rattle.dimacs_text.proofs.Lines.{in_line_push}
use Rattle.dimacs_text.proofs.Words.{IsBegun, extended-begun}
use Rattle.dimacs_text.specs.declared.refusal.Refusal.TheVariants.{BadToken}
use Rattle.dimacs_text.proofs.Bracketed.{solve-next}
use Rattle.dimacs_text.proofs.Growths.{growth-next}
use Rattle.dimacs_text.proofs.CommentKinds.{kind-next}

-- what a command says whose bracket has just come
solve-opened : (limits : LimitNumbers) (place end : ℕ) (by_byte : Bool) (named count : ℕ) (rest : List ℕ) → end ≡ place + length rest
    → said limits end by_byte named count (SolveWith rest) ≡ solve_says limits place end by_byte (no_arguments named count place) rest None
unfolding said solve_in tokens_from
solve-opened limits place end by_byte named count rest n =
    let e : end - length rest ≡ place = omega arith in
    ap (λ p. solve_said end by_byte (is_closed rest) (solve_literals limits p p (record { lits = []; named = named; count = count }) (inside rest))) e

-- so a growth
growth-opened : (limits : LimitNumbers) (place end : ℕ) (by_byte : Bool) (named count : ℕ) (rest : List ℕ) → end ≡ place + length rest
    → said limits end by_byte named count (GrowBy rest) ≡ growth_says limits place end by_byte (no_arguments named count place) rest None
unfolding said growth_in tokens_from
growth-opened limits place end by_byte named count rest n =
    let e : end - length rest ≡ place = omega arith in
    ap (λ p. growth_said (p + length (inside rest)) end by_byte (is_closed rest) count (growth limits named p p None (inside rest))) e

-- what a comment says that goes on before its bracket
pub named-says : (st : State) (next : Comment) (end : ℕ) (by_byte : Bool) (rest : List ℕ) → end ≡ suc st.place + length rest
    → said st.limits end by_byte st.named st.count (kind_of next rest) ≡ comment_says (named_byte st next) end by_byte rest next
named-says st Absent end by_byte rest n = refl
named-says st First end by_byte rest n = refl
named-says st Gap end by_byte rest n = refl
named-says st (Front count) end by_byte rest n = refl
named-says st (SolveName count) end by_byte rest n = refl
named-says st (GrowthName count) end by_byte rest n = refl
named-says st Solving end by_byte rest n = solve-opened st.limits (suc st.place) end by_byte st.named st.count rest n
named-says st Growing end by_byte rest n = growth-opened st.limits (suc st.place) end by_byte st.named st.count rest n
named-says st Skipped end by_byte rest n = refl

-- a byte more that ends no line
comment_push : (held : List ℕ) (b : ℕ) → IsComment held → nat_eq b 10 ≡ false → IsComment (held ++ b ∷ [])
comment_push [] b h e = absurd h
comment_push (x ∷ xs) b h e = (h.0, in_line_push xs b h.1 e)

-- what a comment says is the same with a byte more before its bracket
unopened-next : (st : State) (c : Comment) (b end : ℕ) (by_byte : Bool) (rest : List ℕ) → is_opened c ≡ false
    → comment_says st end by_byte (b ∷ rest) c ≡ said st.limits end by_byte st.named st.count (kind_of (comment_next c b) rest)
unopened-next st Absent b end by_byte rest h = ap (said st.limits end by_byte st.named st.count) (kind-next Absent b rest h)
unopened-next st First b end by_byte rest h = ap (said st.limits end by_byte st.named st.count) (kind-next First b rest h)
unopened-next st Gap b end by_byte rest h = ap (said st.limits end by_byte st.named st.count) (kind-next Gap b rest h)
unopened-next st (Front count) b end by_byte rest h = ap (said st.limits end by_byte st.named st.count) (kind-next (Front count) b rest h)
unopened-next st (SolveName count) b end by_byte rest h = ap (said st.limits end by_byte st.named st.count) (kind-next (SolveName count) b rest h)
unopened-next st (GrowthName count) b end by_byte rest h = ap (said st.limits end by_byte st.named st.count) (kind-next (GrowthName count) b rest h)
unopened-next st Solving b end by_byte rest h = cc
unopened-next st Growing b end by_byte rest h = cc
unopened-next st Skipped b end by_byte rest h = ap (said st.limits end by_byte st.named st.count) (kind-next Skipped b rest h)

-- A comment goes on before its bracket, or where it is no command.
pub named-goes : (st : State) (held : List ℕ) (b : ℕ) → HoldsComment st held → is_opened st.comment ≡ false → nat_eq b 10 ≡ false
    → HoldsComment (named_byte st (comment_next st.comment b)) (held ++ b ∷ [])
named-goes st held b holds o e = record {
  comment = comment_push held b holds.comment e;
  word = holds.word;
  no_x = holds.no_x;
  no_header = holds.no_header;
  command = λ rest. ap (λ t. is_command (kind t)) (append_assoc held (b ∷ []) rest) ∙ (holds.command (b ∷ rest) ∙ ap is_command (kind-next st.comment b rest o));
  says = λ i end by_byte rest n.
      let m : end ≡ st.place + length (b ∷ rest) = omega (arith, n) in
      ap (λ t. said st.limits end by_byte st.named st.count (kind t)) (append_assoc held (b ∷ []) rest)
      ∙ (holds.says i end by_byte (b ∷ rest) m ∙ (unopened-next st st.comment b end by_byte rest o ∙ named-says st (comment_next st.comment b) end by_byte rest n));
  begins = λ i p v w. ap (λ (a : Arguments). a.start) (elim_true (is_opened (comment_next st.comment b)) (no_arguments st.named st.count (suc st.place)) st.arguments p);
}

-- where the next token of a solve begins
solve-begins : (limits : LimitNumbers) (place : ℕ) (a : Arguments) (b : ℕ) → is_over (solve_byte limits place a b) ≡ false → (solve_byte limits place a b).word ≡ Empty
    → (solve_byte limits place a b).start ≡ suc place
unfolding solve_byte
solve-begins limits place a b = go (is_over a) (nat_eq b 41) (is_blank b) refl
  where
    Starts : Arguments → Type 0
    Starts x = is_over x ≡ false → x.word ≡ Empty → x.start ≡ suc place

    begun : (w : Word) → IsBegun w → w ≡ Empty → ⊥
    begun w h e = false≢true (sym (ap is_begun e) ∙ h)

    go : (u v w : Bool) → is_over a ≡ u → Starts (elim u [
      | true ↦ a
      | false ↦ elim v [ true ↦ closed_by (solve_word limits a a.word) | false ↦ elim w [ true ↦ past place (solve_word limits a a.word) | false ↦ more_byte limits a b ] ]
    ])
    go true v w o = λ p q. absurd (false≢true (sym p ∙ o))
    go false true w o = λ p q. absurd (false≢true (sym p))
    go false false true o = λ p q. refl
    go false false false o = λ p q. absurd (begun (extended limits.vars a.word b) (extended-begun limits.vars a.word b) q)

-- where the next token of a growth begins
growth-begins : (limits : LimitNumbers) (place : ℕ) (a : Arguments) (b : ℕ) → is_over (growth_byte limits place a b) ≡ false → (growth_byte limits place a b).word ≡ Empty
    → (growth_byte limits place a b).start ≡ suc place
unfolding growth_byte
growth-begins limits place a b = go (is_over a) (nat_eq b 41) (is_blank b) ((growth_word limits a a.word).has_number || is_some (growth_word limits a a.word).refused) refl
  where
    Starts : Arguments → Type 0
    Starts x = is_over x ≡ false → x.word ≡ Empty → x.start ≡ suc place

    begun : (w : Word) → IsBegun w → w ≡ Empty → ⊥
    begun w h e = false≢true (sym (ap is_begun e) ∙ h)

    go : (u v w x : Bool) → is_over a ≡ u → Starts (elim u [
      | true ↦ a
      | false ↦ elim v [
        | true ↦ elim x [ true ↦ closed_by (growth_word limits a a.word) | false ↦ closed_by (refuse (growth_word limits a a.word) (BadToken place)) ]
        | false ↦ elim w [ true ↦ past place (growth_word limits a a.word) | false ↦ more_byte limits a b ]
      ]
    ])
    go true v w x o = λ p q. absurd (false≢true (sym p ∙ o))
    go false true w true o = λ p q. absurd (false≢true (sym p))
    go false true w false o = λ p q. absurd (false≢true (sym p))
    go false false true x o = λ p q. refl
    go false false false x o = λ p q. absurd (begun (extended limits.vars a.word b) (extended-begun limits.vars a.word b) q)

-- A solve goes on.
pub solving-goes : (st : State) (held : List ℕ) (b : ℕ) → HoldsComment st held → st.comment ≡ Solving → nat_eq b 10 ≡ false → HoldsComment (comment_byte st b Solving) (held ++ b ∷ [])
unfolding comment_byte
solving-goes st held b holds c e = record {
  comment = comment_push held b holds.comment e;
  word = holds.word;
  no_x = holds.no_x;
  no_header = holds.no_header;
  command =
      λ rest. ap (λ t. is_command (kind t)) (append_assoc held (b ∷ []) rest)
      ∙ (holds.command (b ∷ rest) ∙ (ap (λ x. is_command (kind_of x (b ∷ rest))) c ∙ sym (ap (λ x. is_command (kind_of x rest)) c)));
  says = λ i end by_byte rest n.
      let m : end ≡ st.place + length (b ∷ rest) = omega (arith, n) in
      let q = elim_false (in_list st.phrase) st.arguments (solve_byte st.limits st.place st.arguments b) i in
      ap (λ t. said st.limits end by_byte st.named st.count (kind t)) (append_assoc held (b ∷ []) rest)
      ∙ (holds.says i end by_byte (b ∷ rest) m
      ∙ (ap (comment_says st end by_byte (b ∷ rest)) c
      ∙ (solve-next st.limits st.place end by_byte st.arguments b rest (holds.begins i (ap is_opened c))
      ∙ (sym (ap (λ (a : Arguments). solve_says st.limits (suc st.place) end by_byte a rest a.refused) q)
      ∙ sym (ap (comment_says (comment_byte st b Solving) end by_byte rest) c)))));
  begins = λ i p v w.
      let F : Arguments → Type 0 = λ a. is_over a ≡ false → a.word ≡ Empty → a.start ≡ suc st.place in
      subst F (sym (elim_false (in_list st.phrase) st.arguments (solve_byte st.limits st.place st.arguments b) i)) (solve-begins st.limits st.place st.arguments b) v w;
}

-- A growth goes on.
pub growing-goes : (st : State) (held : List ℕ) (b : ℕ) → HoldsComment st held → st.comment ≡ Growing → nat_eq b 10 ≡ false → HoldsComment (comment_byte st b Growing) (held ++ b ∷ [])
unfolding comment_byte
growing-goes st held b holds c e = record {
  comment = comment_push held b holds.comment e;
  word = holds.word;
  no_x = holds.no_x;
  no_header = holds.no_header;
  command =
      λ rest. ap (λ t. is_command (kind t)) (append_assoc held (b ∷ []) rest)
      ∙ (holds.command (b ∷ rest) ∙ (ap (λ x. is_command (kind_of x (b ∷ rest))) c ∙ sym (ap (λ x. is_command (kind_of x rest)) c)));
  says = λ i end by_byte rest n.
      let m : end ≡ st.place + length (b ∷ rest) = omega (arith, n) in
      let q = elim_false (in_list st.phrase) st.arguments (growth_byte st.limits st.place st.arguments b) i in
      ap (λ t. said st.limits end by_byte st.named st.count (kind t)) (append_assoc held (b ∷ []) rest)
      ∙ (holds.says i end by_byte (b ∷ rest) m
      ∙ (ap (comment_says st end by_byte (b ∷ rest)) c
      ∙ (growth-next st.limits st.place end by_byte st.arguments b rest (holds.begins i (ap is_opened c))
      ∙ (sym (ap (λ (a : Arguments). growth_says st.limits (suc st.place) end by_byte a rest a.refused) q)
      ∙ sym (ap (comment_says (comment_byte st b Growing) end by_byte rest) c)))));
  begins = λ i p v w.
      let F : Arguments → Type 0 = λ a. is_over a ≡ false → a.word ≡ Empty → a.start ≡ suc st.place in
      subst F (sym (elim_false (in_list st.phrase) st.arguments (growth_byte st.limits st.place st.arguments b) i)) (growth-begins st.limits st.place st.arguments b) v w;
}

-- A comment goes on.
pub comment-goes : (st : State) (held : List ℕ) (b : ℕ) (c : Comment) → HoldsComment st held → st.comment ≡ c → nat_eq b 10 ≡ false → HoldsComment (comment_byte st b c) (held ++ b ∷ [])
unfolding comment_byte
comment-goes st held b Solving holds c e = solving-goes st held b holds c e
comment-goes st held b Growing holds c e = growing-goes st held b holds c e
comment-goes st held b Absent holds c e = let F : Comment → Type 0 = λ x. HoldsComment (named_byte st (comment_next x b)) (held ++ b ∷ []) in subst F c (named-goes st held b holds (ap is_opened c) e)
comment-goes st held b First holds c e = let F : Comment → Type 0 = λ x. HoldsComment (named_byte st (comment_next x b)) (held ++ b ∷ []) in subst F c (named-goes st held b holds (ap is_opened c) e)
comment-goes st held b Gap holds c e = let F : Comment → Type 0 = λ x. HoldsComment (named_byte st (comment_next x b)) (held ++ b ∷ []) in subst F c (named-goes st held b holds (ap is_opened c) e)
comment-goes st held b (Front count) holds c e =
    let F : Comment → Type 0 = λ x. HoldsComment (named_byte st (comment_next x b)) (held ++ b ∷ []) in subst F c (named-goes st held b holds (ap is_opened c) e)
comment-goes st held b (SolveName count) holds c e =
    let F : Comment → Type 0 = λ x. HoldsComment (named_byte st (comment_next x b)) (held ++ b ∷ []) in subst F c (named-goes st held b holds (ap is_opened c) e)
comment-goes st held b (GrowthName count) holds c e =
    let F : Comment → Type 0 = λ x. HoldsComment (named_byte st (comment_next x b)) (held ++ b ∷ []) in subst F c (named-goes st held b holds (ap is_opened c) e)
comment-goes st held b Skipped holds c e = let F : Comment → Type 0 = λ x. HoldsComment (named_byte st (comment_next x b)) (held ++ b ∷ []) in subst F c (named-goes st held b holds (ap is_opened c) e)
