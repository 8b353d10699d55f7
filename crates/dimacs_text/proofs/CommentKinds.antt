-- Which command a comment is, byte by byte.
use Rattle.std.proofs.Common.{◌≡◌, ℕ, suc, ◌≤◌, Bool, true, false, List, [], ◌∷◌, Option, Some, None, nat_lt, nat_eq, length, drop, get_or, codes, refl, sym, ◌∙◌, ap, arith}
use Rattle.std.proofs.Math.Seq.{drop-cons}
use Rattle.std.proofs.lemmas.List.{drop_all}
use Rattle.std.proofs.lemmas.Bool.{ltb-true, ltb-false, eqb-true}
use Rattle.dimacs_text.specs.Walk.{is_blank}
use Rattle.dimacs_text.specs.Comments.{NoCommand, behind, behind_blanks, behind_bracket, skip_blanks, kind_by, kind_fronted, kind_named, kind_behind}
use Rattle.dimacs_text.specs.CommentSteps.{matched, fronted, solve_named, growth_named, comment_next, is_opened, kind_of}
use Rattle.dimacs_text.specs.declared.comment.Match.{Match}
use Rattle.dimacs_text.specs.declared.comment.Match.TheVariants.{Named, Opened, Lost}
use Rattle.dimacs_text.specs.declared.comment.Comment.{Comment}
use Rattle.dimacs_text.specs.declared.comment.Comment.TheVariants.{Absent, First, Gap, Front, SolveName, GrowthName, Solving, Growing, Skipped}

-- what follows a name and its bracket, where so much has come
abbrev behind_match : List ℕ → List ℕ → Match → Option (List ℕ)
behind_match name rest (Named count) = behind_bracket (drop count name) rest
behind_match name rest Opened = Some rest
behind_match name rest Lost = None

-- one byte of a name
behind-cons : (c : ℕ) (cs : List ℕ) (b : ℕ) (bs : List ℕ) → behind_bracket (c ∷ cs) (b ∷ bs) ≡ elim (nat_eq b c) [ true ↦ behind_bracket cs bs | false ↦ None ]
unfolding behind_bracket behind
behind-cons c cs b bs = go (nat_eq b c)
  where
    go : (v : Bool) → behind_blanks (elim v [ true ↦ behind cs bs | false ↦ None ]) ≡ elim v [ true ↦ behind_blanks (behind cs bs) | false ↦ None ]
    go true = refl
    go false = refl

-- the bracket behind a name
bracket : (b : ℕ) (bs : List ℕ) → behind_bracket [] (b ∷ bs) ≡ elim (is_blank b) [ true ↦ behind_bracket [] bs | false ↦ elim (nat_eq b 40) [ true ↦ Some bs | false ↦ None ] ]
unfolding behind_bracket behind skip_blanks
bracket b bs = go (is_blank b)
  where
    go : (v : Bool) → behind (codes "(") (elim v [ true ↦ skip_blanks bs | false ↦ b ∷ bs ]) ≡ elim v [ true ↦ behind (codes "(") (skip_blanks bs) | false ↦ elim (nat_eq b 40) [ true ↦ Some bs | false ↦ None ] ]
    go true = refl
    go false = refl

-- a name with one byte more
pub match-next : (name : List ℕ) (count b : ℕ) (bs : List ℕ) → behind_bracket (drop count name) (b ∷ bs) ≡ behind_match name bs (matched name count b)
match-next name count b bs = go (nat_lt count (length name)) refl
  where
    named : (v : Bool) → elim v [ true ↦ behind_bracket (drop (suc count) name) bs | false ↦ None ] ≡ behind_match name bs (elim v [ true ↦ Named (suc count) | false ↦ Lost ])
    named true = refl
    named false = refl

    behind_name : (u v : Bool) → length name ≤ count
        → elim u [ true ↦ behind_bracket [] bs | false ↦ elim v [ true ↦ Some bs | false ↦ None ] ] ≡ behind_match name bs (elim u [ true ↦ Named count | false ↦ elim v [ true ↦ Opened | false ↦ Lost ] ])
    behind_name true v h = let e : drop count name ≡ [] = drop_all count name h in ap (λ n. behind_bracket n bs) (sym e)
    behind_name false true h = refl
    behind_name false false h = refl

    go : (u : Bool) → nat_lt count (length name) ≡ u → behind_bracket (drop count name) (b ∷ bs) ≡ behind_match name bs (elim u [
      | true ↦ elim (nat_eq b (get_or name count 0)) [ true ↦ Named (suc count) | false ↦ Lost ]
      | false ↦ elim (is_blank b) [ true ↦ Named count | false ↦ elim (nat_eq b 40) [ true ↦ Opened | false ↦ Lost ] ]
    ])
    go true e =
        ap (λ n. behind_bracket n (b ∷ bs)) (drop-cons name count 0 (ltb-true _ _ e)) ∙ (behind-cons (get_or name count 0) (drop (suc count) name) b bs ∙ named (nat_eq b (get_or name count 0)))
    go false e = let h = ltb-false _ _ e in let q : drop count name ≡ [] = drop_all count name h in
        ap (λ n. behind_bracket n (b ∷ bs)) q ∙ (bracket b bs ∙ behind_name (is_blank b) (nat_eq b 40) h)

-- a solve, by how much of its name has come
solve_kind : (rest : List ℕ) (m : Match) → kind_by (behind_match (codes "solve") rest m) None ≡ kind_of (solve_named m) rest
solve_kind rest (Named count) = refl
solve_kind rest Opened = refl
solve_kind rest Lost = refl

-- a growth, by how much of its name has come
growth_kind : (rest : List ℕ) (m : Match) → kind_by None (behind_match (codes "new_vars") rest m) ≡ kind_of (growth_named m) rest
growth_kind rest (Named count) = refl
growth_kind rest Opened = refl
growth_kind rest Lost = refl

-- the first byte behind the front of both names tells which it is
which_name : (b : ℕ) (bs : List ℕ) → kind_by (behind_bracket (codes "solve") (b ∷ bs)) (behind_bracket (codes "new_vars") (b ∷ bs))
    ≡ kind_of (elim (nat_eq b 115) [ true ↦ SolveName 1 | false ↦ elim (nat_eq b 110) [ true ↦ GrowthName 1 | false ↦ Skipped ] ]) bs
which_name b bs =
    ap (λ x. kind_by x (behind_bracket (codes "new_vars") (b ∷ bs))) (behind-cons 115 (codes "olve") b bs)
    ∙ (ap (kind_by _) (behind-cons 110 (codes "ew_vars") b bs) ∙ go (nat_eq b 115) (nat_eq b 110) refl refl)
  where
    go : (u v : Bool) → nat_eq b 115 ≡ u → nat_eq b 110 ≡ v
        → kind_by (elim u [ true ↦ behind_bracket (codes "olve") bs | false ↦ None ]) (elim v [ true ↦ behind_bracket (codes "ew_vars") bs | false ↦ None ])
        ≡ kind_of (elim u [ true ↦ SolveName 1 | false ↦ elim v [ true ↦ GrowthName 1 | false ↦ Skipped ] ]) bs
    go true true e f = absurd (let x = eqb-true b 115 e in let y = eqb-true b 110 f in omega arith)
    go true false e f = refl
    go false true e f = refl
    go false false e f = refl

-- one byte of the front of both names
front-cons : (c : ℕ) (cs : List ℕ) (b : ℕ) (bs : List ℕ) → kind_fronted (behind (c ∷ cs) (b ∷ bs)) ≡ elim (nat_eq b c) [ true ↦ kind_fronted (behind cs bs) | false ↦ NoCommand ]
unfolding behind
front-cons c cs b bs = go (nat_eq b c)
  where
    go : (v : Bool) → kind_fronted (elim v [ true ↦ behind cs bs | false ↦ None ]) ≡ elim v [ true ↦ kind_fronted (behind cs bs) | false ↦ NoCommand ]
    go true = refl
    go false = refl

-- the front of both names with one byte more
front-next : (count b : ℕ) (bs : List ℕ) → kind_of (Front count) (b ∷ bs) ≡ kind_of (fronted count b) bs
unfolding behind
front-next count b bs = go (nat_lt count 8) refl
  where
    front : List ℕ
    front = codes "Solver::"

    named : (v : Bool) → elim v [ true ↦ kind_fronted (behind (drop (suc count) (codes "Solver::")) bs) | false ↦ NoCommand ] ≡ kind_of (elim v [ true ↦ Front (suc count) | false ↦ Skipped ]) bs
    named true = refl
    named false = refl

    go : (u : Bool) → nat_lt count 8 ≡ u → kind_of (Front count) (b ∷ bs) ≡ kind_of (elim u [
      | true ↦ elim (nat_eq b (get_or (codes "Solver::") count 0)) [ true ↦ Front (suc count) | false ↦ Skipped ]
      | false ↦ elim (nat_eq b 115) [ true ↦ SolveName 1 | false ↦ elim (nat_eq b 110) [ true ↦ GrowthName 1 | false ↦ Skipped ] ]
    ]) bs
    go true e = ap (λ n. kind_fronted (behind n (b ∷ bs))) (drop-cons (codes "Solver::") count 0 (ltb-true _ _ e))
        ∙ (front-cons (get_or (codes "Solver::") count 0) (drop (suc count) (codes "Solver::")) b bs ∙ named (nat_eq b (get_or (codes "Solver::") count 0)))
    go false e = let q : drop count (codes "Solver::") ≡ [] = drop_all count (codes "Solver::") (ltb-false _ _ e) in
        ap (λ n. kind_fronted (behind n (b ∷ bs))) q ∙ which_name b bs

-- blanks, or the first byte of the name
gap-next : (b : ℕ) (bs : List ℕ) → kind_of Gap (b ∷ bs) ≡ kind_of (elim (is_blank b) [ true ↦ Gap | false ↦ fronted 0 b ]) bs
unfolding kind_named skip_blanks
gap-next b bs = go (is_blank b)
  where
    go : (v : Bool) → kind_fronted (behind (codes "Solver::") (elim v [ true ↦ skip_blanks bs | false ↦ b ∷ bs ])) ≡ kind_of (elim v [ true ↦ Gap | false ↦ fronted 0 b ]) bs
    go true = unfold kind_named in refl
    go false = front-next 0 b bs

-- the first byte behind a comment's first
first-next : (b : ℕ) (bs : List ℕ) → kind_of First (b ∷ bs) ≡ kind_of (elim (is_blank b) [ true ↦ Gap | false ↦ Skipped ]) bs
unfolding kind_behind
first-next b bs = go (is_blank b)
  where
    go : (v : Bool) → elim v [ true ↦ kind_named (skip_blanks bs) | false ↦ NoCommand ] ≡ kind_of (elim v [ true ↦ Gap | false ↦ Skipped ]) bs
    go true = refl
    go false = refl

-- A byte that a comment goes on with does not change which command it is.
pub kind-next : (c : Comment) (b : ℕ) (bs : List ℕ) → is_opened c ≡ false → kind_of c (b ∷ bs) ≡ kind_of (comment_next c b) bs
kind-next Absent b bs h = refl
kind-next First b bs h = first-next b bs
kind-next Gap b bs h = gap-next b bs
kind-next (Front count) b bs h = front-next count b bs
kind-next (SolveName count) b bs h = ap (λ x. kind_by x None) (match-next (codes "solve") count b bs) ∙ solve_kind bs (matched (codes "solve") count b)
kind-next (GrowthName count) b bs h = ap (kind_by None) (match-next (codes "new_vars") count b bs) ∙ growth_kind bs (matched (codes "new_vars") count b)
kind-next Solving b bs h = cc
kind-next Growing b bs h = cc
kind-next Skipped b bs h = refl
