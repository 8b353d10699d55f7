-- Which clauses have all literals of others, also when entries are put into all of them.
use Rattle.std.proofs.Common.{◌≡◌, Bool, true, false, cond, not, ◌&&◌, List, [], ◌∷◌, ◌++◌, Option, Some, None, filter, refl, sym, ap, ◌∙◌, ⊎_elim}
use Rattle.std.proofs.lemmas.Bool.{and_parts, and_from, or_cases, or_left, or_right, false≢true}
use Rattle.std.proofs.lemmas.List.Folds.{list_all-append, list_any-append}
use Rattle.std.specs.List.{list_any, list_all, cons_option}
use Rattle.sat_lits.specs.ListLaws.{all_mono, any_mono}
use Rattle.sat_lits.specs.declared.literal.OwnLit.{OwnLit}
use Rattle.rebuild_stack.specs.Roots.{turned, is_lost}
use Rattle.rebuild_stack.specs.PutIn.{same_lit, put_in, put_in_all}
use Rattle.rebuild_stack.specs.declared.entry.Root.{Root}
use Rattle.rebuild_stack.specs.declared.entry.Root.TheVariants.{Known, Last, Lost}
use Rattle.sync_laws.specs.Met.{is_within, are_subsumed, is_covered}
use Rattle.sync_laws.specs.FitLaws.{root_fits, left_passes, same_refl, stands_passes, IsConsistent, put_in_left, put_in_fits, clean_consistent, left_clean}

-- a clause has all its own literals
pub within_refl : (c : List OwnLit) → is_within c c ≡ true
within_refl c = go c (λ k. list_any (same_lit k) c) (λ k e. e)
  where
    go : (d : List OwnLit) (p : OwnLit → Bool) → ((k : OwnLit) → list_any (same_lit k) d ≡ true → p k ≡ true) → list_all p d ≡ true
    go [] p h = refl
    go (l ∷ d) p h = and_from _ _ (h l (or_left _ _ (same_refl l))) (go d p (λ k e. h k (or_right _ _ e)))

-- a clause within one that is within a third is within that
pub within_trans : (a b c : List OwnLit) → is_within a b ≡ true → is_within b c ≡ true → is_within a c ≡ true
within_trans a b c e f = all_mono (λ k. list_any (same_lit k) b) (λ k. list_any (same_lit k) c) (λ k g. stands_passes (λ j. list_any (same_lit j) c) k b g f) a e

-- each clause has all literals of one in a list with more behind it
pub subsumed_right : (cs ds es : List (List OwnLit)) → are_subsumed cs ds ≡ true → are_subsumed cs (ds ++ es) ≡ true
subsumed_right cs ds es e =
    all_mono (λ c. list_any (λ d. is_within d c) ds) (λ c. list_any (λ d. is_within d c) (ds ++ es)) (λ c f. list_any-append (λ d. is_within d c) ds es ∙ or_left _ _ f) cs e

-- or with more before it
pub subsumed_left : (cs ds es : List (List OwnLit)) → are_subsumed cs ds ≡ true → are_subsumed cs (es ++ ds) ≡ true
subsumed_left cs ds es e =
    all_mono (λ c. list_any (λ d. is_within d c) ds) (λ c. list_any (λ d. is_within d c) (es ++ ds)) (λ c f. list_any-append (λ d. is_within d c) es ds ∙ or_right _ _ f) cs e

-- clauses have all literals of themselves
pub subsumed_refl : (cs : List (List OwnLit)) → are_subsumed cs cs ≡ true
subsumed_refl [] = refl
subsumed_refl (c ∷ cs) = and_from _ _ (or_left _ _ (within_refl c)) (subsumed_left cs cs (c ∷ []) (subsumed_refl cs))

-- two lists of them together
pub subsumed_both : (cs ds es : List (List OwnLit)) → are_subsumed cs es ≡ true → are_subsumed ds es ≡ true → are_subsumed (cs ++ ds) es ≡ true
subsumed_both cs ds es e f = list_all-append (λ c. list_any (λ d. is_within d c) es) cs ds ∙ and_from _ _ e f

-- fewer clauses too
pub subsumed_filter : (q : List OwnLit → Bool) (cs : List (List OwnLit)) → are_subsumed (filter q cs) cs ≡ true
subsumed_filter q [] = refl
subsumed_filter q (c ∷ cs) = go (q c) (subsumed_left (filter q cs) cs (c ∷ []) (subsumed_filter q cs))
  where
    go : (b : Bool) → are_subsumed (filter q cs) (c ∷ cs) ≡ true → are_subsumed (cond b (c ∷ filter q cs) (filter q cs)) (c ∷ cs) ≡ true
    go true e = and_from _ _ (or_left _ _ (within_refl c)) e
    go false e = e

some_within : (cs ds : List (List OwnLit)) (o : List OwnLit) → are_subsumed cs ds ≡ true → list_any (λ c. is_within c o) cs ≡ true → list_any (λ d. is_within d o) ds ≡ true
some_within [] ds o e f = absurd (false≢true f)
some_within (c ∷ cs) ds o e f =
    let a : (list_any (λ d. is_within d c) ds ≡ true) × (are_subsumed cs ds ≡ true) = and_parts _ _ e in
    ⊎_elim
    (λ (g : is_within c o ≡ true). any_mono (λ d. is_within d c) (λ d. is_within d o) (λ d h. within_trans d c o h g) ds a.0)
    (λ (g : list_any (λ x. is_within x o) cs ≡ true). some_within cs ds o a.1 g)
    (or_cases _ _ f)

-- what one list covers, a list covers by which it is subsumed
pub covered_by : (cs ds : List (List OwnLit)) (o : Option (List OwnLit)) → are_subsumed cs ds ≡ true → is_covered cs o ≡ true → is_covered ds o ≡ true
covered_by cs ds None e f = refl
covered_by cs ds (Some d) e f = some_within cs ds d e f

-- what is subsumed by clauses is so by clauses that subsume these
pub subsumed_through : (cs ds es : List (List OwnLit)) → are_subsumed cs ds ≡ true → are_subsumed ds es ≡ true → are_subsumed cs es ≡ true
subsumed_through cs ds es e f = all_mono (λ c. list_any (λ d. is_within d c) ds) (λ c. list_any (λ d. is_within d c) es) (λ c g. some_within ds es c f g) cs e

-- clauses that are split by a test pass another where both parts do
pub all_split : {X : Type 0} (p q : X → Bool) (xs : List X) → list_all p (filter q xs) ≡ true → list_all p (filter (λ x. not (q x)) xs) ≡ true → list_all p xs ≡ true
all_split p q [] e f = refl
all_split {X = X} p q (x ∷ xs) e f = go (q x) e f (λ a b. all_split p q xs a b)
  where
    go : (b : Bool) → list_all p (cond b (x ∷ filter q xs) (filter q xs)) ≡ true → list_all p (cond (not b) (x ∷ filter (λ y. not (q y)) xs) (filter (λ y. not (q y)) xs)) ≡ true
        → (list_all p (filter q xs) ≡ true → list_all p (filter (λ y. not (q y)) xs) ≡ true → list_all p xs ≡ true) → (p x && list_all p xs) ≡ true
    go true e f r = let a : (p x ≡ true) × (list_all p (filter q xs) ≡ true) = and_parts _ _ e in and_from _ _ a.0 (r a.1 f)
    go false e f r = let a : (p x ≡ true) × (list_all p (filter (λ y. not (q y)) xs) ≡ true) = and_parts _ _ f in and_from _ _ a.0 (r e a.1)

-- whether a clause of which something may be left passes, where it is not settled
abbrev pub option_test : (List OwnLit → Bool) → Option (List OwnLit) → Bool
option_test p None = true
option_test p (Some c) = p c

cons_all : (p : List OwnLit → Bool) (o : Option (List OwnLit)) (cs : List (List OwnLit)) → list_all p (cons_option o cs) ≡ true → (option_test p o ≡ true) × (list_all p cs ≡ true)
cons_all p None cs e = (refl, e)
cons_all p (Some c) cs e = and_parts _ _ e

all_cons : (p : List OwnLit → Bool) (o : Option (List OwnLit)) (cs : List (List OwnLit)) → option_test p o ≡ true → list_all p cs ≡ true → list_all p (cons_option o cs) ≡ true
all_cons p None cs e f = f
all_cons p (Some c) cs e f = and_from _ _ e f

-- the same of clauses that something is put into
pub all_put_split : {L : Type 0} (p : List OwnLit → Bool) (r : L → Root) (q : List L → Bool) (cs : List (List L)) → list_all p (put_in_all r (filter q cs)) ≡ true → list_all p (put_in_all r (filter (λ c. not (q c)) cs)) ≡ true → list_all p (put_in_all r cs) ≡ true
all_put_split p r q [] e f = refl
all_put_split {L = L} p r q (c ∷ cs) e f = go (q c) e f (λ a b. all_put_split p r q cs a b)
  where
    go : (b : Bool) → list_all p (put_in_all r (cond b (c ∷ filter q cs) (filter q cs))) ≡ true → list_all p (put_in_all r (cond (not b) (c ∷ filter (λ d. not (q d)) cs) (filter (λ d. not (q d)) cs))) ≡ true
        → (list_all p (put_in_all r (filter q cs)) ≡ true → list_all p (put_in_all r (filter (λ d. not (q d)) cs)) ≡ true → list_all p (put_in_all r cs) ≡ true) → list_all p (cons_option (put_in r c) (put_in_all r cs)) ≡ true
    go true e f h = let a : (option_test p (put_in r c) ≡ true) × (list_all p (put_in_all r (filter q cs)) ≡ true) = cons_all p (put_in r c) (put_in_all r (filter q cs)) e in all_cons p (put_in r c) (put_in_all r cs) a.0 (h a.1 f)
    go false e f h = let a : (option_test p (put_in r c) ≡ true) × (list_all p (put_in_all r (filter (λ d. not (q d)) cs)) ≡ true) = cons_all p (put_in r c) (put_in_all r (filter (λ d. not (q d)) cs)) f in all_cons p (put_in r c) (put_in_all r cs) a.0 (h e a.1)

-- a clause that passes stays where one more may stand before it
pub any_cons : (p : List OwnLit → Bool) (o : Option (List OwnLit)) (cs : List (List OwnLit)) → list_any p cs ≡ true → list_any p (cons_option o cs) ≡ true
any_cons p None cs e = e
any_cons p (Some c) cs e = or_right _ _ e

-- where what is left of a clause passes, a clause passes
pub any_here : (p : OwnLit → Bool) (q : List OwnLit → Bool) → ((c : List OwnLit) → list_all p c ≡ true → q c ≡ true) → (o : Option (List OwnLit)) (cs : List (List OwnLit)) → left_passes p o ≡ true → list_any q (cons_option o cs) ≡ true
any_here p q h None cs e = absurd (false≢true e)
any_here p q h (Some c) cs e = or_left _ _ (h c e)

-- what a literal comes to by one way and then by another
abbrev pub on_root : (OwnLit → Root) → Root → Root
on_root r (Known x) = Known x
on_root r (Last k) = r k
on_root r (Lost v) = Lost v

-- the opposite of what a literal came to
abbrev pub opposite_root : Root → Root
opposite_root (Known x) = Known (not x)
opposite_root (Last k) = Last (turned true k)
opposite_root (Lost v) = Lost v

-- a way to put something in that loses no literal, and gives opposite literals opposite roots
pub record IsWay (r : OwnLit → Root) : Type 0 where
  pub kept : (k : OwnLit) → is_lost (r k) ≡ false
  pub opposite : (k : OwnLit) → r (turned true k) ≡ opposite_root (r k)

fits_on : (p : OwnLit → Bool) (r : OwnLit → Root) (x : Root) → root_fits p (on_root r x) ≡ true → root_fits (λ k. root_fits p (r k)) x ≡ true
fits_on p r (Known x) e = e
fits_on p r (Last k) e = e
fits_on p r (Lost v) e = refl

on_fits : (p : OwnLit → Bool) (r : OwnLit → Root) (x : Root) → root_fits (λ k. root_fits p (r k)) x ≡ true → root_fits p (on_root r x) ≡ true
on_fits p r (Known x) e = e
on_fits p r (Last k) e = e
on_fits p r (Lost v) e = refl

-- no literal fits beside its negation
pub fits_consistent : (p : OwnLit → Bool) (r : OwnLit → Root) → IsWay r → IsConsistent p → IsConsistent (λ k. root_fits p (r k))
fits_consistent p r w h k e f = go (r k) (w.kept k) e (sym (ap (root_fits p) (w.opposite k)) ∙ f)
  where
    go : (x : Root) → is_lost x ≡ false → root_fits p x ≡ true → root_fits p (opposite_root x) ≡ true → ⊥
    go (Known true) l e f = false≢true e
    go (Known false) l e f = false≢true f
    go (Last j) l e f = h j e f
    go (Lost v) l e f = false≢true (sym l)

fits_mono : (p q : OwnLit → Bool) → ((k : OwnLit) → p k ≡ true → q k ≡ true) → (x : Root) → root_fits p x ≡ true → root_fits q x ≡ true
fits_mono p q h (Known x) e = e
fits_mono p q h (Last k) e = h k e
fits_mono p q h (Lost v) e = refl

-- clauses that something is put into twice have all literals of one that both are put into at once
pub subsumed_twice : {L : Type 0} (r : L → Root) (t : OwnLit → Root) → (cs : List (List L)) → are_subsumed (put_in_all t (put_in_all r cs)) (put_in_all (λ l. on_root t (r l)) cs) ≡ true
subsumed_twice r t [] = refl
subsumed_twice {L = L} r t (c ∷ cs) = first (subsumed_twice r t cs) (put_in r c) refl
  where
    rest : are_subsumed (put_in_all t (put_in_all r cs)) (put_in_all (λ l. on_root t (r l)) cs) ≡ true → are_subsumed (put_in_all t (put_in_all r cs)) (cons_option (put_in (λ l. on_root t (r l)) c) (put_in_all (λ l. on_root t (r l)) cs)) ≡ true
    rest h =
        all_mono (λ x. list_any (λ d. is_within d x) (put_in_all (λ l. on_root t (r l)) cs)) (λ x. list_any (λ d. is_within d x) (cons_option (put_in (λ l. on_root t (r l)) c) (put_in_all (λ l. on_root t (r l)) cs)))
        (λ x e. any_cons (λ d. is_within d x) (put_in (λ l. on_root t (r l)) c) (put_in_all (λ l. on_root t (r l)) cs) e) (put_in_all t (put_in_all r cs)) h

    second : are_subsumed (put_in_all t (put_in_all r cs)) (put_in_all (λ l. on_root t (r l)) cs) ≡ true → (d : List OwnLit) → put_in r c ≡ Some d → (o : Option (List OwnLit)) → put_in t d ≡ o
        → are_subsumed (cons_option o (put_in_all t (put_in_all r cs))) (cons_option (put_in (λ l. on_root t (r l)) c) (put_in_all (λ l. on_root t (r l)) cs)) ≡ true
    second h d e None f = rest h
    second h d e (Some x) f =
        and_from _ _
        (any_here (λ j. list_any (same_lit j) x) (λ y. is_within y x) (λ y g. g) (put_in (λ l. on_root t (r l)) c) (put_in_all (λ l. on_root t (r l)) cs)
        (put_in_left (λ j. list_any (same_lit j) x) (clean_consistent x (left_clean t d x f)) (λ l. on_root t (r l)) c
        (all_mono (λ l. root_fits (λ k. list_any (same_lit k) d) (r l)) (λ l. root_fits (λ j. list_any (same_lit j) x) (on_root t (r l)))
        (λ l g. on_fits (λ j. list_any (same_lit j) x) t (r l)
        (fits_mono (λ k. list_any (same_lit k) d) (λ k. root_fits (λ j. list_any (same_lit j) x) (t k)) (λ k i. stands_passes (λ j. root_fits (λ m. list_any (same_lit m) x) (t j)) k d i (put_in_fits t d x f)) (r l) g))
        c (put_in_fits r c d e))))
        (rest h)

    first : are_subsumed (put_in_all t (put_in_all r cs)) (put_in_all (λ l. on_root t (r l)) cs) ≡ true → (o : Option (List OwnLit)) → put_in r c ≡ o
        → are_subsumed (put_in_all t (cons_option o (put_in_all r cs))) (cons_option (put_in (λ l. on_root t (r l)) c) (put_in_all (λ l. on_root t (r l)) cs)) ≡ true
    first h None e = rest h
    first h (Some d) e = second h d e (put_in t d) refl

any_put : (p : OwnLit → Bool) (q : List OwnLit → Bool) (r : OwnLit → Root) → ((g : List OwnLit) → q g ≡ true → left_passes p (put_in r g) ≡ true) → (gs : List (List OwnLit)) → list_any q gs ≡ true → list_any (list_all p) (put_in_all r gs) ≡ true
any_put p q r h [] e = absurd (false≢true e)
any_put p q r h (g ∷ gs) e =
    ⊎_elim
    (λ (f : q g ≡ true). any_here p (list_all p) (λ c i. i) (put_in r g) (put_in_all r gs) (h g f))
    (λ (f : list_any q gs ≡ true). any_cons (list_all p) (put_in r g) (put_in_all r gs) (any_put p q r h gs f))
    (or_cases _ _ e)

-- what clauses cover, they cover when one more thing is put into it and into all of them
pub covered_put : {L : Type 0} (r : L → Root) (t : OwnLit → Root) → IsWay t → (gs : List (List OwnLit)) (c : List L) → is_covered gs (put_in r c) ≡ true → is_covered (put_in_all t gs) (put_in (λ l. on_root t (r l)) c) ≡ true
covered_put {L = L} r t w gs c e = last (put_in (λ l. on_root t (r l)) c) refl
  where
    middle : (d : List OwnLit) → put_in (λ l. on_root t (r l)) c ≡ Some d → (o : Option (List OwnLit)) → left_passes (λ k. root_fits (λ j. list_any (same_lit j) d) (t k)) o ≡ true → is_covered gs o ≡ true
        → list_any (λ x. is_within x d) (put_in_all t gs) ≡ true
    middle d e None f g = absurd (false≢true f)
    middle d e (Some x) f g =
        any_put (λ j. list_any (same_lit j) d) (λ y. is_within y x) t
        (λ y i. put_in_left (λ j. list_any (same_lit j) d) (clean_consistent d (left_clean (λ l. on_root t (r l)) c d e)) t y
        (all_mono (λ k. list_any (same_lit k) x) (λ k. root_fits (λ j. list_any (same_lit j) d) (t k)) (λ k m. stands_passes (λ n. root_fits (λ j. list_any (same_lit j) d) (t n)) k x m f) y i))
        gs g

    last : (o : Option (List OwnLit)) → put_in (λ l. on_root t (r l)) c ≡ o → is_covered (put_in_all t gs) o ≡ true
    last None f = refl
    last (Some d) f =
        middle d f (put_in r c)
        (put_in_left (λ k. root_fits (λ j. list_any (same_lit j) d) (t k)) (fits_consistent (λ j. list_any (same_lit j) d) t w (clean_consistent d (left_clean (λ l. on_root t (r l)) c d f))) r c
        (all_mono (λ l. root_fits (λ j. list_any (same_lit j) d) (on_root t (r l))) (λ l. root_fits (λ k. root_fits (λ j. list_any (same_lit j) d) (t k)) (r l)) (λ l i. fits_on (λ j. list_any (same_lit j) d) t (r l) i) c (put_in_fits (λ l. on_root t (r l)) c d f)))
        e

-- fewer clauses with something put in
pub put_filter : {L : Type 0} (r : L → Root) (q : List L → Bool) (cs : List (List L)) → are_subsumed (put_in_all r (filter q cs)) (put_in_all r cs) ≡ true
put_filter r q [] = refl
put_filter {L = L} r q (c ∷ cs) = go (q c) (put_in r c) (put_filter r q cs)
  where
    more : (o : Option (List OwnLit)) → are_subsumed (put_in_all r (filter q cs)) (put_in_all r cs) ≡ true → are_subsumed (put_in_all r (filter q cs)) (cons_option o (put_in_all r cs)) ≡ true
    more None h = h
    more (Some x) h = subsumed_left (put_in_all r (filter q cs)) (put_in_all r cs) (x ∷ []) h

    both : (o : Option (List OwnLit)) → are_subsumed (put_in_all r (filter q cs)) (put_in_all r cs) ≡ true → are_subsumed (cons_option o (put_in_all r (filter q cs))) (cons_option o (put_in_all r cs)) ≡ true
    both None h = h
    both (Some x) h = and_from _ _ (or_left _ _ (within_refl x)) (more (Some x) h)

    go : (b : Bool) (o : Option (List OwnLit)) → are_subsumed (put_in_all r (filter q cs)) (put_in_all r cs) ≡ true → are_subsumed (put_in_all r (cond b (c ∷ filter q cs) (filter q cs))) (cons_option (put_in r c) (put_in_all r cs)) ≡ true
    go true o h = both (put_in r c) h
    go false o h = more (put_in r c) h
