-- How what is told stays so.
use Rattle.std.proofs.Common.{◌≡◌, ◌<◌, ◌≤◌, inl, ⊎_elim, ℕ, zero, suc, Bool, true, false, ◌||◌, min, List, [], ◌∷◌, length, take, get_or, refl, sym, ap, subst, ◌∙◌, arith}
use Rattle.std.proofs.lemmas.Bool.{false≢true, or_cases, or_left, or_right, cases_lt}
use Rattle.std.proofs.lemmas.List.{length-take}
use Rattle.std.specs.List.{list_any}
use Rattle.std.proofs.lemmas.List.Folds.{list_any-append, list_any_at}
use Rattle.sat_lits.specs.InLits.{same_lit, opposite}
use Rattle.sat_lits.specs.declared.literal.InLit.{InLit}
use Rattle.trail.specs.declared.trail.Step.{Step}
use Rattle.trail.specs.Trail.{lits_of, true_in}
use Rattle.trail.specs.Laws.{lits_of-newest, same_lit_eq, same_lit_self}
use Rattle.clause_store.specs.Store.{Held}
use Rattle.propagate.specs.declared.watches.Taken.{Taken}
use Rattle.propagate.specs.Watching.{IsFront}
use Rattle.propagate.specs.Watched.{no_lit, watch_at, clause_of}
use Rattle.propagate.specs.Walks.{IsSettled, AllGood}
use Rattle.propagate.specs.Fine.{IsMarked, IsTold, IsFine, AllFine}
use Rattle.sat_lits.specs.ListLaws.{any_mono}
use Rattle.propagate.proofs.Passing.{any_lits}

pub get_taken : {X : Type 0} (xs : List X) (n i : ℕ) (d : X) → i < n → get_or (take n xs) i d ≡ get_or xs i d
get_taken [] zero i d h = refl
get_taken [] (suc n) i d h = refl
get_taken (x ∷ xs) zero i d h = absurd (omega (arith, h))
get_taken (x ∷ xs) (suc n) zero d h = refl
get_taken (x ∷ xs) (suc n) (suc i) d h = get_taken xs n i d (omega (arith, h))

-- the marks of a trail that goes back
pub marked_back : (done : List InLit) (starts : List ℕ) (walked keep less : ℕ) → IsMarked done starts walked → keep < length done → less ≤ get_or starts keep 0 → IsMarked (take keep done) (take keep starts) less
marked_back done starts walked keep less m k l =
    record {
      same = rw (length-take keep starts, length-take keep done) (ap (min keep) m.same);
      low = λ q h. subst (λ (z : ℕ). z ≤ q) (sym (get_taken starts keep q 0 (below q h))) (m.low q (in_all q h));
      rise = λ q r o h.
          let b : r < keep = below r h in
          subst (λ (z : ℕ). z ≤ get_or (take keep starts) r 0) (sym (get_taken starts keep q 0 (omega (arith, o, b)))) (subst (λ (z : ℕ). get_or starts q 0 ≤ z) (sym (get_taken starts keep r 0 b)) (m.rise q r o (in_all r h)));
      within =
          let a : get_or starts keep 0 ≤ keep = m.low keep (omega (arith, m.same, k)) in
          let b : length (take keep done) ≡ min keep (length done) = length-take keep done in
          omega (arith, a, b, l, k);
    }
  where
    below : (q : ℕ) → q < length (take keep starts) → q < keep
    below q h =
        let b : length (take keep starts) ≡ min keep (length starts) = length-take keep starts in
        omega (arith, b, h)

    in_all : (q : ℕ) → q < length (take keep starts) → q < length starts
    in_all q h =
        let b : length (take keep starts) ≡ min keep (length starts) = length-take keep starts in
        omega (arith, b, h)

-- a watched literal stays fine where the trail goes back to any place
pub fine_back : (done : List InLit) (starts : List ℕ) (walked keep less : ℕ) (c : List InLit) (w : InLit) → IsMarked done starts walked → keep < length done → less ≤ walked → less ≤ get_or starts keep 0 → IsFine done starts walked c w → IsFine (take keep done) (take keep starts) less c w
fine_back done starts walked keep less c w m k a b f p h o =
    let s : get_or starts keep 0 ≤ keep = m.low keep (omega (arith, m.same, k)) in
    let pk : p < keep = omega (arith, s, b, h) in
    back (f p (omega (arith, a, h)) (ap (λ (z : InLit). opposite z w) (sym (get_taken done keep p no_lit pk)) ∙ o))
  where
    back : IsTold done starts c p → IsTold (take keep done) (take keep starts) c p
    back t =
        record {
          at = t.at;
          below =
              let n : length (take keep done) ≡ min keep (length done) = length-take keep done in
              omega (arith, n, first, t.below);
          early = subst (λ (z : ℕ). z ≤ p) (sym (get_taken starts keep t.at 0 first)) t.early;
          holds = ap (λ (z : InLit). list_any (same_lit z) c) (get_taken done keep t.at no_lit first) ∙ t.holds;
        }
      where
        first : t.at < keep
        first = ⊎_elim (λ (x : t.at < keep). x) (λ (x : keep ≤ t.at). absurd (late x)) (cases_lt t.at keep)
          where
            late : keep ≤ t.at → ⊥
            late x =
                let r : get_or starts keep 0 ≤ get_or starts t.at 0 = m.rise keep t.at x (omega (arith, m.same, t.below)) in
                omega (arith, r, t.early, b, h)

-- where fewer are walked, it stays fine
pub fine_less : (done : List InLit) (starts : List ℕ) (walked less : ℕ) (c : List InLit) (w : InLit) → less ≤ walked → IsFine done starts walked c w → IsFine done starts less c w
fine_less done starts walked less c w a f p h o = f p (omega (arith, a, h)) o

exchange : (t : List Step) (c : List InLit) → list_any (true_in t) c ≡ true → list_any (λ s. list_any (same_lit s.lit) c) t ≡ true
exchange t [] e = absurd (false≢true e)
exchange t (l ∷ ls) e = ⊎_elim (λ a. here t a) (λ b. later t (exchange t ls b)) (or_cases _ _ e)
  where
    here : (xs : List Step) → true_in xs l ≡ true → list_any (λ s. list_any (same_lit s.lit) (l ∷ ls)) xs ≡ true
    here [] a = absurd (false≢true a)
    here (s ∷ xs) a = ⊎_elim (λ x. or_left (list_any (same_lit s.lit) (l ∷ ls)) (list_any (λ r. list_any (same_lit r.lit) (l ∷ ls)) xs) (or_left (same_lit s.lit l) (list_any (same_lit s.lit) ls) x)) (λ x. or_right (list_any (same_lit s.lit) (l ∷ ls)) (list_any (λ r. list_any (same_lit r.lit) (l ∷ ls)) xs) (here xs x)) (or_cases _ _ a)

    later : (xs : List Step) → list_any (λ s. list_any (same_lit s.lit) ls) xs ≡ true → list_any (λ s. list_any (same_lit s.lit) (l ∷ ls)) xs ≡ true
    later [] a = absurd (false≢true a)
    later (s ∷ xs) a = ⊎_elim (λ x. or_left (list_any (same_lit s.lit) (l ∷ ls)) (list_any (λ r. list_any (same_lit r.lit) (l ∷ ls)) xs) (or_right (same_lit s.lit l) (list_any (same_lit s.lit) ls) x)) (λ x. or_right (list_any (same_lit s.lit) (l ∷ ls)) (list_any (λ r. list_any (same_lit r.lit) (l ∷ ls)) xs) (later xs x)) (or_cases _ _ a)

pub record IsPlace {X : Type 0} (p : X → Bool) (xs : List X) (d : X) : Type 0 where
  pub at : ℕ
  pub below : at < length xs
  pub is : p (get_or xs at d) ≡ true

place_of : {X : Type 0} (p : X → Bool) (xs : List X) (d : X) → list_any p xs ≡ true → IsPlace p xs d
place_of p [] d e = absurd (false≢true e)
place_of p (x ∷ xs) d e = ⊎_elim (λ a. record { at = 0; below = omega arith; is = a }) (λ b. later (place_of p xs d b)) (or_cases _ _ e)
  where
    later : IsPlace p xs d → IsPlace p (x ∷ xs) d
    later i = record { at = suc i.at; below = omega (arith, i.below); is = i.is }

pub any_steps : (p : InLit → Bool) (t : List Step) → list_any (λ s. p s.lit) t ≡ true → list_any p (lits_of t) ≡ true
any_steps p [] e = absurd (false≢true e)
any_steps p (s ∷ older) e = ap (list_any p) (lits_of-newest older s) ∙ (list_any-append p (lits_of older) (s.lit ∷ []) ∙ ⊎_elim (λ a. or_right (list_any p (lits_of older)) (p s.lit || false) (or_left (p s.lit) false a)) (λ b. or_left (list_any p (lits_of older)) (p s.lit || false) (any_steps p older b)) (or_cases _ _ e))

-- where all that watch false literals are settled, a watched literal is fine on the whole trail
pub fine_all : (done : List InLit) (starts more : List ℕ) (walked : ℕ) (t : List Step) (c : List InLit) (w : InLit) → IsFront done (lits_of t) → IsMarked done starts walked → length more ≡ length (lits_of t) → ((q : ℕ) → q < length starts → get_or more q 0 ≤ get_or starts q 0)
    → ((q : ℕ) → q < length more → get_or more q 0 ≤ walked) → (list_any (λ f. opposite f w) (lits_of t) ≡ true → list_any (true_in t) c ≡ true) → IsFine done starts walked c w → IsFine (lits_of t) more (length (lits_of t)) c w
fine_all done starts more walked t c w fr m n less low good f p h o = ⊎_elim early late (cases_lt p walked)
  where
    same_at : (q : ℕ) → q < length done → get_or done q no_lit ≡ get_or (lits_of t) q no_lit
    same_at q b = ap (λ (z : List InLit). get_or z q no_lit) (sym fr) ∙ get_taken (lits_of t) (length done) q no_lit b

    short : length done ≤ length (lits_of t)
    short =
        let e : length done ≡ min (length done) (length (lits_of t)) = ap length (sym fr) ∙ length-take (length done) (lits_of t) in
        omega (arith, e)

    early : p < walked → IsTold (lits_of t) more c p
    early a = told (f p a (ap (λ (z : InLit). opposite z w) (same_at p (omega (arith, a, m.within))) ∙ o))
      where
        told : IsTold done starts c p → IsTold (lits_of t) more c p
        told s =
            record {
              at = s.at;
              below = omega (arith, s.below, short);
              early =
                  let l : get_or more s.at 0 ≤ get_or starts s.at 0 = less s.at (omega (arith, m.same, s.below)) in
                  omega (arith, l, s.early);
              holds = ap (λ (z : InLit). list_any (same_lit z) c) (sym (same_at s.at s.below)) ∙ s.holds;
            }

    late : walked ≤ p → IsTold (lits_of t) more c p
    late a = told (place_of (λ l. list_any (same_lit l) c) (lits_of t) no_lit (any_steps (λ l. list_any (same_lit l) c) t (exchange t c (good (list_any_at (λ f. opposite f w) (lits_of t) p no_lit h o)))))
      where
        told : IsPlace (λ l. list_any (same_lit l) c) (lits_of t) no_lit → IsTold (lits_of t) more c p
        told i =
            record {
              at = i.at;
              below = i.below;
              early =
                  let l : get_or more i.at 0 ≤ walked = low i.at (omega (arith, n, i.below)) in
                  omega (arith, l, a);
              holds = i.is;
            }

-- a literal that is done with is true
done_true : (done : List InLit) (t : List Step) (q : ℕ) → IsFront done (lits_of t) → q < length done → true_in t (get_or done q no_lit) ≡ true
done_true done t q fr b =
    let short : length done ≤ length (lits_of t) =
    let e : length done ≡ min (length done) (length (lits_of t)) = ap length (sym fr) ∙ length-take (length done) (lits_of t) in
    omega (arith, e) in
    let s : get_or done q no_lit ≡ get_or (lits_of t) q no_lit = ap (λ (z : List InLit). get_or z q no_lit) (sym fr) ∙ get_taken (lits_of t) (length done) q no_lit b in
    any_lits (λ f. same_lit f (get_or done q no_lit)) t
    (list_any_at (λ f. same_lit f (get_or done q no_lit)) (lits_of t) q no_lit (omega (arith, b, short)) (ap (same_lit (get_or (lits_of t) q no_lit)) s ∙ same_lit_self (get_or (lits_of t) q no_lit)))

-- what is told makes all good that watch a walked literal
pub good_first : (held : List Held) (taken : List Taken) (done : List InLit) (starts : List ℕ) (walked : ℕ) (t : List Step) (whole : List Bool) (watched : List InLit) → IsFront done (lits_of t) → walked ≤ length done → AllFine done starts walked taken whole watched
    → AllGood held taken (take walked (lits_of t)) t whole watched false
good_first held taken done starts walked t whole watched fr w f e b v q = told (place_of (λ g. opposite g (watch_at watched e)) (take walked (lits_of t)) no_lit q)
  where
    told : IsPlace (λ g. opposite g (watch_at watched e)) (take walked (lits_of t)) no_lit → IsSettled held taken t false e
    told i =
        let n : length (take walked (lits_of t)) ≡ min walked (length (lits_of t)) = length-take walked (lits_of t) in
        let p : i.at < walked = omega (arith, n, i.below) in
        let s : get_or (take walked (lits_of t)) i.at no_lit ≡ get_or done i.at no_lit =
        get_taken (lits_of t) walked i.at no_lit p ∙ sym (ap (λ (z : List InLit). get_or z i.at no_lit) (sym fr) ∙ get_taken (lits_of t) (length done) i.at no_lit (omega (arith, p, w))) in
        settle (f e b v i.at p (ap (λ (z : InLit). opposite z (watch_at watched e)) (sym s) ∙ i.is))
      where
        settle : IsTold done starts (clause_of taken e) i.at → IsSettled held taken t false e
        settle k =
            inl
            (any_mono (same_lit (get_or done k.at no_lit)) (true_in t) (λ l z. ap (true_in t) (sym (same_lit_eq (get_or done k.at no_lit) l z)) ∙ done_true done t k.at fr k.below) (clause_of taken e) k.holds)
