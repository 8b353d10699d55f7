-- How the rows of a graph are counted and filled.
use Rattle.std.proofs.Common.{◌≡◌, ◌≢◌, ℕ, zero, suc, ◌+◌, ◌-◌, ◌^◌, ◌<◌, ◌≤◌, ◌⊎◌, Bool, true, false, cond, eqb, eq-eqb, ltb, ltb-true, lt-ltb, List, [], ◌∷◌, ◌++◌, length, get_or, set, map, filter, take, drop, replicate, slice_range, sum, refl, sym, ap, ap₂, subst, ◌∙◌, arith, inl, inr, ⊎_elim, drop-cons, ne_eqb}
use Rattle.std.proofs.lemmas.Bool.{cases_eq, cases_lt, and_parts}
use Rattle.std.proofs.lemmas.List.Sums.{sum_by-cons, sum_by_more, sum_by-take-le}
use Rattle.std.proofs.lemmas.List.{length-set, get_or-set_same, get_or-set_other, get_or_past, get_or_default, take-set-le, drop-set-lt, drop-set-add, drop-set}
use Rattle.sat_lits.specs.ListLaws.{all_at, all_mono}
use Rattle.equiv_replace.specs.declared.edges.Edge.{Edge}
use Rattle.equiv_replace.specs.Graphs.{heads_of}
use Rattle.equiv_replace.specs.Rows.{heads_from, degree, StartInside, AreEnds, AreFilled, rows_of, AreRows, AreRowsOf}

-- the heads of one edge more
pub heads_same : (e : Edge) (edges : List Edge) → heads_from e.from (e ∷ edges) ≡ e.to ∷ heads_from e.from edges
heads_same e edges = ap (λ (b : Bool). map (λ (x : Edge). x.to) (cond b (e ∷ filter (λ (x : Edge). eqb x.from e.from) edges) (filter (λ (x : Edge). eqb x.from e.from) edges))) (eq-eqb _ _ refl)

pub heads_other : (a : ℕ) (e : Edge) (edges : List Edge) → e.from ≢ a → heads_from a (e ∷ edges) ≡ heads_from a edges
heads_other a e edges n = ap (λ (b : Bool). map (λ (x : Edge). x.to) (cond b (e ∷ filter (λ (x : Edge). eqb x.from a) edges) (filter (λ (x : Edge). eqb x.from a) edges))) (ne_eqb _ _ n)

-- edges in two parts
pub heads-append : (a : ℕ) (xs ys : List Edge) → heads_from a (xs ++ ys) ≡ heads_from a xs ++ heads_from a ys
heads-append a [] ys = refl
heads-append a (x ∷ xs) ys = go (eqb x.from a) (heads-append a xs ys)
  where
    go : (b : Bool) → heads_from a (xs ++ ys) ≡ heads_from a xs ++ heads_from a ys
        → map (λ (e : Edge). e.to) (cond b (x ∷ filter (λ (e : Edge). eqb e.from a) (xs ++ ys)) (filter (λ (e : Edge). eqb e.from a) (xs ++ ys)))
        ≡ map (λ (e : Edge). e.to) (cond b (x ∷ filter (λ (e : Edge). eqb e.from a) xs) (filter (λ (e : Edge). eqb e.from a) xs)) ++ heads_from a ys
    go true i = ap (λ (hs : List ℕ). x.to ∷ hs) i
    go false i = i

-- no edge leads from a node that is not below
pub heads_none : (n a : ℕ) (edges : List Edge) → StartInside n edges → n ≤ a → heads_from a edges ≡ []
heads_none n a [] h l = refl
heads_none n a (e ∷ edges) h l =
    let p : (ltb e.from n ≡ true) × StartInside n edges = and_parts _ _ h in
    heads_other a e edges (λ q. let k : e.from < n = ltb-true _ _ p.0 in omega arith) ∙ heads_none n a edges p.1 l

-- edges from an index on have no more heads than all
pub degree_drop : (a i : ℕ) (edges : List Edge) → degree a (drop i edges) ≤ degree a edges
degree_drop a zero edges = omega arith
degree_drop a (suc i) [] = omega arith
degree_drop a (suc i) (e ∷ edges) = let h : degree a (drop i edges) ≤ degree a edges = degree_drop a i edges in go (eqb e.from a) h
  where
    go : (b : Bool) → degree a (drop i edges) ≤ degree a edges → degree a (drop i edges) ≤ length (map (λ (x : Edge). x.to) (cond b (e ∷ filter (λ (x : Edge). eqb x.from a) edges) (filter (λ (x : Edge). eqb x.from a) edges)))
    go true h = omega arith
    go false h = h

-- the row of a greater node stands behind
pub ends_rise : (ends : List ℕ) (edges : List Edge) → AreEnds ends edges → (a d : ℕ) → suc (a + d) < length ends → get_or ends a 0 + degree (suc (a + d)) edges ≤ get_or ends (suc (a + d)) 0
ends_rise ends edges e a zero h =
    let i : suc (a + 0) ≡ a + 1 = omega arith in
    let n : get_or ends (a + 1) 0 ≡ get_or ends a 0 + degree (a + 1) edges = e.next a (omega arith) in
    rw i (omega arith)
ends_rise ends edges e a (suc d) h =
    let i : suc (a + suc d) ≡ suc (a + d) + 1 = omega arith in
    let r : get_or ends a 0 + degree (suc (a + d)) edges ≤ get_or ends (suc (a + d)) 0 = ends_rise ends edges e a d (omega arith) in
    let n : get_or ends (suc (a + d) + 1) 0 ≡ get_or ends (suc (a + d)) 0 + degree (suc (a + d) + 1) edges = e.next (suc (a + d)) (omega arith) in
    rw i (omega arith)

pub ends_apart : (ends : List ℕ) (edges : List Edge) → AreEnds ends edges → (a b : ℕ) → a < b → b < length ends → get_or ends a 0 + degree b edges ≤ get_or ends b 0
ends_apart ends edges e a b h l =
    let d : ℕ = b - suc a in
    let i : suc (a + d) ≡ b = omega arith in
    subst (λ (z : ℕ). get_or ends a 0 + degree z edges ≤ get_or ends z 0) i (ends_rise ends edges e a d (omega arith))

-- a row has room for its heads
pub ends_room : (ends : List ℕ) (edges : List Edge) → AreEnds ends edges → (a : ℕ) → a < length ends → degree a edges ≤ get_or ends a 0
ends_room ends edges e zero l = let f : get_or ends 0 0 ≡ degree 0 edges = e.first l in omega arith
ends_room ends edges e (suc a) l =
    let n : get_or ends (a + 1) 0 ≡ get_or ends a 0 + degree (a + 1) edges = e.next a (omega arith) in
    let i : suc a ≡ a + 1 = omega arith in
    rw i (omega arith)

-- the rows are filled with the heads of some of the edges, the last ones
pub record IsFilling (ends starts heads : List ℕ) (edges done : List Edge) : Type 0 where
  pub each : length starts ≡ length ends
  pub room : length heads ≡ length edges
  pub starts_at : (a : ℕ) → a < length ends → get_or starts a 0 + degree a done ≡ get_or ends a 0
  pub rows : (a : ℕ) → a < length ends → take (degree a done) (drop (get_or starts a 0) heads) ≡ heads_from a done

pub filling_start : (ends heads : List ℕ) (edges : List Edge) → length heads ≡ length edges → IsFilling ends ends heads edges []
filling_start ends heads edges r = record { each = refl; room = r; starts_at = λ a h. omega arith; rows = λ a h. refl }

-- the values beside a place
take_other : (n k s v : ℕ) (xs : List ℕ) → (s < k) ⊎ (k + n ≤ s) → take n (drop k (set xs s v)) ≡ take n (drop k xs)
take_other n k s v xs h =
    ⊎_elim (λ (l : s < k). ap (take n) (drop-set-lt k xs s v l))
    (λ (l : k + n ≤ s).
    let i : k + (s - k) ≡ s = omega arith in
    ap (λ (z : ℕ). take n (drop k (set xs z v))) (sym i) ∙ (ap (take n) (drop-set-add k xs (s - k) v) ∙ take-set-le n (drop k xs) (s - k) v (omega arith))) h

-- one edge more
pub filling_step : (ends starts heads : List ℕ) (edges : List Edge) (i : ℕ) (d e : Edge) (s : ℕ) → AreEnds ends edges → StartInside (length ends) edges → i < length edges → e ≡ get_or edges i d
    → s + 1 ≡ get_or starts e.from 0 → IsFilling ends starts heads edges (drop (suc i) edges) → IsFilling ends (set starts e.from s) (set heads s e.to) edges (drop i edges)
filling_step ends starts heads edges i d e s n inside l at start f =
    record {
      each = length-set starts e.from s ∙ f.each;
      room = length-set heads s e.to ∙ f.room;
      starts_at = λ a h. subst (λ (z : List Edge). get_or (set starts e.from s) a 0 + degree a z ≡ get_or ends a 0) (sym cut) (starts_more a h (cases_eq a e.from));
      rows = λ a h. subst (λ (z : List Edge). take (degree a z) (drop (get_or (set starts e.from s) a 0) (set heads s e.to)) ≡ heads_from a z) (sym cut) (rows_more a h (cases_eq a e.from));
    }
  where
    done : List Edge
    done = drop (suc i) edges

    cut : drop i edges ≡ e ∷ drop (suc i) edges
    cut = drop-cons edges i d l ∙ ap (λ (x : Edge). x ∷ drop (suc i) edges) (sym at)

    there : e.from < length ends
    there = ltb-true _ _ (subst (λ (x : Edge). ltb x.from (length ends) ≡ true) (sym at) (all_at (λ (x : Edge). ltb x.from (length ends)) edges i d l inside))

    from : e.from < length starts
    from = let h : e.from < length ends = there in let k : length starts ≡ length ends = f.each in omega arith

    same : degree e.from (e ∷ drop (suc i) edges) ≡ suc (degree e.from (drop (suc i) edges))
    same = ap length (heads_same e (drop (suc i) edges))

    most : degree e.from (e ∷ drop (suc i) edges) ≤ degree e.from edges
    most = subst (λ (z : List Edge). degree e.from z ≤ degree e.from edges) cut (degree_drop e.from i edges)

    starts_more : (a : ℕ) → a < length ends → (a ≡ e.from) ⊎ (a ≢ e.from) → get_or (set starts e.from s) a 0 + degree a (e ∷ drop (suc i) edges) ≡ get_or ends a 0
    starts_more a h (inl q) =
        subst (λ (z : ℕ). get_or (set starts e.from s) z 0 + degree z (e ∷ drop (suc i) edges) ≡ get_or ends z 0) (sym q)
        (let k : get_or starts e.from 0 + degree e.from (drop (suc i) edges) ≡ get_or ends e.from 0 = f.starts_at e.from there in
        let g : get_or (set starts e.from s) e.from 0 ≡ s = get_or-set_same starts e.from s 0 from in
        omega (arith, same, start))
    starts_more a h (inr q) =
        let g : get_or (set starts e.from s) a 0 ≡ get_or starts a 0 = get_or-set_other starts e.from a s 0 q in
        let m : degree a (e ∷ drop (suc i) edges) ≡ degree a (drop (suc i) edges) = ap length (heads_other a e (drop (suc i) edges) (λ x. q (sym x))) in
        let k : get_or starts a 0 + degree a (drop (suc i) edges) ≡ get_or ends a 0 = f.starts_at a h in
        omega arith

    -- the row of another node is elsewhere
    elsewhere : (a : ℕ) → a < length ends → a ≢ e.from → (s < get_or starts a 0) ⊎ (get_or starts a 0 + degree a (drop (suc i) edges) ≤ s)
    elsewhere a h q =
        let k : get_or starts a 0 + degree a (drop (suc i) edges) ≡ get_or ends a 0 = f.starts_at a h in
        let j : get_or starts e.from 0 + degree e.from (drop (suc i) edges) ≡ get_or ends e.from 0 = f.starts_at e.from there in
        let m : degree a (drop (suc i) edges) ≤ degree a edges = degree_drop a (suc i) edges in
        let o : degree e.from (e ∷ drop (suc i) edges) ≤ degree e.from edges = most in
        ⊎_elim (λ (x : a < e.from).
        let y : get_or ends a 0 + degree e.from edges ≤ get_or ends e.from 0 = ends_apart ends edges n a e.from x there in
        inr (omega (arith, same, start)))
        (λ (x : e.from ≤ a).
        let z : e.from < a = let w : a ≢ e.from = q in omega arith in
        let y : get_or ends e.from 0 + degree a edges ≤ get_or ends a 0 = ends_apart ends edges n e.from a z h in
        inl (omega (arith, start)))
        (cases_lt a e.from)

    inside_heads : s < length heads
    inside_heads =
        let j : get_or starts e.from 0 + degree e.from (drop (suc i) edges) ≡ get_or ends e.from 0 = f.starts_at e.from there in
        let w : get_or ends e.from 0 ≤ length edges = n.within e.from there in
        omega (arith, start, f.room)

    rows_more : (a : ℕ) → a < length ends → (a ≡ e.from) ⊎ (a ≢ e.from) → take (degree a (e ∷ drop (suc i) edges)) (drop (get_or (set starts e.from s) a 0) (set heads s e.to)) ≡ heads_from a (e ∷ drop (suc i) edges)
    rows_more a h (inl q) =
        subst (λ (z : ℕ). take (degree z (e ∷ drop (suc i) edges)) (drop (get_or (set starts e.from s) z 0) (set heads s e.to)) ≡ heads_from z (e ∷ drop (suc i) edges)) (sym q)
        (ap₂ (λ (x y : ℕ). take x (drop y (set heads s e.to))) same (get_or-set_same starts e.from s 0 from)
        ∙ (ap (take (suc (degree e.from (drop (suc i) edges)))) (drop-set heads s e.to inside_heads)
        ∙ (ap (λ (z : ℕ). e.to ∷ take (degree e.from (drop (suc i) edges)) (drop z heads)) start
        ∙ (ap (λ (hs : List ℕ). e.to ∷ hs) (f.rows e.from there) ∙ sym (heads_same e (drop (suc i) edges))))))
    rows_more a h (inr q) =
        let o : heads_from a (e ∷ drop (suc i) edges) ≡ heads_from a (drop (suc i) edges) = heads_other a e (drop (suc i) edges) (λ x. q (sym x)) in
        ap₂ (λ (x y : ℕ). take x (drop y (set heads s e.to))) (ap length o) (get_or-set_other starts e.from a s 0 q)
        ∙ (take_other (degree a (drop (suc i) edges)) (get_or starts a 0) s e.to heads (elsewhere a h q) ∙ (f.rows a h ∙ sym o))

-- a step down: the row of the edge's node has a place in front of what is filled
pub filling_down : (ends starts heads : List ℕ) (edges : List Edge) (at : ℕ) (d e : Edge) → AreEnds ends edges → StartInside (length ends) edges → 0 < at → at ≤ length edges → e ≡ get_or edges (at - 1) d
    → IsFilling ends starts heads edges (drop at edges)
    → (1 ≤ get_or starts e.from 0) × IsFilling ends (set starts e.from (get_or starts e.from 0 - 1)) (set heads (get_or starts e.from 0 - 1) e.to) edges (drop (at - 1) edges)
filling_down ends starts heads edges at d e n inside l h is f =
    let i : at ≡ suc (at - 1) = omega arith in
    let m : at - 1 < length edges = omega arith in
    let g : IsFilling ends starts heads edges (drop (suc (at - 1)) edges) = subst (λ (k : ℕ). IsFilling ends starts heads edges (drop k edges)) i f in
    let cut : drop (at - 1) edges ≡ e ∷ drop (suc (at - 1)) edges = drop-cons edges (at - 1) d m ∙ ap (λ (x : Edge). x ∷ drop (suc (at - 1)) edges) (sym is) in
    let there : e.from < length ends = ltb-true _ _ (subst (λ (x : Edge). ltb x.from (length ends) ≡ true) (sym is) (all_at (λ (x : Edge). ltb x.from (length ends)) edges (at - 1) d m inside)) in
    let same : degree e.from (e ∷ drop (suc (at - 1)) edges) ≡ suc (degree e.from (drop (suc (at - 1)) edges)) = ap length (heads_same e (drop (suc (at - 1)) edges)) in
    let most : degree e.from (e ∷ drop (suc (at - 1)) edges) ≤ degree e.from edges = subst (λ (z : List Edge). degree e.from z ≤ degree e.from edges) cut (degree_drop e.from (at - 1) edges) in
    let k : get_or starts e.from 0 + degree e.from (drop (suc (at - 1)) edges) ≡ get_or ends e.from 0 = g.starts_at e.from there in
    let r : degree e.from edges ≤ get_or ends e.from 0 = ends_room ends edges n e.from there in
    let p : 1 ≤ get_or starts e.from 0 = omega arith in
    (p, filling_step ends starts heads edges (at - 1) d e (get_or starts e.from 0 - 1) n inside m is (omega arith) g)

pub filling_end : (ends starts heads : List ℕ) (edges : List Edge) → IsFilling ends starts heads edges edges → AreFilled ends starts heads edges
filling_end ends starts heads edges f = record { each = f.each; starts_at = f.starts_at; rows = f.rows }

-- numbers that are all 0
pub zero_sum : (xs : List ℕ) → ((a : ℕ) → get_or xs a 0 ≡ 0) → sum xs ≡ 0
zero_sum [] z = refl
zero_sum (x ∷ xs) z = let h : x ≡ 0 = z 0 in let i : sum xs ≡ 0 = zero_sum xs (λ a. z (suc a)) in omega (arith, sum_by-cons (λ (n : ℕ). n) x xs)

-- the sums of the counts are the ends of the rows
pub ends_are : (counts ends : List ℕ) (edges : List Edge) → length ends ≡ length counts → ((a : ℕ) → get_or counts a 0 ≡ degree a edges) → sum counts ≡ length edges
    → ((a : ℕ) → a < length counts → get_or ends a 0 ≡ sum (take (a + 1) counts)) → AreEnds ends edges
ends_are counts ends edges long each all sums =
    record {
      first = λ l. let m : sum (take (0 + 1) counts) ≡ sum (take 0 counts) + get_or counts 0 0 = sum_by_more (λ (n : ℕ). n) counts 0 0 (omega arith) in omega (arith, sums 0 (omega arith), each 0);
      next = λ a l. let m : sum (take (a + 1 + 1) counts) ≡ sum (take (a + 1) counts) + get_or counts (a + 1) 0 = sum_by_more (λ (n : ℕ). n) counts (a + 1) 0 (omega arith) in omega (arith, sums a (omega arith), sums (a + 1) (omega arith), each (a + 1));
      within = λ a l. omega (arith, sums a (omega arith), sum_by-take-le (λ (n : ℕ). n) counts (a + 1), all);
    }

-- the sum of the numbers up to one
pub sum_next : (numbers now : List ℕ) (at : ℕ) → 1 ≤ at → at < length numbers → get_or now at 0 ≡ get_or numbers at 0 → get_or now (at - 1) 0 ≡ sum (take (at - 1 + 1) numbers)
    → get_or now at 0 + get_or now (at - 1) 0 ≡ sum (take (at + 1) numbers)
sum_next numbers now at l h e f =
    let i : at - 1 + 1 ≡ at = omega arith in
    let m : sum (take (at + 1) numbers) ≡ sum (take at numbers) + get_or numbers at 0 = sum_by_more (λ (n : ℕ). n) numbers at 0 h in
    omega (arith, f ∙ ap (λ (n : ℕ). sum (take n numbers)) i)

pub sum_fits : (numbers : List ℕ) (n : ℕ) → sum (take n numbers) ≤ sum numbers
sum_fits numbers n = sum_by-take-le (λ (k : ℕ). k) numbers n

abbrev zeros_of : ℕ → List ℕ
zeros_of n = replicate n 0

pub get_zero : (n a : ℕ) → get_or (zeros_of n) a 0 ≡ 0
get_zero zero a = refl
get_zero (suc n) zero = refl
get_zero (suc n) (suc a) = get_zero n a

-- an empty list that was made longer
pub resized : {X : Type 0} (xs : List X) (x : X) (n k : ℕ) → xs ≡ [] → k ≡ 0 → take n xs ++ replicate (n - k) x ≡ replicate n x
resized [] x n k e f = go n
  where
    go : (n : ℕ) → take n [] ++ replicate (n - k) x ≡ replicate n x
    go zero = ap (λ (z : ℕ). replicate z x) (let i : 0 - k ≡ 0 = omega arith in i)
    go (suc n) = ap (λ (z : ℕ). replicate z x) (let i : suc n - k ≡ suc n = omega (arith, f) in i)
resized (y ∷ xs) x n k e f = absurd (let l : suc (length xs) ≡ 0 = ap length e in omega arith)

-- the row of a node is what stands between its start and the next one
pub row_at : (starts heads : List ℕ) (a : ℕ) → a + 1 < length starts → heads_of (rows_of starts heads) a ≡ slice_range heads (get_or starts a 0) (get_or starts (a + 1) 0)
row_at [] heads a h = absurd (omega arith)
row_at (s ∷ []) heads a h = absurd (omega arith)
row_at (s ∷ e ∷ starts) heads zero h = refl
row_at (s ∷ e ∷ starts) heads (suc a) h =
    let i : suc (a + 1) ≡ suc a + 1 = omega arith in
    subst (λ (n : ℕ). heads_of (rows_of (e ∷ starts) heads) a ≡ slice_range heads (get_or (e ∷ starts) a 0) (get_or (s ∷ e ∷ starts) n 0)) i (row_at (e ∷ starts) heads a (omega arith))

pub length-rows_of : (starts heads : List ℕ) (n : ℕ) → length starts ≡ n + 1 → length (rows_of starts heads) ≡ n
length-rows_of [] heads n e = absurd (omega arith)
length-rows_of (s ∷ []) heads n e = omega arith
length-rows_of (s ∷ t ∷ starts) heads zero e = absurd (omega arith)
length-rows_of (s ∷ t ∷ starts) heads (suc n) e = ap suc (length-rows_of (t ∷ starts) heads n (omega arith))

pub rows_of-length : (starts heads : List ℕ) → 0 < length starts → length (rows_of starts heads) + 1 ≡ length starts
rows_of-length starts heads l = let e : length starts ≡ (length starts - 1) + 1 = omega arith in omega (arith, length-rows_of starts heads (length starts - 1) e)

-- nodes below a number are below a greater one
pub inside_more : (n m : ℕ) (edges : List Edge) → n ≤ m → StartInside n edges → StartInside m edges
inside_more n m edges l h = all_mono (λ (e : Edge). ltb e.from n) (λ (e : Edge). ltb e.from m) (λ e k. lt-ltb _ _ (let b : e.from < n = ltb-true _ _ k in omega arith)) edges h

-- the rows that were filled are those of the edges
pub rows_are : (ends starts heads : List ℕ) (nodes : ℕ) (edges : List Edge) → nodes ≤ 2 ^ 32 → StartInside nodes edges → length ends ≡ nodes + 1 → length heads ≡ length edges → AreEnds ends edges → AreFilled ends starts heads edges
    → AreRowsOf starts heads edges
rows_are ends starts heads nodes edges few inside long room n f =
    record {
      kept = record {
        some = omega (arith, count);
        few = omega (arith, count);
        rise = λ a h. let k : get_or starts a 0 + degree a edges ≡ get_or ends a 0 = f.starts_at a (omega (arith, count)) in omega (arith, next a (omega (arith, count)));
        within = λ a h. let k : get_or starts a 0 + degree a edges ≡ get_or ends a 0 = f.starts_at a (omega (arith, count)) in let w : get_or ends a 0 ≤ length edges = n.within a (omega (arith, count)) in omega (arith, room);
      };
      nodes = ap (λ (k : ℕ). k + 1) (length-rows_of starts heads nodes count) ∙ sym count;
      heads_are = λ a. ⊎_elim (λ (h : a < nodes). row a h) (λ (h : nodes ≤ a). get_or_past (rows_of starts heads) a [] (let e : length (rows_of starts heads) ≡ nodes = length-rows_of starts heads nodes count in omega arith) ∙ sym (heads_none nodes a edges inside h)) (cases_lt a nodes);
    }
  where
    count : length starts ≡ nodes + 1
    count = f.each ∙ long

    -- a row starts where the one before ends
    next : (a : ℕ) → a + 1 < nodes + 1 → get_or starts (a + 1) 0 ≡ get_or ends a 0
    next a h =
        let k : get_or starts (a + 1) 0 + degree (a + 1) edges ≡ get_or ends (a + 1) 0 = f.starts_at (a + 1) (omega (arith, long)) in
        let m : get_or ends (a + 1) 0 ≡ get_or ends a 0 + degree (a + 1) edges = n.next a (omega (arith, long)) in
        omega arith

    row : (a : ℕ) → a < nodes → heads_of (rows_of starts heads) a ≡ heads_from a edges
    row a h =
        let k : get_or starts a 0 + degree a edges ≡ get_or ends a 0 = f.starts_at a (omega (arith, long)) in
        let m : get_or starts (a + 1) 0 - get_or starts a 0 ≡ degree a edges = omega (arith, next a (omega arith)) in
        row_at starts heads a (omega (arith, count)) ∙ (ap (λ (z : ℕ). take z (drop (get_or starts a 0) heads)) m ∙ f.rows a (omega (arith, long)))

-- a node has a start, and a next one
pub next_inside : (starts heads : List ℕ) (g : List (List ℕ)) (node : ℕ) → 0 < length starts → rows_of starts heads ≡ g → node < length g → node + 1 < length starts
next_inside starts heads g node s e l = omega (arith, ap length e, rows_of-length starts heads s)

-- what stands between the two is its row
pub row_found : (starts heads : List ℕ) (g : List (List ℕ)) (node s e : ℕ) → AreRows starts heads → rows_of starts heads ≡ g → node < length g → s ≡ get_or starts node s → e ≡ get_or starts (node + 1) e
    → (s ≤ e) × (e ≤ length heads) × (slice_range heads s e ≡ heads_of g node)
row_found starts heads g node s e k v l p q =
    let n : node + 1 < length starts = next_inside starts heads g node k.some v l in
    let i : s ≡ get_or starts node 0 = p ∙ get_or_default starts node s 0 (omega arith) in
    let j : e ≡ get_or starts (node + 1) 0 = q ∙ get_or_default starts (node + 1) e 0 n in
    (omega (arith, k.rise node n), omega (arith, k.within (node + 1) n), ap₂ (slice_range heads) i j ∙ (sym (row_at starts heads node n) ∙ ap (λ (z : List (List ℕ)). heads_of z node) v))
