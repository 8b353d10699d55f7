-- Facts on parities, and on the variables that stand an odd number of times.
use Rattle.std.proofs.Common.{◌≡◌, ◌≢◌, ◌↔◌, ℕ, suc, ◌+◌, ◌*◌, ◌%◌, ◌<◌, ◌≤◌, Bool, true, false, not, cond, ◌&&◌, ◌||◌, ◌==◌, List, [], ◌∷◌, ◌++◌, All, Some, length, filter, get_or, refl, sym, ap, ◌∙◌, arith}
use Rattle.std.specs.List.{list_any, count_by, AllPairs, Contains, slice_get, slice_index_or}
use Rattle.std.proofs.lemmas.Bool.{eq-eqb, ne_eqb, eqb-true, eqb-false, or_parts, false≢true}
use Rattle.std.proofs.lemmas.List.{length-map}
use Rattle.std.proofs.lemmas.List.Folds.{list_any_at}
use Rattle.std.proofs.lemmas.List.Kept.{AllPairs-filter, AllPairs-cons}
use Rattle.std.proofs.lemmas.List.Sums.{sum_by-cons, length-filter, count_by-le-length}
use Rattle.std.proofs.lemmas.Map.Views.{any-filter_same}
use Rattle.std.proofs.lemmas.Option.{slice_get_within, get_or_from_slice_get}
use Rattle.sat_lits.specs.ListLaws.{any_place}
use Rattle.sat_lits.specs.ClauseLaws.{signed_twice, signed_comm, signed-signed}
use Rattle.sat_lits.specs.Truth.{signed}
use Rattle.sat_lits.specs.Meaning.{value_of, is_odd}
use Rattle.sat_lits.specs.Formulas.{numbers_of}
use Rattle.sat_lits.specs.Conflicts.{toggled, odd_vars, odd_of, AreOddVars, cuts_of_count, cuts}
use Rattle.sat_lits.specs.declared.literal.Var.{Var}
use Rattle.sat_lits.specs.declared.formula.Item.{Item}
use Rattle.sat_lits.specs.declared.formula.Item.TheVariants.{Clause, Parity}

-- one more is odd where the number is not
one_more : (n : ℕ) → ((1 + n) % 2 == 1) ≡ not (n % 2 == 1)
one_more n = go (n % 2 == 1) refl
  where
    go : (b : Bool) → (n % 2 == 1) ≡ b → ((1 + n) % 2 == 1) ≡ not b
    go true e = let odd : n % 2 ≡ 1 = eqb-true (n % 2) 1 e in ne_eqb ((1 + n) % 2) 1 (λ h. omega (arith, odd, h))
    go false e = let even : n % 2 ≡ 1 → ⊥ = eqb-false (n % 2) 1 e in eq-eqb ((1 + n) % 2) 1 (omega (arith, even))

-- one more where a test passes turns the parity
odd_step : (b : Bool) (n : ℕ) → ((cond {A = ℕ} b 1 0 + n) % 2 == 1) ≡ signed b (n % 2 == 1)
odd_step true n = one_more n
odd_step false n = ap (λ k. k % 2 == 1) (omega arith)

-- one element more that passes turns whether an odd number passes
count_odd-cons : {X : Type 0} (p : X → Bool) (x : X) (xs : List X) → (count_by p (x ∷ xs) % 2 == 1) ≡ signed (p x) (count_by p xs % 2 == 1)
count_odd-cons p x xs = ap (λ n. n % 2 == 1) (sum_by-cons (λ y. cond {A = ℕ} (p y) 1 0) x xs) ∙ odd_step (p x) (count_by p xs)

-- one variable more turns the parity where it is true
pub is_odd-cons : (values : List Bool) (v : Var) (vs : List Var) → is_odd values (v ∷ vs) ≡ signed (value_of values v) (is_odd values vs)
is_odd-cons values v vs = count_odd-cons (value_of values) v vs

-- a variable that stands twice changes nothing
pub is_odd_twice : (values : List Bool) (v : Var) (vs : List Var) → is_odd values (v ∷ v ∷ vs) ≡ is_odd values vs
is_odd_twice values v vs =
    is_odd-cons values v (v ∷ vs) ∙ (ap (signed (value_of values v)) (is_odd-cons values v vs) ∙ signed_twice (value_of values v) (is_odd values vs))

-- the parity of two lists together is that of their parities
pub is_odd-append : (values : List Bool) (vs ws : List Var) → is_odd values (vs ++ ws) ≡ signed (is_odd values vs) (is_odd values ws)
is_odd-append values [] ws = refl
is_odd-append values (v ∷ vs) ws =
    is_odd-cons values v (vs ++ ws)
    ∙ (ap (signed (value_of values v)) (is_odd-append values vs ws)
    ∙ (sym (signed-signed (value_of values v) (is_odd values vs) (is_odd values ws)) ∙ ap (λ b. signed b (is_odd values ws)) (sym (is_odd-cons values v vs))))

-- whether the number stands in the list
abbrev pub has : List ℕ → ℕ → Bool
has numbers n = list_any (λ m. m == n) numbers

-- to toggle a number turns whether that number is there, and leaves the others
pub has-toggled : (n m : ℕ) (numbers : List ℕ) → has (toggled n numbers) m ≡ signed (n == m) (has numbers m)
has-toggled n m numbers = go (has numbers n) (n == m) refl refl
  where
    taken_out : has (filter (λ k. not (k == n)) numbers) m ≡ (not (m == n) && has numbers m)
    taken_out = any-filter_same (λ k. k == m) (λ k. not (k == n)) (not (m == n)) (λ k h. ap (λ x. not (x == n)) (eqb-true k m h)) numbers

    go : (there same : Bool) → has numbers n ≡ there → (n == m) ≡ same → has (cond there (filter (λ k. not (k == n)) numbers) (n ∷ numbers)) m ≡ signed same (has numbers m)
    go true true t e =
        let n_is : n ≡ m = eqb-true n m e in
        taken_out ∙ (ap (λ b. not b && has numbers m) (eq-eqb m n (sym n_is)) ∙ ap not (sym t ∙ ap (has numbers) n_is))
    go true false t e = taken_out ∙ ap (λ b. not b && has numbers m) (ne_eqb m n (λ h. eqb-false n m e (sym h)))
    go false true t e = ap (λ b. b || has numbers m) e ∙ ap not (sym t ∙ ap (has numbers) (eqb-true n m e))
    go false false t e = ap (λ b. b || has numbers m) e

-- a variable is among the odd ones where it stands an odd number of times
pub has-odd_vars : (vars : List Var) (n : ℕ) → has (odd_vars vars) n ≡ (count_by (λ (v : Var). v.0 == n) vars % 2 == 1)
has-odd_vars [] n = refl
has-odd_vars (v ∷ vs) n = has-toggled v.0 n (odd_vars vs) ∙ (ap (signed (v.0 == n)) (has-odd_vars vs n) ∙ sym (count_odd-cons (λ (w : Var). w.0 == n) v vs))

-- a number that does not stand in a list differs from each that does
absent : (n : ℕ) (numbers : List ℕ) → has numbers n ≡ false → All (λ m. n ≢ m) numbers
absent n numbers e k d l h = false≢true (sym e ∙ list_any_at (λ m. m == n) numbers k d l (eq-eqb (get_or numbers k d) n (sym h)))

-- to toggle a number keeps a list without repeats
toggled_once : (n : ℕ) (numbers : List ℕ) → AllPairs (λ k m. k ≢ m) numbers → AllPairs (λ k m. k ≢ m) (toggled n numbers)
toggled_once n numbers once = go (has numbers n) refl
  where
    go : (there : Bool) → has numbers n ≡ there → AllPairs (λ k m. k ≢ m) (cond there (filter (λ k. not (k == n)) numbers) (n ∷ numbers))
    go true t = AllPairs-filter (λ k m. k ≢ m) (λ k. not (k == n)) numbers once
    go false t = AllPairs-cons (λ k m. k ≢ m) n numbers (absent n numbers t) once

-- no variable is twice among the odd ones
pub odd_vars_once : (vars : List Var) → AllPairs (λ k m. k ≢ m) (odd_vars vars)
odd_vars_once [] = λ i j d below within. absurd (omega arith)
odd_vars_once (v ∷ vs) = toggled_once v.0 (odd_vars vs) (odd_vars_once vs)

-- a list holds a number exactly where the test finds it
Contains-has : (numbers : List ℕ) (n : ℕ) → Contains numbers n ↔ (has numbers n ≡ true)
Contains-has numbers n = (forth, λ e. back (any_place (λ m. m == n) numbers e))
  where
    forth : Contains numbers n → has numbers n ≡ true
    forth (k, l, e) = list_any_at (λ m. m == n) numbers k n l (eq-eqb (get_or numbers k n) n e)

    back : (i : ℕ) × (x : ℕ) × (slice_get numbers i ≡ Some x) × ((x == n) ≡ true) → Contains numbers n
    back (i, x, stands, e) = (i, slice_get_within numbers i x stands, get_or_from_slice_get numbers i x n stands ∙ eqb-true x n e)

-- the odd variables are exactly those that stand an odd number of times, each once
pub odd_vars_right : (vars : List Var) → AreOddVars vars (odd_vars vars)
odd_vars_right vars =
    record {
      each = λ n.
          let found : Contains (odd_vars vars) n ↔ (has (odd_vars vars) n ≡ true) = Contains-has (odd_vars vars) n in (
            λ h. eqb-true (count_by (λ (v : Var). v.0 == n) vars % 2) 1 (sym (has-odd_vars vars n) ∙ found.0 h),
            λ h. found.1 (has-odd_vars vars n ∙ eq-eqb (count_by (λ (v : Var). v.0 == n) vars % 2) 1 h),
          );
      once = odd_vars_once vars;
    }

-- nothing is taken out where nothing is there
filter_absent : (n : ℕ) (numbers : List ℕ) → has numbers n ≡ false → filter (λ k. not (k == n)) numbers ≡ numbers
filter_absent n [] e = refl
filter_absent n (x ∷ xs) e =
    let a : ((x == n) ≡ false) × (has xs n ≡ false) = or_parts _ _ e in
    ap (λ b. cond (not b) (x ∷ filter (λ k. not (k == n)) xs) (filter (λ k. not (k == n)) xs)) a.0 ∙ ap (λ l. x ∷ l) (filter_absent n xs a.1)

-- the first of a list without repeats stands nowhere else
first_once : (x : ℕ) (xs : List ℕ) → AllPairs (λ k m. k ≢ m) (x ∷ xs) → has xs x ≡ false
first_once x xs once = go (has xs x) refl
  where
    no_place : (i : ℕ) × (y : ℕ) × (slice_get xs i ≡ Some y) × ((y == x) ≡ true) → ⊥
    no_place (i, y, stands, e) =
        let within : i < length xs = slice_get_within xs i y stands in
        once 0 (suc i) x (omega arith) (omega (arith, within)) (sym (get_or_from_slice_get xs i y x stands ∙ eqb-true y x e))

    go : (there : Bool) → has xs x ≡ there → there ≡ false
    go true t = absurd (no_place (any_place (λ m. m == x) xs t))
    go false t = refl

-- where a number that stands once is taken out, its value counts no more
odd_of_without : (values : List Bool) (n : ℕ) (numbers : List ℕ) → AllPairs (λ k m. k ≢ m) numbers → has numbers n ≡ true
    → odd_of values (filter (λ k. not (k == n)) numbers) ≡ signed (slice_index_or values n false) (odd_of values numbers)
odd_of_without values n [] once e = absurd (false≢true e)
odd_of_without values n (x ∷ xs) once e =
    go (x == n) refl e (λ (h : has xs n ≡ true). odd_of_without values n xs (λ i j d below within. once (suc i) (suc j) d (omega (arith, below)) (omega (arith, within))) h)
  where
    go : (same : Bool) → (x == n) ≡ same → (same || has xs n) ≡ true → (has xs n ≡ true → odd_of values (filter (λ k. not (k == n)) xs) ≡ signed (slice_index_or values n false) (odd_of values xs))
        → odd_of values (cond (not same) (x ∷ filter (λ k. not (k == n)) xs) (filter (λ k. not (k == n)) xs)) ≡ signed (slice_index_or values n false) (odd_of values (x ∷ xs))
    go true s there rest =
        let x_is : x ≡ n = eqb-true x n s in
        ap (odd_of values) (filter_absent n xs (ap (has xs) (sym x_is) ∙ first_once x xs once))
        ∙ (sym (signed_twice (slice_index_or values n false) (odd_of values xs))
        ∙ ap (signed (slice_index_or values n false)) (ap (λ m. signed (slice_index_or values m false) (odd_of values xs)) (sym x_is) ∙ sym (count_odd-cons (λ m. slice_index_or values m false) x xs)))
    go false s there rest =
        count_odd-cons (λ m. slice_index_or values m false) x (filter (λ k. not (k == n)) xs)
        ∙ (ap (signed (slice_index_or values x false)) (rest there)
        ∙ (signed_comm (slice_index_or values x false) (slice_index_or values n false) (odd_of values xs)
        ∙ ap (signed (slice_index_or values n false)) (sym (count_odd-cons (λ m. slice_index_or values m false) x xs))))

-- to toggle a number turns the parity where it is true
odd_of-toggled : (values : List Bool) (n : ℕ) (numbers : List ℕ) → AllPairs (λ k m. k ≢ m) numbers → odd_of values (toggled n numbers) ≡ signed (slice_index_or values n false) (odd_of values numbers)
odd_of-toggled values n numbers once = go (has numbers n) refl
  where
    go : (there : Bool) → has numbers n ≡ there → odd_of values (cond there (filter (λ k. not (k == n)) numbers) (n ∷ numbers)) ≡ signed (slice_index_or values n false) (odd_of values numbers)
    go true t = odd_of_without values n numbers once t
    go false t = count_odd-cons (λ m. slice_index_or values m false) n numbers

-- the parity of the odd variables is the parity of all
pub odd_of-odd_vars : (values : List Bool) (vars : List Var) → odd_of values (odd_vars vars) ≡ is_odd values vars
odd_of-odd_vars values [] = refl
odd_of-odd_vars values (v ∷ vs) =
    odd_of-toggled values v.0 (odd_vars vs) (odd_vars_once vs)
    ∙ (ap (signed (value_of values v)) (odd_of-odd_vars values vs) ∙ sym (is_odd-cons values v vs))

-- different variables are all odd ones
pub length-odd_vars : (vars : List Var) → AllPairs (λ (v w : Var). v.0 ≢ w.0) vars → length (odd_vars vars) ≡ length vars
length-odd_vars [] once = refl
length-odd_vars (v ∷ vs) once =
    ap (λ b. length (cond b (filter (λ k. not (k == v.0)) (odd_vars vs)) (v.0 ∷ odd_vars vs)))
    (apart v.0 vs (λ k d l. once 0 (suc k) d (omega arith) (omega (arith, l))))
    ∙ ap suc (length-odd_vars vs (λ i j d below within. once (suc i) (suc j) d (omega (arith, below)) (omega (arith, within))))
  where
    apart : (n : ℕ) (ws : List Var) → All (λ (w : Var). n ≢ w.0) ws → has (odd_vars ws) n ≡ false
    apart n [] h = refl
    apart n (w ∷ ws) h =
        has-toggled w.0 n (odd_vars ws)
        ∙ (ap (λ b. signed b (has (odd_vars ws) n)) (ne_eqb w.0 n (λ e. h 0 w (omega arith) (sym e)))
        ∙ apart n ws (λ k d l. h (suc k) d (omega (arith, l))))

-- a parity of ten different variables has three cuts
pub cuts_of_ten : (vars : List Var) (rhs : Bool) → length vars ≡ 10 → AllPairs (λ (v w : Var). v.0 ≢ w.0) vars → cuts (Parity vars rhs) ≡ 3
cuts_of_ten vars rhs ten once = ap cuts_of_count (length-odd_vars vars once ∙ ten)

-- to toggle a number makes a list longer by one at most
length-toggled : (n : ℕ) (numbers : List ℕ) → length (toggled n numbers) ≤ suc (length numbers)
length-toggled n numbers = go (has numbers n)
  where
    go : (there : Bool) → length (cond there (filter (λ k. not (k == n)) numbers) (n ∷ numbers)) ≤ suc (length numbers)
    go true = omega (arith, length-filter (λ k. not (k == n)) numbers, count_by-le-length (λ k. not (k == n)) numbers)
    go false = omega arith

-- no more variables are odd ones than stand there
few_odd_vars : (vars : List Var) → length (odd_vars vars) ≤ length vars
few_odd_vars [] = omega arith
few_odd_vars (v ∷ vs) = omega (arith, length-toggled v.0 (odd_vars vs), few_odd_vars vs)

-- an item has at least two literals for each of its cuts
pub few_cuts : (item : Item) → 2 * cuts item ≤ length (numbers_of item)
few_cuts (Clause lits) = omega arith
few_cuts (Parity vars rhs) = omega (arith, few_odd_vars vars, length-map vars (λ (v : Var). v.0))
