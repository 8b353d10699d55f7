-- Tables whose entries may be absent.
use Rattle.std.proofs.Common.{◌≡◌, ℕ, zero, suc, ◌<◌, ◌≤◌, ◌==◌, Bool, true, false, cond, List, [], ◌∷◌, ◌++◌, refl, sym, ap, ◌∙◌, arith, length, get_or, set, Option, Some, None, eqb-true, eq-eqb, ne_eqb}
use Rattle.std.proofs.lemmas.Bool.{eqb-false, false≢true}
use Rattle.std.specs.Option.{is_some}
use Rattle.std.specs.List.{slice_get}

-- the test of two successors is that of the numbers
eqb_suc : (j n : ℕ) → (suc j == suc n) ≡ (j == n)
eqb_suc j n = go (j == n) refl
  where
    go : (b : Bool) → (j == n) ≡ b → (suc j == suc n) ≡ b
    go true e = eq-eqb _ _ (ap suc (eqb-true _ _ e))
    go false e = ne_eqb _ _ (λ z. eqb-false _ _ e (let a : j ≡ n = omega arith in a))

-- a table with one entry more
pub get_or-push : {X : Type 0} (xs : List (Option X)) (y : Option X) (j : ℕ) → get_or (xs ++ y ∷ []) j None ≡ cond (j == length xs) y (get_or xs j None)
get_or-push [] y zero = refl
get_or-push [] y (suc j) = rw (ne_eqb (suc j) 0 (λ e. absurd (omega arith))) refl
get_or-push (x ∷ xs) y zero = rw (ne_eqb 0 (suc (length xs)) (λ e. absurd (omega arith))) refl
get_or-push (x ∷ xs) y (suc j) = get_or-push xs y j ∙ ap (λ b. cond b y (get_or xs j None)) (sym (eqb_suc j (length xs)))

-- the same of a list whose entries are all there
pub slice_get-push : {X : Type 0} (xs : List X) (y : X) (j : ℕ) → slice_get (xs ++ y ∷ []) j ≡ cond (j == length xs) (Some y) (slice_get xs j)
slice_get-push [] y zero = refl
slice_get-push [] y (suc j) = rw (ne_eqb (suc j) 0 (λ e. absurd (omega arith))) refl
slice_get-push (x ∷ xs) y zero = rw (ne_eqb 0 (suc (length xs)) (λ e. absurd (omega arith))) refl
slice_get-push (x ∷ xs) y (suc j) = slice_get-push xs y j ∙ ap (λ b. cond b (Some y) (slice_get xs j)) (sym (eqb_suc j (length xs)))

-- a table that is written at one place
pub get_or-written : {X : Type 0} (xs : List (Option X)) (i : ℕ) (y : Option X) (j : ℕ) → i < length xs → get_or (set xs i y) j None ≡ cond (j == i) y (get_or xs j None)
get_or-written [] i y j h = absurd (omega arith)
get_or-written (x ∷ xs) zero y zero h = refl
get_or-written (x ∷ xs) zero y (suc j) h = rw (ne_eqb (suc j) 0 (λ e. absurd (omega arith))) refl
get_or-written (x ∷ xs) (suc i) y zero h = rw (ne_eqb 0 (suc i) (λ e. absurd (omega arith))) refl
get_or-written (x ∷ xs) (suc i) y (suc j) h = get_or-written xs i y j (omega arith) ∙ ap (λ b. cond b y (get_or xs j None)) (sym (eqb_suc j i))

-- past the end there is nothing
pub past_none : {X : Type 0} (xs : List (Option X)) (j : ℕ) → length xs ≤ j → get_or xs j None ≡ None
past_none [] j h = refl
past_none (x ∷ xs) zero h = absurd (omega arith)
past_none (x ∷ xs) (suc j) h = past_none xs j (omega arith)

pub slice_past : {X : Type 0} (xs : List X) (j : ℕ) → length xs ≤ j → slice_get xs j ≡ None
slice_past [] j h = refl
slice_past (x ∷ xs) zero h = absurd (omega arith)
slice_past (x ∷ xs) (suc j) h = slice_past xs j (omega arith)

-- an entry that is there stands within the table
pub some_within : {X : Type 0} (xs : List (Option X)) (k : ℕ) → is_some (get_or xs k None) ≡ true → k < length xs
some_within [] k h = absurd (false≢true h)
some_within (x ∷ xs) zero h = omega arith
some_within (x ∷ xs) (suc k) h = let a : k < length xs = some_within xs k h in omega arith

-- the entry that was read, where it is there
pub read_some : {X : Type 0} (xs : List (Option X)) (k : ℕ) (r : Option X) → k < length xs → r ≡ get_or xs k r → get_or xs k None ≡ r
read_some [] k r h e = absurd (omega arith)
read_some (x ∷ xs) zero r h e = sym e
read_some (x ∷ xs) (suc k) r h e = read_some xs k r (omega arith) e
