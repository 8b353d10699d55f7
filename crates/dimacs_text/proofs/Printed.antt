-- The text of values, one by one.
use Rattle.std.proofs.Common.{◌≡◌, ℕ, suc, ◌+◌, ◌<◌, ◌≤◌, Bool, not, false, List, [], ◌∷◌, ◌++◌, length, take, get_or, Result, Ok, Err, is_ok, OnOk, if◌then◌else◌, sym, ◌∙◌, ap, append_assoc, arith}
use Rattle.std.proofs.lemmas.List.{take_more, flat_map_more, length-take-le}
use Rattle.std.specs.List.{enumerate_from, flat_map}
use Rattle.dimacs_text.specs.Texts.{literal_text, values_text}

-- a list that is counted from a number, and one element more
enumerate_from-more : {X : Type 0} (first : ℕ) (xs : List X) (x : X) → enumerate_from first (xs ++ x ∷ []) ≡ enumerate_from first xs ++ (first + length xs, x) ∷ []
enumerate_from-more first [] x = let e : first ≡ first + 0 = omega arith in ap (λ n. (n, x) ∷ []) e
enumerate_from-more first (y ∷ ys) x =
    let e : first + 1 + length ys ≡ first + suc (length ys) = omega arith in
    ap (λ t. (first, y) ∷ t) (enumerate_from-more (first + 1) ys x ∙ ap (λ n. enumerate_from (first + 1) ys ++ (n, x) ∷ []) e)

-- the text of a front of the values, and of one value more
pub values_text-more : (before : List ℕ) (values : List Bool) (i : ℕ) → i < length values
    → before ++ values_text (take i values) ++ literal_text (not (get_or values i false)) i ≡ before ++ values_text (take (i + 1) values)
values_text-more before values i l =
    let front : List Bool = take i values in
    let value : Bool = get_or values i false in
    let text = λ (entry : ℕ × Bool). literal_text (not entry.1) entry.0 in
    let within : i ≤ length values = omega arith in
    let place : 0 + length front ≡ i = omega (arith, length-take-le i values within) in
    let counted : enumerate_from 0 (take (i + 1) values) ≡ enumerate_from 0 front ++ (i, value) ∷ []
    = ap (enumerate_from 0) (take_more values i false l) ∙ (enumerate_from-more 0 front value ∙ ap (λ n. enumerate_from 0 front ++ (n, value) ∷ []) place) in
    flat_map_more text before (enumerate_from 0 front) (i, value) ∙ ap (λ t. before ++ flat_map text t) (sym counted)

-- three parts, of which the last may fail
pub parts_written : {X E : Type 0} (result : Result X E) (old first second last : List ℕ) (a b c : List ℕ) → first ≡ old ++ a → second ≡ first ++ b
    → last ≡ (if is_ok result then second ++ c else second)
    → OnOk result (last ≡ old ++ (a ++ b ++ c))
parts_written (Ok x) old first second last a b c e f g = rw (g, f, e) (simp append_assoc)
parts_written (Err x) old first second last a b c e f g = tt
