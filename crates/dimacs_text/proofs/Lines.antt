-- Comments, to their line's end.
use Rattle.std.proofs.Common.{◌≡◌, ℕ, true, false, List, [], ◌∷◌, ◌++◌, nat_eq, refl, ◌∙◌, ap}
use Rattle.dimacs_text.specs.Comments.{line, after_line}
use Rattle.dimacs_text.specs.Stands.{IsInLine}
use Rattle.dimacs_text.proofs.Walks.{elim_true, elim_false}

-- the end, or byte 10
abbrev pub IsLineEnd : List ℕ → Type 0
IsLineEnd [] = Unit {0}
IsLineEnd (b ∷ bs) = nat_eq b 10 ≡ true

-- the line at the front is all that comes before byte 10 or the end
pub line-whole : (w tail : List ℕ) → IsInLine w → IsLineEnd tail → line (w ++ tail) ≡ w
unfolding line
line-whole [] [] s t = refl
line-whole [] (b ∷ tail) s t = elim_true (nat_eq b 10) [] (b ∷ line tail) t
line-whole (b ∷ w) tail s t = elim_false (nat_eq b 10) [] (b ∷ line (w ++ tail)) s.0 ∙ ap (λ x. b ∷ x) (line-whole w tail s.1 t)

-- behind that line comes byte 10 or the end
pub after_line-whole : (w tail : List ℕ) → IsInLine w → IsLineEnd tail → after_line (w ++ tail) ≡ tail
unfolding after_line
after_line-whole [] [] s t = refl
after_line-whole [] (b ∷ tail) s t = elim_true (nat_eq b 10) (b ∷ tail) (after_line tail) t
after_line-whole (b ∷ w) tail s t = elim_false (nat_eq b 10) (b ∷ (w ++ tail)) (after_line (w ++ tail)) s.0 ∙ after_line-whole w tail s.1 t

-- one byte more in a line
pub in_line_push : (w : List ℕ) (b : ℕ) → IsInLine w → nat_eq b 10 ≡ false → IsInLine (w ++ b ∷ [])
in_line_push [] b s h = (h, tt)
in_line_push (x ∷ w) b s h = (s.0, in_line_push w b s.1 h)
