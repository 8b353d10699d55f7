-- The queue of the variables that a cut has not taken yet.
use Rattle.std.proofs.Common.{◌≡◌, ℕ, suc, ◌+◌, ◌-◌, ◌*◌, ◌<◌, ◌≤◌, Bool, List, [], ◌∷◌, ◌++◌, sym, ap, ap₂, ◌∙◌, arith, length, take, drop, take_all, append_assoc}
use Rattle.std.proofs.lemmas.List.{length_push, length-drop, drop-append-le, drop-drop}
use Rattle.sat_lits.specs.declared.literal.Own.{Own}
use Rattle.xor_cut.specs.declared.piece.Piece.{Piece}
use Rattle.xor_cut.specs.Pieces.{own_var, first_piece, last_piece, pieces_by}

-- one cut more
cut_more : (done : List Piece) (cuts at : ℕ) (queue : List Own) (rhs : Bool) (next : ℕ) (all : List Piece) → at < cuts → 3 * at + 3 ≤ length queue
    → done ++ pieces_by (cuts - at) (drop (3 * at) queue) rhs (next + at) ≡ all
    → (done ++ first_piece (drop (3 * at) queue) (next + at) ∷ []) ++ pieces_by (cuts - (at + 1)) (drop (3 * (at + 1)) (queue ++ own_var (next + at) ∷ [])) rhs (next + (at + 1)) ≡ all
cut_more done cuts at queue rhs next all l m e =
    append_assoc done (first_piece (drop (3 * at) queue) (next + at) ∷ []) (pieces_by (cuts - (at + 1)) (drop (3 * (at + 1)) (queue ++ own_var (next + at) ∷ [])) rhs (next + (at + 1)))
    ∙ (ap (λ z. done ++ z) (sym (ap (λ n. pieces_by n (drop (3 * at) queue) rhs (next + at)) (let a : cuts - at ≡ suc (cuts - (at + 1)) = omega arith in a)
    ∙ ap₂ {C = List Piece} (λ (q : List Own) (n : ℕ). first_piece (drop (3 * at) queue) (next + at) ∷ pieces_by (cuts - (at + 1)) q rhs n) rest (let a : suc (next + at) ≡ next + (at + 1) = omega arith in a))) ∙ e)
  where
    rest : drop 3 (drop (3 * at) queue) ++ own_var (next + at) ∷ [] ≡ drop (3 * (at + 1)) (queue ++ own_var (next + at) ∷ [])
    rest = ap (λ z. z ++ own_var (next + at) ∷ []) (drop-drop 3 (3 * at) queue ∙ ap (λ n. drop n queue) (let a : 3 * at + 3 ≡ 3 * (at + 1) = omega arith in a))
        ∙ sym (drop-append-le (3 * (at + 1)) queue (own_var (next + at) ∷ []) (omega arith))

-- the same with what was pushed
pub cut_step : (done more : List Piece) (piece : Piece) (cuts at count : ℕ) (queue longer : List Own) (rhs : Bool) (next : ℕ) (all : List Piece) → at < cuts → 3 * at + 3 ≤ length queue → piece ≡ first_piece (drop (3 * at) queue) (next + at) → more ≡ done ++ piece ∷ []
    → longer ≡ queue ++ own_var (next + at) ∷ [] → (done ++ pieces_by (cuts - at) (drop (3 * at) queue) rhs (next + at) ≡ all) × (length queue ≡ count + at)
    → (more ++ pieces_by (cuts - (at + 1)) (drop (3 * (at + 1)) longer) rhs (next + (at + 1)) ≡ all) × (length longer ≡ count + (at + 1))
cut_step done more piece cuts at count queue longer rhs next all l m p d q e = (
  ap₂ {C = List Piece} (λ (x : List Piece) (y : List Own). x ++ pieces_by (cuts - (at + 1)) (drop (3 * (at + 1)) y) rhs (next + (at + 1))) (d ∙ ap (λ z. done ++ z ∷ []) p) q ∙ cut_more done cuts at queue rhs next all l m e.0,
  ap length q ∙ (length_push queue (own_var (next + at)) ∙ (ap (λ n. n + 1) e.1 ∙ omega arith)),
)

-- all cuts are made
pub cut_done : (done more : List Piece) (cuts at : ℕ) (queue left : List Own) (rhs : Bool) (next : ℕ) (all : List Piece) → at ≡ cuts → left ≡ drop (3 * cuts) queue → more ≡ done ++ last_piece left rhs ∷ []
    → done ++ pieces_by (cuts - at) (drop (3 * at) queue) rhs (next + at) ≡ all → more ≡ all
cut_done done more cuts at queue left rhs next all e f g h =
    g ∙ (ap (λ (z : List Own). done ++ last_piece z rhs ∷ []) (f ∙ ap (λ n. drop (3 * n) queue) (sym e)) ∙ (ap (λ n. done ++ pieces_by n (drop (3 * at) queue) rhs (next + at)) (let a : 0 ≡ cuts - at = omega arith in a) ∙ h))

-- what is read from a place on is what remains from there
pub read_from : (queue slice : List Own) (from place : ℕ) → slice ≡ queue → from ≡ place → take (length slice - from) (drop from slice) ≡ drop place queue
read_from queue slice from place e f = take_all (length slice - from) (drop from slice) (omega (arith, length-drop from slice)) ∙ ap₂ {C = List Own} (λ (n : ℕ) (q : List Own). drop n q) f e
