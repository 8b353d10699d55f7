-- Parities over own variables, and the pieces that one is cut into.
use Rattle.std.specs.Prelude.{◌≡◌, ℕ, zero, suc, ◌+◌, ◌<◌, ◌≤◌, ◌==◌, Bool, true, false, not, ◌&&◌, List, [], ◌∷◌, ◌++◌, Some, None, length, take, drop}
use Rattle.std.specs.Bool.{beq}
use Rattle.std.specs.List.{list_all, list_any}
use Rattle.sat_lits.specs.Truth.{signed}
use Rattle.sat_lits.specs.Conflicts.{cuts_of_count}
use Rattle.sat_lits.specs.declared.literal.Own.{Own}
use Rattle.xor_cut.specs.declared.piece.Piece.{Piece}

-- the exclusive or of own variables: whether an odd number of them, counted with repeats, is true
abbrev pub exclusive_or : (ℕ → Bool) → List Own → Bool
exclusive_or w [] = false
exclusive_or w (v ∷ vars) = signed (w v.0) (exclusive_or w vars)

-- whether own values satisfy a parity
abbrev pub is_parity : (ℕ → Bool) → List Own → Bool → Bool
is_parity w vars rhs = beq (exclusive_or w vars) rhs

-- whether they satisfy each piece
abbrev pub are_satisfied : (ℕ → Bool) → List Piece → Bool
are_satisfied w ps = list_all (λ p. is_parity w p.vars p.rhs) ps

-- whether no variable stands twice
abbrev pub are_different : List Own → Bool
are_different [] = true
are_different (v ∷ vars) = not (list_any (λ u. u.0 == v.0) vars) && are_different vars

abbrev pub own_var : ℕ → Own
own_var n = record { 0 = n }

-- this many own variables from a number on
abbrev pub own_vars : ℕ → ℕ → List Own
own_vars next zero = []
own_vars next (suc n) = own_var next ∷ own_vars (suc next) n

-- the first three variables and a fresh one, of which an even number is true
abbrev pub first_piece : List Own → ℕ → Piece
first_piece vars next = record { vars = take 3 vars ++ own_var next ∷ []; rhs = false; fresh = Some (own_var next) }

-- what is left, without a fresh variable
abbrev pub last_piece : List Own → Bool → Piece
last_piece vars rhs = record { vars = vars; rhs = rhs; fresh = None }

-- the pieces of a parity that is cut this many times: each cut takes the first three variables, and puts the fresh one behind those that remain
abbrev pub pieces_by : ℕ → List Own → Bool → ℕ → List Piece
pieces_by zero vars rhs next = last_piece vars rhs ∷ []
pieces_by (suc n) vars rhs next = first_piece vars next ∷ pieces_by n (drop 3 vars ++ own_var next ∷ []) rhs (suc next)

-- the pieces of a parity, which is cut while more than four variables remain
abbrev pub pieces : List Own → Bool → ℕ → List Piece
pieces vars rhs next = pieces_by (cuts_of_count (length vars)) vars rhs next

-- own values that are the same but for this many variables from a number on
pub record SameBut (next count : ℕ) (w u : ℕ → Bool) : Type 0 where
  pub below : (k : ℕ) → k < next → u k ≡ w k
  pub above : (k : ℕ) → next + count ≤ k → u k ≡ w k

-- own values extend in exactly one way to this many variables from a number on so that all pieces are satisfied
pub record ExtendsOnce (next count : ℕ) (ps : List Piece) (w : ℕ → Bool) : Type 0 where
  pub values : ℕ → Bool
  pub same : SameBut next count w values
  pub satisfied : are_satisfied values ps ≡ true
  pub only : (u : ℕ → Bool) → SameBut next count w u → are_satisfied u ps ≡ true → (k : ℕ) → u k ≡ values k
