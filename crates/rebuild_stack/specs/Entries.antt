-- The entries of a stack, oldest first, and what they rebuild.
use Rattle.std.specs.Prelude.{◌≡◌, ℕ, ◌+◌, ◌==◌, Bool, true, false, not, cond, ◌&&◌, ◌||◌, List, [], ◌∷◌, Some, drop, slice_get, nat_lt}
use Rattle.std.specs.Bool.{beq}
use Rattle.std.specs.List.{list_all, list_any}
use Rattle.sat_lits.specs.Truth.{signed, clauses_value, with_value}
use Rattle.sat_lits.specs.declared.literal.Own.{Own}
use Rattle.sat_lits.specs.declared.literal.OwnLit.{OwnLit}
use Rattle.rebuild_stack.specs.Values.{own_value}
use Rattle.rebuild_stack.specs.declared.entry.Entry.{Entry}
use Rattle.rebuild_stack.specs.declared.entry.Entry.TheVariants.{Fix, Equal, Gone}

-- an entry gives its variable a value: that which makes the literal true, that of the literal, or the opposite where one of the clauses is false
abbrev pub undo : Entry → (ℕ → Bool) → ℕ → Bool
undo (Fix l) w = with_value w l.var.0 (not l.negative)
undo (Equal v l) w = with_value w v.0 (own_value w l)
undo (Gone v cs) w = with_value w v.0 (signed (not (clauses_value (own_value w) cs)) (w v.0))

-- the entries are undone from the newest to the oldest
abbrev pub rebuild : List Entry → (ℕ → Bool) → ℕ → Bool
rebuild [] w = w
rebuild (e ∷ newer) w = undo e (rebuild newer w)

-- what an entry says of values that it holds of
abbrev pub entry_value : (ℕ → Bool) → Entry → Bool
entry_value w (Fix l) = own_value w l
entry_value w (Equal v l) = beq (w v.0) (own_value w l)
entry_value w (Gone v cs) = clauses_value (own_value w) cs

-- the variable that an entry gives a value
abbrev pub named : Entry → ℕ
named (Fix l) = l.var.0
named (Equal v l) = v.0
named (Gone v cs) = v.0

-- whether the entry gives the variable a value
abbrev pub names : ℕ → Entry → Bool
names k e = k == named e

-- whether the entry is a `Gone`
abbrev pub is_gone : Entry → Bool
is_gone (Fix l) = false
is_gone (Equal v l) = false
is_gone (Gone v cs) = true

-- whether the entry is a `Gone` of the variable
abbrev pub is_block_of : Own → Entry → Bool
is_block_of v e = is_gone e && (named e == v.0)

-- the entry at the place is a `Gone` of the variable, and no newer one is
pub record IsNewestBlock (v : Own) (s : List Entry) (at : ℕ) : Type 0 where
  pub clauses : List (List OwnLit)
  pub entry : slice_get s at ≡ Some (Gone v clauses)
  pub newest : list_any (is_block_of v) (drop (at + 1) s) ≡ false

-- whether each other variable of the entry passes
abbrev pub others_pass : (ℕ → Bool) → Entry → Bool
others_pass p (Fix l) = true
others_pass p (Equal v l) = p l.var.0
others_pass p (Gone v cs) = list_all (λ c. list_all (λ l. (l.var.0 == v.0) || p l.var.0) c) cs

-- whether the variables of the entry are below n
abbrev pub is_within : ℕ → Entry → Bool
is_within n e = nat_lt (named e) n && others_pass (λ k. nat_lt k n) e

-- each other variable of an entry is active or is named by a newer entry
abbrev pub ordered : (ℕ → Bool) → List Entry → Bool
ordered active [] = true
ordered active (e ∷ newer) = others_pass (λ k. active k || list_any (names k) newer) e && ordered active newer

-- how many entries name the variable
abbrev pub times_named : ℕ → List Entry → ℕ
times_named k [] = 0
times_named k (e ∷ newer) = cond (names k e) 1 0 + times_named k newer
