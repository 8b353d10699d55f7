-- The variables that left the clauses.
use Rattle.std.specs.Prelude.{◌≡◌, ℕ, ◌==◌, Bool, true, not, cond, List, [], ◌∷◌, Some, None, slice_get}
use Rattle.std.specs.declared.option.Option.{Option}
use Rattle.sat_lits.specs.declared.literal.Own.{Own}
use Rattle.sat_lits.specs.declared.literal.OwnLit.{OwnLit}
use Rattle.rebuild_stack.specs.Entries.{ordered}
use Rattle.rebuild_stack.specs.Roots.{turned}
use Rattle.rebuild_stack.specs.declared.entry.Entry.{Entry}
use Rattle.rebuild_stack.specs.declared.entry.Entry.TheVariants.{Fix, Equal, Gone}
use Rattle.state_laws.specs.RootTableLaws.{AreOnce}

-- the entries of a stack, oldest first, and for how many own variables it tells what became of them
pub record Removed : Type 0 where
  pub entries : List Entry
  pub vars : ℕ

-- each variable is active or named by one entry, and the other variables of an entry are active or named by newer ones
pub record IsInOrder (entries : List Entry) : Type 0 where
  pub active : ℕ → Bool
  pub once : AreOnce active entries
  pub order : ordered active entries ≡ true

-- the entry at the place is a `Gone` of the variable
pub record HasBlock (v : Own) (entries : List Entry) (at : ℕ) : Type 0 where
  pub clauses : List (List OwnLit)
  pub entry : slice_get entries at ≡ Some (Gone v clauses)

-- the literal that is left where each replaced variable goes on as the literal that replaces it
abbrev pub last_lit : List Entry → OwnLit → OwnLit
last_lit [] l = l
last_lit (Fix k ∷ newer) l = last_lit newer l
last_lit (Equal v k ∷ newer) l = cond (l.var.0 == v.0) (last_lit newer (turned l.negative k)) (last_lit newer l)
last_lit (Gone v cs ∷ newer) l = last_lit newer l

-- the value that an entry fixes its variable to
abbrev pub fixed_value : Option Entry → Option Bool
fixed_value None = None
fixed_value (Some (Fix l)) = Some (not l.negative)
fixed_value (Some (Equal v l)) = None
fixed_value (Some (Gone v cs)) = None
