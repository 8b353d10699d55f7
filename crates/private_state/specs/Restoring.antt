-- Variables that are restored.
use Rattle.std.specs.Prelude.{◌≡◌, ◌<◌, ℕ, true, List, [], ◌∷◌, Some, None, length, take, slice_get}
use Rattle.sat_lits.specs.declared.literal.Own.{Own}
use Rattle.sat_lits.specs.declared.literal.OwnLit.{OwnLit}
use Rattle.sat_lits.specs.declared.literal.Inner.{Inner}
use Rattle.rebuild_stack.specs.Values.{each_lit}
use Rattle.rebuild_stack.specs.Roots.{root}
use Rattle.rebuild_stack.specs.PutIn.{put_in_all}
use Rattle.rebuild_stack.specs.declared.entry.Entry.{Entry}
use Rattle.rebuild_stack.specs.declared.entry.Entry.TheVariants.{Gone}
use Rattle.clause_store.specs.Store.{Store}
use Rattle.var_maps.specs.Maps.{Maps, Revived, inner_at, owner_at}
use Rattle.state_laws.specs.State.{State}
use Rattle.state_laws.specs.Moves.{restored}
use Rattle.state_laws.specs.Conditions.{Restorable}
use Rattle.state_laws.specs.Held.{has_inner}
use Rattle.removed_vars.specs.Restoring.{left_by, AreOfOthers, Holds}

-- the variable is eliminated, and no other variable of its entry's clauses is eliminated or replaced by an eliminated one
pub record CanRestore (s : State) (v : Own) : Type 0 where
  pub place : ℕ
  pub clauses : List (List OwnLit)
  pub restorable : Restorable s place v clauses

-- the variable's entry was taken out, and its clauses are hard again, with the newer entries put in
pub record Restores (s t : State) (v : Own) : Type 0 where
  pub place : ℕ
  pub clauses : List (List OwnLit)
  pub restorable : Restorable s place v clauses
  pub becomes : t ≡ restored place v clauses s

-- these variables can be restored one after another: the first one, and the others wherever that was done
abbrev pub CanRestoreAll : List Own → State → Type 0
CanRestoreAll [] s = Unit {0}
CanRestoreAll (v ∷ vs) s = CanRestore s v × ((t : State) → Restores s t v → CanRestoreAll vs t)

-- from one state to the other these variables were restored, in order, and nothing else was done
abbrev pub AreRestored : List Own → State → State → Type 0
AreRestored [] s t = t ≡ s
AreRestored (v ∷ vs) s t = (m : State) × (Restores s m v × AreRestored vs m t)

-- the first few of these variables were restored, and not all
pub record RestoresFew (vars : List Own) (s t : State) : Type 0 where
  pub count : ℕ
  pub few : count < length vars
  pub moves : AreRestored (take count vars) s t

-- these are the clauses of the variable's `Gone` entry
pub record AreGone (v : Own) (entries : List Entry) (clauses : List (List OwnLit)) : Type 0 where
  pub place : ℕ
  pub entry : slice_get entries place ≡ Some (Gone v clauses)

-- the variable is eliminated and not active; once it is active, no entry that is left names an active variable, and what its clauses come to along those holds active ones alone
pub record CanComeBack (v : Own) (m : Maps) (entries : List Entry) : Type 0 where
  pub clauses : List (List OwnLit)
  pub gone : AreGone v entries clauses
  pub there : v.0 < length m.inners
  pub retired : inner_at m v.0 ≡ None
  pub others : (i : Inner) (n : Maps) → Revived v i m n → AreOfOthers n (left_by n entries)
  pub active : (i : Inner) (n : Maps) → Revived v i m n → each_lit (has_inner n) (put_in_all (root (left_by n entries)) clauses) ≡ true

-- the variable is active again, and what its clauses come to along the entries that are left was added
pub record ComesBack (v : Own) (entries : List Entry) (m n : Maps) (s t : Store) : Type 0 where
  pub clauses : List (List OwnLit)
  pub gone : AreGone v entries clauses
  pub inner : Inner
  pub maps : Revived v inner m n
  pub holds : Holds n s t (put_in_all (root (left_by n entries)) clauses)

-- the maps say what they said
pub record SayTheSame (m n : Maps) : Type 0 where
  pub inners : n.inners ≡ m.inners
  pub owner : (i : ℕ) → owner_at n i ≡ owner_at m i
  pub outers : n.outers ≡ m.outers
  pub outer_numbers : n.outer_numbers ≡ m.outer_numbers
