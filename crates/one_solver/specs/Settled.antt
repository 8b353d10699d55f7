-- How a state is left by the moves that a call begins with.
use Rattle.std.specs.Prelude.{◌≡◌, ◌<◌, ◌++◌, ℕ, true, not, List, count_by}
use Rattle.std.specs.List.{list_all}
use Rattle.sat_lits.specs.declared.literal.Lit.{Lit}
use Rattle.sat_lits.specs.declared.literal.OwnLit.{OwnLit}
use Rattle.rebuild_stack.specs.Entries.{is_gone}
use Rattle.rebuild_stack.specs.declared.entry.Entry.{Entry}
use Rattle.state_laws.specs.Kernel.{Kernel, state_of, TookSame}
use Rattle.equiv_replace.specs.Binary.{HasNoCycles}
use Rattle.var_elim.specs.Eliminating.{NoneCanGo}
use Rattle.one_solver.specs.Roots.{last_vars}

-- variables were fixed or replaced alone: the stack goes on by their entries, and no variable was made
pub record OnlyPushed (old new : Kernel) : Type 0 where
  pub definitions : new.definitions ≡ old.definitions
  pub entries : List Entry
  pub stack : new.stack ≡ old.stack ++ entries
  pub kept : list_all (λ e. not (is_gone e)) entries ≡ true

-- nothing but variables came back: the hard clauses go on by those of the variables
pub record CameBack (old new : Kernel) : Type 0 where
  pub same : TookSame old new
  pub okay : new.okay ≡ old.okay
  pub clauses : List (List OwnLit)
  pub hard : (state_of new).hard ≡ (state_of old).hard ++ clauses

-- a solver finds no cycle of binary clauses, and no variable to eliminate but those that are left of its assumptions and its own ones
pub record IsDone (k : Kernel) (assumptions : List Lit) (solver : ℕ) : Type 0 where
  pub cycles : HasNoCycles (state_of k).hard
  pub bound : NoneCanGo k (last_vars k assumptions) solver

-- fewer variables are active
abbrev pub HasFewer : Kernel → Kernel → Type 0
HasFewer old new = count_by (λ b. b) (state_of new).active < count_by (λ b. b) (state_of old).active
