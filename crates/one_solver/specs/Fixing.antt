-- A state while the literals of its clauses of one literal are fixed.
use Rattle.std.specs.Prelude.{◌≡◌, ◌≤◌, ◌⊎◌, true, Some, None, count_by}
use Rattle.std.specs.declared.option.Option.{Option}
use Rattle.std.specs.Global.{Vec}
use Rattle.std.specs.List.{list_any}
use Rattle.sat_lits.specs.declared.literal.OwnLit.{OwnLit}
use Rattle.sat_lits.specs.declared.literal.ClauseId.{ClauseId}
use Rattle.clause_store.specs.Store.{Store}
use Rattle.rebuild_stack.specs.PutIn.{same_lit}
use Rattle.state_laws.specs.Kernel.{Kernel, state_of, TookSame}
use Rattle.sync_laws.specs.Met.{KeepsMet}
use Rattle.one_solver.specs.Basic.{IsBasic}
use Rattle.one_solver.specs.Learned.{NotesLong}
use Rattle.one_solver.specs.declared.units.Short.{Short}
use Rattle.one_solver.specs.declared.units.Short.TheVariants.{Empty, Single, End}
use Rattle.one_solver.specs.Settled.{OnlyPushed}
use Rattle.one_solver.specs.Units.{is_empty, is_unit, IsFixed}

-- the clause of one literal is still held, or the literal is fixed, or a hard clause has no literal
abbrev pub IsHeldOrFixed : Kernel → OwnLit → Type 0
IsHeldOrFixed k l = (list_any (is_unit (same_lit l)) (state_of k).hard ≡ true) ⊎ (IsFixed k l ⊎ (list_any is_empty (state_of k).hard ≡ true))

-- so stands each clause of one literal that was held at first
pub record IsFixing (first now : Kernel) : Type 0 where
  pub basic : IsBasic now
  pub same : TookSame first now
  pub fewer : count_by (λ b. b) (state_of now).active ≤ count_by (λ b. b) (state_of first).active
  pub pushed : OnlyPushed first now
  pub met : KeepsMet (state_of first) (state_of now)
  pub units : (l : OwnLit) → list_any (is_unit (same_lit l)) (state_of first).hard ≡ true → IsHeldOrFixed now l

-- a walk from one place to a clause of at most one literal, or to the end, noted the ids of the long learned clauses on its way
abbrev pub NotesTo : Store → Option ClauseId → Short → Option (Vec ClauseId) → Option (Vec ClauseId) → Type 0
NotesTo store start Empty old new = Unit {0}
NotesTo store start (Single id l) old new = NotesLong store start old → NotesLong store (Some id) new
NotesTo store start End old new = NotesLong store start old → NotesLong store None new
