-- When a state is in step or settled with a log of shared clauses, and what a turn does.
use Rattle.std.specs.Prelude.{◌≡◌, ℕ, ◌<◌, ◌≤◌, ◌==◌, Bool, true, false, ◌||◌, List, [], ◌∷◌, ◌++◌, Some, All, Any, AllPairs, map, length, slice_get}
use Rattle.std.specs.List.{list_any}
use Rattle.sat_lits.specs.Meaning.{Problem, Follows}
use Rattle.sat_lits.specs.Logs.{IsShareable, with_clauses}
use Rattle.sat_lits.specs.declared.literal.Lit.{Lit}
use Rattle.sat_lits.specs.declared.literal.OwnLit.{OwnLit}
use Rattle.sat_lits.specs.declared.shared.Shared.{Shared}
use Rattle.rebuild_stack.specs.declared.entry.Entry.TheVariants.{Fix}
use Rattle.share_store.specs.Log.{HasClause, LacksClause, entry_of}
use Rattle.state_laws.specs.State.{State}
use Rattle.state_laws.specs.Away.{is_away}
use Rattle.state_laws.specs.Moves.{own_form}
use Rattle.sync_laws.specs.Met.{is_covered, IsMet}
pub use Rattle.sync_laws.specs.Told.{IsOuter, in_order}

-- an entry stands in a log
abbrev pub StandsIn : List Shared → Shared → Type 0
StandsIn log e = Any (λ x. x ≡ e) log

-- whether a place waits
abbrev pub waits : List ℕ → ℕ → Bool
waits waiting place = list_any (λ p. p == place) waiting

-- each entry that the state took stands in the log, and each entry before the cursor that does not wait is met, unless the state is not okay
pub record IsInStep (s : State) (cursor : ℕ) (waiting : List ℕ) (log : List Shared) : Type 0 where
  pub took : All (StandsIn log) s.entries
  pub within : cursor ≤ length log
  pub below : All (λ p. p < cursor) waiting
  pub met : s.okay ≡ true → (place : ℕ) (e : Shared) → place < cursor → slice_get log place ≡ Some e → waits waiting place ≡ false → IsMet s e.clause

-- whether an outer clause names a variable that is eliminated or replaced by an eliminated one, or is, with fixed and replaced literals put in, satisfied or a tautology, or has all literals of a hard or learned clause
abbrev pub is_heard : State → List Lit → Bool
is_heard s c = list_any (is_away s) c || is_covered (s.hard ++ s.learned) (own_form s c)

-- where the state is okay, it heard of each entry, and the log has each fixed literal of an outer variable, and each learned clause of two literals of outer variables
pub record IsSettled (s : State) (log : List Shared) : Type 0 where
  pub heard : s.okay ≡ true → All (λ e. is_heard s e.clause ≡ true) log
  pub fixed : s.okay ≡ true → (at : ℕ) (l : Lit) (own : OwnLit) → slice_get s.stack at ≡ Some (Fix own) → IsOuter s l own → HasClause log (l ∷ [])
  pub binaries : s.okay ≡ true → (at : ℕ) (k l : Lit) (first second : OwnLit) → slice_get s.learned at ≡ Some (first ∷ second ∷ []) → IsOuter s k first → IsOuter s l second → HasClause log (in_order k l)

-- a solver took entries of the log, and then gave clauses that follow from the items with all that it took; no clause stands twice
pub record IsTurn (f : Problem) (solver : ℕ) (had log have now : List Shared) : Type 0 where
  pub taken : List Shared
  pub given : List (List Lit)
  pub took : have ≡ had ++ taken
  pub stand : All (StandsIn log) taken
  pub gave : now ≡ log ++ map (entry_of solver (length log)) given
  pub shareable : All (IsShareable f.vars) given
  pub fresh : All (LacksClause log) given
  pub once : AllPairs (λ c d. c ≡ d → ⊥) given
  pub follow : All (Follows (with_clauses f have)) given
