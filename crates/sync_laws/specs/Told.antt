-- What of a state was told to a log: its marked fixed literals and learned clauses of two literals.
use Rattle.std.specs.Prelude.{◌≡◌, ◌<◌, true, cond, List, [], ◌∷◌, All, length, nat_lt}
use Rattle.std.specs.List.{list_all}
use Rattle.sat_lits.specs.declared.literal.Lit.{Lit}
use Rattle.sat_lits.specs.declared.literal.OwnLit.{OwnLit}
use Rattle.sat_lits.specs.declared.shared.Shared.{Shared}
use Rattle.rebuild_stack.specs.declared.entry.Entry.{Entry}
use Rattle.rebuild_stack.specs.declared.entry.Entry.TheVariants.{Fix}
use Rattle.share_store.specs.Log.{HasClause}
use Rattle.state_laws.specs.State.{State, to_own, outer_count}

-- two literals in the order of their variables
abbrev pub in_order : Lit → Lit → List Lit
in_order k l = cond (nat_lt k.var.0 l.var.0) (k ∷ l ∷ []) (l ∷ k ∷ [])

-- an outer literal is there, and this is its own one
pub record IsOuter (s : State) (l : Lit) (o : OwnLit) : Type 0 where
  pub there : l.var.0 < outer_count s.definitions
  pub own : to_own s.definitions l ≡ o

-- the variables of a clause are there, and where it is one of two literals of outer variables, the log has that clause
pub record IsToldClause (s : State) (log : List Shared) (c : List OwnLit) : Type 0 where
  pub there : list_all (λ l. nat_lt l.var.0 (length s.definitions)) c ≡ true
  pub pair : (k l : Lit) (first second : OwnLit) → c ≡ first ∷ second ∷ [] → IsOuter s k first → IsOuter s l second → HasClause log (in_order k l)

-- where an entry fixes a literal, its variable is there, and the log has the literal if the variable is an outer one
pub record IsToldEntry (s : State) (log : List Shared) (e : Entry) : Type 0 where
  pub there : (own : OwnLit) → e ≡ Fix own → own.var.0 < length s.definitions
  pub fixed : (l : Lit) (own : OwnLit) → e ≡ Fix own → IsOuter s l own → HasClause log (l ∷ [])

-- each marked learned clause and each marked entry was told
pub record IsTold (s : State) (log : List Shared) : Type 0 where
  pub learned : All (IsToldClause s log) s.marked_learned
  pub stack : All (IsToldEntry s log) s.marked_stack
