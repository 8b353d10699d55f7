-- What the import of a shared entry is answered by, what it does to a state, and what it leaves of ids and numbers.
use Rattle.std.specs.Prelude.{◌≡◌, ◌<◌, ◌≤◌, ℕ, false, List, [], ◌∷◌, ◌++◌, Some, None, find}
use Rattle.std.specs.declared.option.Option.{Option}
use Rattle.sat_lits.specs.declared.literal.Lit.{Lit}
use Rattle.sat_lits.specs.declared.literal.OwnLit.{OwnLit}
use Rattle.sat_lits.specs.declared.literal.InLit.{InLit}
use Rattle.sat_lits.specs.declared.shared.Shared.{Shared}
use Rattle.rebuild_stack.specs.declared.entry.Entry.TheVariants.{Fix}
use Rattle.clause_store.specs.Store.{held_as}
use Rattle.var_maps.specs.Maps.{plain, retired}
use Rattle.state_laws.specs.State.{State}
use Rattle.state_laws.specs.Away.{is_away}
use Rattle.state_laws.specs.Moves.{own_form, imported, refuted, put_into}
use Rattle.state_laws.specs.Kernel.{Kernel, Longer, Keeps}
use Rattle.private_state.specs.declared.import.Import.{Import}
use Rattle.private_state.specs.declared.import.Import.TheVariants.{Taken, Trivial, Waits}

-- what is answered of a clause with this first literal of an eliminated variable, if there is one, that becomes this in own literals
abbrev pub answer_of : Option Lit → Option (List OwnLit) → Import
answer_of (Some l) form = Waits l.var
answer_of None None = Trivial
answer_of None (Some c) = Taken

-- what is answered where an entry with the clause is imported
abbrev pub import_answer : State → List Lit → Import
import_answer s c = answer_of (find (is_away s) c) (own_form s c)

-- the literal of a clause of one is fixed, and the empty clause refutes
abbrev pub settled : Option (List OwnLit) → State → State
settled None s = s
settled (Some []) s = refuted s
settled (Some (l ∷ [])) s = put_into (Fix l) s
settled (Some (k ∷ l ∷ c)) s = s

-- an entry is taken, unless one of its literals is of an eliminated variable
abbrev pub taken_unless : Option Lit → Shared → State → State
taken_unless None e s = settled (own_form s e.clause) (imported e s)
taken_unless (Some l) e s = s

-- what the import of an entry does to a state: nothing where the entry waits
abbrev pub after_import : Shared → State → State
after_import e s = taken_unless (find (is_away s) e.clause) e s

-- a taken clause that becomes this leaves all clauses their ids and all variables their numbers; but where one literal is left, the clauses that hold its variable change, and its number is free
abbrev pub Leaves : Option (List OwnLit) → Kernel → Kernel → Type 0
Leaves None k n = Longer k n × (n.maps ≡ k.maps)
Leaves (Some []) k n = Longer k n × (n.maps ≡ k.maps)
Leaves (Some (l ∷ [])) k n = Keeps k n l.var.0 × (plain n.maps ≡ plain (retired l.var.0 k.maps))
Leaves (Some (a ∷ b ∷ c)) k n = Longer k n × (n.maps ≡ k.maps)

-- and where the entry waits, nothing changes
abbrev pub ImportLeaves : Option Lit → Option (List OwnLit) → Kernel → Kernel → Type 0
ImportLeaves (Some l) form k n = n ≡ k
ImportLeaves None form k n = Leaves form k n

-- an entry was taken, and this clause is the last one that is held, under a new id
pub record Holds (k n : Kernel) (entry : Shared) (lits : List InLit) (id : ℕ) : Type 0 where
  pub is : n ≡ record k { entries = k.entries ++ entry ∷ []; store = n.store }
  pub held : n.store.held ≡ k.store.held ++ held_as id false lits ∷ []
  pub fresh : k.store.given ≤ id
  pub given : id < n.store.given
  pub mark : n.store.mark ≡ k.store.mark
