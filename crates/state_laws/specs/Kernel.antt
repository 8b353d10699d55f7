-- What all parts of a private state tell, and what they must keep.
use Rattle.std.specs.Prelude.{◌≡◌, ◌≤◌, ℕ, Bool, true, false, not, List, [], ◌∷◌, ◌++◌, map, filter, option_map, Some, is_some, nat_le, length, take}
use Rattle.std.specs.declared.option.Option.{Option}
use Rattle.std.specs.List.{list_all}
use Rattle.sat_lits.specs.Truth.{clauses_value}
use Rattle.sat_lits.specs.declared.literal.InLit.{InLit}
use Rattle.sat_lits.specs.declared.literal.OwnLit.{OwnLit}
use Rattle.sat_lits.specs.declared.formula.Item.{Item}
use Rattle.sat_lits.specs.declared.shared.Shared.{Shared}
use Rattle.rebuild_stack.specs.Values.{own_value}
use Rattle.rebuild_stack.specs.declared.entry.Entry.{Entry}
use Rattle.clause_store.specs.Store.{Store, Held, held_as, hard_of, learned_of, clause_at, without, marked}
use Rattle.var_maps.specs.Maps.{Maps, no_maps, plain}
use Rattle.state_laws.specs.declared.definition.Definition.{Definition}
use Rattle.state_laws.specs.State.{State, outers_from}
use Rattle.state_laws.specs.Stands.{Stands}
use Rattle.state_laws.specs.Held.{own_clause, own_clauses, touches}

-- the items and the shared entries taken, the definition of each own variable, the maps of its variables' numbers, the stored clauses, the stack of variables that left them, whether the state is okay, and how many entries of the stack stood there at the last mark and still do
pub record Kernel : Type 0 where
  pub items : List Item
  pub entries : List Shared
  pub definitions : List (Option Definition)
  pub maps : Maps
  pub store : Store
  pub stack : List Entry
  pub okay : Bool
  pub stack_mark : ℕ

-- the kernel of a state that took nothing
abbrev pub no_kernel : Kernel
no_kernel = record { items = []; entries = []; definitions = []; maps = no_maps; store = record { held = []; given = 0; mark = 0 }; stack = []; okay = true; stack_mark = 0 }

-- what a kernel is seen as in own literals
abbrev pub state_of : Kernel → State
state_of k =
    record {
      items = k.items;
      entries = k.entries;
      definitions = k.definitions;
      hard = own_clauses k.maps (hard_of k.store.held);
      learned = own_clauses k.maps (learned_of k.store.held);
      stack = k.stack;
      active = map is_some k.maps.inners;
      okay = k.okay;
      marked_learned = own_clauses k.maps (learned_of (marked k.store));
      marked_stack = take k.stack_mark k.stack;
    }

-- the state stands, the maps know the outer variables, and no more entries are marked than there are
pub record Standing (k : Kernel) : Type 0 where
  pub stands : Stands (state_of k)
  pub outers : map (λ v. v.0) k.maps.outers ≡ outers_from 0 k.definitions
  pub private : map is_some k.definitions ≡ map (λ o. not (is_some o)) k.maps.outer_numbers
  pub within : k.stack_mark ≤ length k.stack

-- the kernel without the number above all ids given, and without what contracts see of room
abbrev pub plain_kernel : Kernel → Kernel
plain_kernel k = record k { maps = plain k.maps; store = record k.store { given = 0 } }

-- a clause was learned: it is the last one, under a new id, and its literals are these in own numbers
pub record Learns (k n : Kernel) (c : List OwnLit) (id : ℕ) : Type 0 where
  pub lits : List InLit
  pub held : n.store.held ≡ k.store.held ++ held_as id true lits ∷ []
  pub fresh : k.store.given ≤ id
  pub own : own_clause k.maps lits ≡ c

-- clauses that do not hold the variable keep their ids and their order, and new ones stand behind them under new ids
pub record Keeps (k n : Kernel) (v : ℕ) : Type 0 where
  pub news : List Held
  pub held : n.store.held ≡ filter (λ h. not (touches k.maps v h)) k.store.held ++ news
  pub fresh : list_all (λ h. nat_le k.store.given h.id) news ≡ true

-- all clauses keep their ids and their order, and new ones stand behind them under new ids
pub record Longer (k n : Kernel) : Type 0 where
  pub news : List Held
  pub held : n.store.held ≡ k.store.held ++ news
  pub fresh : list_all (λ h. nat_le k.store.given h.id) news ≡ true

-- the id is that of a learned clause that is held
abbrev pub IsLearnedId : Kernel → ℕ → Type 0
IsLearnedId k id = option_map (λ h. h.learned) (clause_at k.store.held id) ≡ Some true

-- the id is that of a hard clause that is held, which follows from the other hard clauses
pub record IsImplied (k : Kernel) (id : ℕ) : Type 0 where
  pub hard : option_map (λ h. h.learned) (clause_at k.store.held id) ≡ Some false
  pub follows : (w : ℕ → Bool) → clauses_value (own_value w) (own_clauses k.maps (hard_of (without id k.store.held))) ≡ true
      → clauses_value (own_value w) (own_clauses k.maps (hard_of k.store.held)) ≡ true

-- what was taken is the same, and a refuted state stays so
pub record TookSame (old new : Kernel) : Type 0 where
  pub items : new.items ≡ old.items
  pub entries : new.entries ≡ old.entries
  pub definitions : new.definitions ≡ old.definitions
  pub okay : new.okay ≡ true → old.okay ≡ true
