-- What each move does to a state.
use Rattle.std.specs.Prelude.{ℕ, suc, true, false, not, List, [], ◌∷◌, ◌++◌, None, filter, drop, remove, replicate, slice_set, option_to_list}
use Rattle.std.specs.declared.option.Option.{Option}
use Rattle.sat_lits.specs.declared.literal.Lit.{Lit}
use Rattle.sat_lits.specs.declared.literal.Own.{Own}
use Rattle.sat_lits.specs.declared.literal.OwnLit.{OwnLit}
use Rattle.sat_lits.specs.declared.formula.Item.{Item}
use Rattle.sat_lits.specs.declared.formula.Item.TheVariants.{Clause}
use Rattle.sat_lits.specs.declared.shared.Shared.{Shared}
use Rattle.rebuild_stack.specs.Entries.{named}
use Rattle.rebuild_stack.specs.Roots.{root}
use Rattle.rebuild_stack.specs.PutIn.{put_in, put_in_all}
use Rattle.rebuild_stack.specs.declared.entry.Entry.{Entry}
use Rattle.rebuild_stack.specs.declared.entry.Entry.TheVariants.{Gone}
use Rattle.state_laws.specs.declared.definition.Definition.{Definition}
use Rattle.state_laws.specs.State.{State, to_own}
use Rattle.state_laws.specs.Resolution.{mentions, resolvents}

-- clauses into which an entry is put: those that do not hold its variable stay, in order, and what the others become stands behind them
abbrev pub put_through : Entry → List (List OwnLit) → List (List OwnLit)
put_through e cs = filter (λ c. not (mentions (named e) c)) cs ++ put_in_all (root (e ∷ [])) (filter (mentions (named e)) cs)

-- an entry that fixes or replaces its variable is pushed and put into all clauses; what it makes of them is not marked
abbrev pub put_into : Entry → State → State
put_into e s =
    record s {
      hard = put_through e s.hard;
      learned = put_through e s.learned;
      stack = s.stack ++ e ∷ [];
      active = slice_set s.active (named e) false;
      marked_learned = filter (λ c. not (mentions (named e) c)) s.marked_learned;
    }

-- a variable is taken out: its hard clauses go into an entry and leave their resolvents, its learned ones are dropped
abbrev pub eliminated : Own → State → State
eliminated v s =
    record s {
      hard = filter (λ c. not (mentions v.0 c)) s.hard ++ resolvents v.0 (filter (mentions v.0) s.hard);
      learned = filter (λ c. not (mentions v.0 c)) s.learned;
      stack = s.stack ++ Gone v (filter (mentions v.0) s.hard) ∷ [];
      active = slice_set s.active v.0 false;
      marked_learned = filter (λ c. not (mentions v.0 c)) s.marked_learned;
    }

-- the entry at a place, a `Gone` of the variable with these clauses, is taken out, and the clauses are hard again with the newer entries put in
abbrev pub restored : ℕ → Own → List (List OwnLit) → State → State
restored at v cs s =
    record s {
      hard = s.hard ++ put_in_all (root (drop (suc at) s.stack)) cs;
      stack = remove s.stack at;
      active = slice_set s.active v.0 true;
      marked_stack = remove s.marked_stack at;
    }

-- what an outer clause is in own literals with the stack put in: nothing where it is satisfied or a tautology
abbrev pub own_form : State → List Lit → Option (List OwnLit)
own_form s c = put_in (λ l. root s.stack (to_own s.definitions l)) c

-- an outer clause is held
abbrev pub holding : List Lit → State → State
holding c s = record s { hard = s.hard ++ option_to_list (own_form s c) }

-- an outer clause is taken as an item
abbrev pub taken : List Lit → State → State
taken c s = record (holding c s) { items = s.items ++ Clause c ∷ [] }

-- a shared entry is taken
abbrev pub imported : Shared → State → State
imported e s = record (holding e.clause s) { entries = s.entries ++ e ∷ [] }

-- an item is taken with the clauses that stand for it
abbrev pub taking : Item → List (List OwnLit) → State → State
taking item cs s = record s { items = s.items ++ item ∷ []; hard = s.hard ++ cs }

-- an own variable is made, outer or with a definition, and these clauses on it are held
abbrev pub extended : Option Definition → List (List OwnLit) → State → State
extended d cs s = record s { definitions = s.definitions ++ d ∷ []; hard = s.hard ++ cs; active = s.active ++ true ∷ [] }

-- this many outer variables are made
abbrev pub grown : ℕ → State → State
grown more s = record s { definitions = s.definitions ++ replicate more None; active = s.active ++ replicate more true }

-- a clause is learned
abbrev pub learning : List OwnLit → State → State
learning c s = record s { learned = s.learned ++ c ∷ [] }

-- the hard clauses are these
abbrev pub with_hard : List (List OwnLit) → State → State
with_hard cs s = record s { hard = cs }

-- the learned clauses are these, and these of them are marked
abbrev pub with_learned : List (List OwnLit) → List (List OwnLit) → State → State
with_learned cs marked s = record s { learned = cs; marked_learned = marked }

-- the state is found to have no model
abbrev pub refuted : State → State
refuted s = record s { okay = false }
