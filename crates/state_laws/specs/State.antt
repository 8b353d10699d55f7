-- What the private state of one solver is seen as, in own literals.
use Rattle.std.specs.Prelude.{ℕ, suc, Bool, true, false, ◌&&◌, List, [], ◌∷◌, ◌++◌, Some, None, map, drop, length, nat_lt, slice_index_or}
use Rattle.std.specs.declared.option.Option.{Option}
use Rattle.std.specs.Bool.{beq}
use Rattle.std.specs.List.{list_all}
use Rattle.sat_lits.specs.Truth.{signed}
use Rattle.sat_lits.specs.Meaning.{Problem, satisfies_clause}
use Rattle.sat_lits.specs.declared.literal.Lit.{Lit}
use Rattle.sat_lits.specs.declared.literal.Own.{Own}
use Rattle.sat_lits.specs.declared.literal.OwnLit.{OwnLit}
use Rattle.sat_lits.specs.declared.formula.Item.{Item}
use Rattle.sat_lits.specs.declared.shared.Shared.{Shared}
use Rattle.rebuild_stack.specs.Values.{values_of, own_value}
use Rattle.rebuild_stack.specs.declared.entry.Entry.{Entry}
use Rattle.state_laws.specs.declared.definition.Definition.{Definition}
use Rattle.state_laws.specs.declared.definition.Definition.TheVariants.{Xor, And}

-- the items and the shared entries that the state took, the definition of each own variable (none of an outer one), the clauses that it holds, the stack of variables that left them, which own variables are active, whether the state is okay, and what was there at the last mark and still is: learned clauses, and entries of the stack
pub record State : Type 0 where
  pub items : List Item
  pub entries : List Shared
  pub definitions : List (Option Definition)
  pub hard : List (List OwnLit)
  pub learned : List (List OwnLit)
  pub stack : List Entry
  pub active : List Bool
  pub okay : Bool
  pub marked_learned : List (List OwnLit)
  pub marked_stack : List Entry

-- a state that took nothing
abbrev pub no_state : State
no_state = record { items = []; entries = []; definitions = []; hard = []; learned = []; stack = []; active = []; okay = true; marked_learned = []; marked_stack = [] }

-- whether an own variable is active
abbrev pub is_active : State → ℕ → Bool
is_active s k = slice_index_or s.active k false

-- the exclusive or of own variables
abbrev pub exclusive_or : (ℕ → Bool) → List Own → Bool
exclusive_or w [] = false
exclusive_or w (v ∷ vars) = signed (w v.0) (exclusive_or w vars)

-- the value that a definition gives its variable
abbrev pub defined_value : (ℕ → Bool) → Definition → Bool
defined_value w (Xor vars) = exclusive_or w vars
defined_value w (And lits) = list_all (own_value w) lits

-- whether the own variable n, if it is private, has the value of its definition
abbrev pub is_as_defined : (ℕ → Bool) → ℕ → Option Definition → Bool
is_as_defined w n None = true
is_as_defined w n (Some d) = beq (w n) (defined_value w d)

-- whether each private variable has the value of its definition, where the first definition is that of the own variable n
abbrev pub are_as_defined : (ℕ → Bool) → ℕ → List (Option Definition) → Bool
are_as_defined w n [] = true
are_as_defined w n (d ∷ ds) = is_as_defined w n d && are_as_defined w (suc n) ds

-- the own numbers of the outer variables, in order, where the first definition is that of the own variable n
abbrev pub outers_from : ℕ → List (Option Definition) → List ℕ
outers_from n [] = []
outers_from n (None ∷ ds) = n ∷ outers_from (suc n) ds
outers_from n (Some d ∷ ds) = outers_from (suc n) ds

-- the number of outer variables
abbrev pub outer_count : List (Option Definition) → ℕ
outer_count ds = length (outers_from 0 ds)

-- the outer part of own values: the values of the outer variables, in order
abbrev pub outer_part : List (Option Definition) → (ℕ → Bool) → List Bool
outer_part ds w = map w (outers_from 0 ds)

-- an outer literal in own numbers
abbrev pub to_own : List (Option Definition) → Lit → OwnLit
to_own ds l = record { var = record { 0 = slice_index_or (outers_from 0 ds) l.var.0 0 }; negative = l.negative }

-- whether the clauses of shared entries are satisfied
abbrev pub satisfies_entries : List Bool → List Shared → Bool
satisfies_entries values entries = list_all (λ e. satisfies_clause values e.clause) entries

-- the outer variables and the items taken, as a formula
abbrev pub problem_of : State → Problem
problem_of s = record { vars = outer_count s.definitions; items = s.items }

-- whether a definition, if there is one, is over own variables below n
abbrev pub is_over_earlier : ℕ → Option Definition → Bool
is_over_earlier n None = true
is_over_earlier n (Some (Xor vars)) = list_all (λ v. nat_lt v.0 n) vars
is_over_earlier n (Some (And lits)) = list_all (λ l. nat_lt l.var.0 n) lits

-- whether each definition is over own variables made before its own, where the first is that of the own variable n
abbrev pub are_over_earlier : ℕ → List (Option Definition) → Bool
are_over_earlier n [] = true
are_over_earlier n (d ∷ ds) = is_over_earlier n d && are_over_earlier (suc n) ds

-- the outer values that are left, widened behind the own values that stand: each next outer variable gets its value, each private one that of its definition
abbrev pub widen_from : List Bool → List Bool → List (Option Definition) → List Bool
widen_from own outer [] = own
widen_from own outer (None ∷ ds) = widen_from (own ++ slice_index_or outer 0 false ∷ []) (drop 1 outer) ds
widen_from own outer (Some d ∷ ds) = widen_from (own ++ defined_value (values_of own) d ∷ []) outer ds

-- an outer assignment widened to all own variables, in order of creation
abbrev pub widen : List Bool → List (Option Definition) → List Bool
widen outer ds = widen_from [] outer ds
