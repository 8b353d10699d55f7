-- What outer literals come to along the stack of a state.
use Rattle.std.specs.Prelude.{Bool, false, not, List, [], ◌∷◌, map, flat_map}
use Rattle.sat_lits.specs.declared.literal.Lit.{Lit}
use Rattle.sat_lits.specs.declared.literal.Own.{Own}
use Rattle.sat_lits.specs.declared.formula.Item.{Item}
use Rattle.sat_lits.specs.declared.formula.Item.TheVariants.{Clause, Parity}
use Rattle.rebuild_stack.specs.Roots.{root, is_lost}
use Rattle.rebuild_stack.specs.declared.entry.Root.{Root}
use Rattle.rebuild_stack.specs.declared.entry.Root.TheVariants.{Known, Last, Lost}
use Rattle.state_laws.specs.State.{to_own}
use Rattle.state_laws.specs.Kernel.{Kernel}

-- what an outer literal comes to
abbrev pub root_in : Kernel → Lit → Root
root_in k l = root k.stack (to_own k.definitions l)

-- whether it comes to no eliminated variable
abbrev pub is_free : Kernel → Lit → Bool
is_free k l = not (is_lost (root_in k l))

-- the eliminated variable to which a literal came, if there is one
abbrev pub lost_var : Root → List Own
lost_var (Known x) = []
lost_var (Last l) = []
lost_var (Lost v) = v ∷ []

-- the variable that is left of it, if one is
abbrev pub last_var : Root → List Own
last_var (Known x) = []
last_var (Last l) = l.var ∷ []
last_var (Lost v) = []

-- the eliminated variables to which literals come
abbrev pub lost_vars : Kernel → List Lit → List Own
lost_vars k lits = flat_map (λ l. lost_var (root_in k l)) lits

-- the variables that are left of literals
abbrev pub last_vars : Kernel → List Lit → List Own
last_vars k lits = flat_map (λ l. last_var (root_in k l)) lits

-- the literals of an item, and of a parity its variables as such
abbrev pub lits_of : Item → List Lit
lits_of (Clause c) = c
lits_of (Parity vars rhs) = map (λ v. record { var = v; negative = false }) vars

-- those of all items
abbrev pub all_lits : List Item → List Lit
all_lits items = flat_map lits_of items
