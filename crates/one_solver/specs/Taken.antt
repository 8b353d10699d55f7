-- Items that a state takes.
use Rattle.std.specs.Prelude.{◌≡◌, ◌++◌, List}
use Rattle.sat_lits.specs.Meaning.{Problem}
use Rattle.sat_lits.specs.declared.formula.Item.{Item}
use Rattle.state_laws.specs.State.{outers_from, outer_count}
use Rattle.state_laws.specs.Kernel.{Kernel, state_of}
use Rattle.sync_laws.specs.Met.{KeepsMet}

-- the formula that a state comes to hold when it takes these items
abbrev pub with_items : Kernel → List Item → Problem
with_items k more = record { vars = outer_count k.definitions; items = k.items ++ more }

-- these items were taken, what was met is so still, and nothing else changed of the stack, of the numbers of the outer variables, or of whether the state is okay
pub record HasTaken (old new : Kernel) (more : List Item) : Type 0 where
  pub items : new.items ≡ old.items ++ more
  pub outers : outers_from 0 new.definitions ≡ outers_from 0 old.definitions
  pub stack : new.stack ≡ old.stack
  pub okay : new.okay ≡ old.okay
  pub met : KeepsMet (state_of old) (state_of new)
