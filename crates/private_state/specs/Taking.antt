-- Which items a state can take, and what taking one does.
use Rattle.std.specs.Prelude.{◌≡◌}
use Rattle.var_maps.specs.Maps.{Maps}
use Rattle.state_laws.specs.State.{State}
use Rattle.state_laws.specs.Conditions.{Takable}
use Rattle.state_laws.specs.Moves.{taken}
use Rattle.sat_lits.specs.declared.formula.Item.{Item}
use Rattle.sat_lits.specs.declared.formula.Item.TheVariants.{Clause, Parity}
use Rattle.parity_forms.specs.Parities.{ParityTakable, parity_taken}

-- the item's variables are there, and none of them comes to an eliminated one
abbrev pub IsTakable : State → Item → Type 0
IsTakable s (Clause c) = Takable s c
IsTakable s (Parity vars rhs) = ParityTakable s vars rhs

-- an item is taken
abbrev pub item_taken : Item → State → State
item_taken (Clause c) s = taken c s
item_taken (Parity vars rhs) s = parity_taken vars rhs s

-- a clause leaves the numbers of variables as they are, and a parity those of the outer ones
abbrev pub MapsAfter : Item → Maps → Maps → Type 0
MapsAfter (Clause c) m n = n ≡ m
MapsAfter (Parity vars rhs) m n = n.outers ≡ m.outers
