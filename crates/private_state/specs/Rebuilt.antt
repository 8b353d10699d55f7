-- The outer values that inner values give.
use Rattle.std.specs.Prelude.{Bool, List, map}
use Rattle.rebuild_stack.specs.Values.{values_of}
use Rattle.rebuild_stack.specs.Entries.{rebuild}
use Rattle.state_laws.specs.State.{outer_part}
use Rattle.state_laws.specs.Held.{inner_value}
use Rattle.state_laws.specs.Kernel.{Kernel}

-- each own variable has the value of its inner number, or false; the entries are undone, and the outer variables are read
abbrev pub rebuilt_values : Kernel → List Bool → List Bool
rebuilt_values k inner = outer_part k.definitions (rebuild k.stack (values_of (map (inner_value inner) k.maps.inners)))
