-- Which literals of the caller come to a variable that was eliminated.
use Rattle.std.specs.Prelude.{Bool}
use Rattle.sat_lits.specs.declared.literal.Lit.{Lit}
use Rattle.rebuild_stack.specs.Roots.{root, is_lost}
use Rattle.state_laws.specs.State.{State, to_own}

-- whether the variable of an outer literal is eliminated, or replaced by an eliminated one
abbrev pub is_away : State → Lit → Bool
is_away s l = is_lost (root s.stack (to_own s.definitions l))
