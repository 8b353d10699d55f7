use Rattle.std.proofs.Common.{◌≡◌, length}
use Rattle.state_laws.specs.Kernel.{state_of, Standing}
use Rattle.assume_map.specs.Roots.{roots}
use Rattle.assume_map.specs.Walking.{Walked}
use Rattle.assume_map.proofs.mapped.map_assumptions.Given as goal

abbrev pub invariant-loop-position : goal.invariant-loop-position
invariant-loop-position l =
    record {
      walked : Walked l.state.maps (roots (state_of l.state) l.assumptions) l.position l.walk;
      vars : length l.walk.marks.items ≡ length l.state.maps.inners;
      standing : Standing l.state;
    }
