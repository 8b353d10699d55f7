use Rattle.std.proofs.Common.{◌≡◌, ◌<◌, ◌≤◌, ℕ, false, slice_index_or}
use Rattle.state_laws.specs.Kernel.{state_of}
use Rattle.var_elim.specs.Eliminating.{Eliminates, can_go, is_left}
use Rattle.var_elim.proofs.eliminate.eliminate_some.Given as goal

abbrev pub invariant-each : goal.invariant-each
invariant-each l =
    record {
      done : Eliminates l.count (is_left l.initial.state.maps l.frozen l.kept_by) (state_of l.initial.state) (state_of l.state);
      same : l.count ≡ 0 → l.state ≡ l.initial.state;
      none : l.count ≡ 0 → (v : ℕ) → v < l.var → slice_index_or l.left.items v false ≡ false → can_go (state_of l.initial.state) v ≡ false;
      few : l.count ≤ l.var;
    }
