use Rattle.std.proofs.Common.{◌≡◌, ◌<◌, ℕ, false, length, slice_index_or, take}
use Rattle.var_elim.specs.Eliminating.{is_left}
use Rattle.var_elim.proofs.eliminate.left_vars.Given as goal

abbrev pub invariant-each : goal.invariant-each
invariant-each l =
    record {
      long : length l.table.items ≡ length l.maps.inners;
      told : (v : ℕ) → v < length l.maps.inners → slice_index_or l.table.items v false ≡ is_left l.maps (take l.var-index l.frozen) l.solver v;
    }
