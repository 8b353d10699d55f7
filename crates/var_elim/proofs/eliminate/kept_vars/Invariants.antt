use Rattle.std.proofs.Common.{◌≡◌, ◌<◌, ℕ, false, length, slice_index_or}
use Rattle.var_maps.specs.Maps.{outer_at}
use Rattle.var_elim.specs.Eliminating.{keeps}
use Rattle.var_elim.proofs.eliminate.kept_vars.Given as goal

abbrev pub invariant-each : goal.invariant-each
invariant-each l =
    record {
      long : length l.table.items ≡ l.len;
      told : (v : ℕ) → v < l.var → slice_index_or l.table.items v false ≡ keeps l.solver (outer_at l.maps v);
    }
