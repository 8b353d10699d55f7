use Rattle.std.proofs.Common.{◌≡◌, ◌+◌, ◌≤◌, ◌++◌, Some, map, length, vec_len, vec_capacity}
use Rattle.parity_forms.specs.InMaps.{HasPrivates}
use Rattle.parity_forms.proofs.made.add_vars.Given as goal

abbrev pub invariant-each : goal.invariant-each
invariant-each l =
    record {
      maps : HasPrivates (length l.yielded) l.initial.maps l.maps;
      definitions : l.definitions.items ≡ l.initial.definitions.items ++ map Some l.yielded;
      count : length l.maps.inners ≡ length l.initial.maps.inners + length l.yielded;
      room : l.initial.maps.spare ≤ l.maps.spare + length l.yielded;
      capacity : (vec_len l.definitions ≡ vec_len l.initial.definitions + length l.yielded) × (vec_capacity l.initial.definitions ≤ vec_capacity l.definitions);
    }
