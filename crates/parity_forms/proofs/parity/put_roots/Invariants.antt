use Rattle.std.proofs.Common.{◌≡◌, map, take, filter_map}
use Rattle.parity_forms.specs.Parities.{left_number, left_rhs}
use Rattle.parity_forms.specs.InMaps.{outer_root}
use Rattle.parity_forms.proofs.parity.put_roots.Given as goal

abbrev pub invariant-each : goal.invariant-each
invariant-each l =
    record {
      numbers : l.left.numbers ≡ filter_map left_number (map (outer_root l.maps l.removed.entries) (take l.number-index l.numbers));
      rhs : l.left.rhs ≡ left_rhs (map (outer_root l.maps l.removed.entries) (take l.number-index l.numbers)) l.rhs;
    }
