use Rattle.std.proofs.Common.{◌≡◌, map, take}
use Rattle.removed_vars.specs.Fresh.{in_clauses, hard_in}
use Rattle.parity_forms.specs.InMaps.{all_stored_forms}
use Rattle.parity_forms.proofs.forms.piece_clauses.Given as goal

abbrev pub invariant-each : goal.invariant-each
invariant-each l = in_clauses l.clauses.items ≡ map hard_in (all_stored_forms l.maps (take l.at l.pieces))
