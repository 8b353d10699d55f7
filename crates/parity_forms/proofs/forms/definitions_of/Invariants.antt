use Rattle.std.proofs.Common.{◌≡◌, take}
use Rattle.parity_forms.specs.Parities.{definitions_of}
use Rattle.parity_forms.proofs.forms.definitions_of.Given as goal

abbrev pub invariant-each : goal.invariant-each
invariant-each l = l.definitions.items ≡ definitions_of (take l.at l.pieces)
