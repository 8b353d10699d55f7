use Rattle.std.proofs.Common.{◌≡◌, ◌∷◌, [], false, true, map, take}
use Rattle.removed_vars.specs.Fresh.{in_clauses, hard_in}
use Rattle.parity_forms.specs.Parities.{in_lit_of}
use Rattle.parity_forms.specs.InMaps.{in_negated, stored_lit, next_number}
use Rattle.parity_forms.proofs.defined.and_clauses.Given as goal

abbrev pub invariant-each : goal.invariant-each
invariant-each l =
    let stored = map (stored_lit l.maps) l.lits in
    in_clauses l.clauses.items ≡ map hard_in ((in_lit_of (next_number l.maps) false ∷ map in_negated stored) ∷ map (λ k. in_lit_of (next_number l.maps) true ∷ k ∷ []) (take l.lit-index stored))
