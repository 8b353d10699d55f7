use Rattle.std.proofs.Common.{map, ap, ◌∙◌}
use Rattle.sat_lits.specs.Conflicts.{odd_vars}
use Rattle.xor_cut.specs.Pieces.{are_different}
use Rattle.parity_forms.specs.InMaps.{outer_root}
use Rattle.parity_forms.specs.PieceLaws.{left_different}
use Rattle.parity_forms.proofs.parity.own_pieces.Goals as goal

pub cut-requires-clause-different : goal.cut-requires-clause-different
cut-requires-clause-different c =
    ap are_different (c.as_slice.ensures ∙ (c.in_ok-parity.ensures {u = tt}).vars) ∙ left_different (map (outer_root c.args.maps.now c.args.removed.now.entries) (odd_vars c.args.vars.now))
