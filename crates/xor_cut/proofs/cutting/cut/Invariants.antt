use Rattle.std.proofs.Common.{◌≡◌, ◌+◌, ◌*◌, ◌-◌, ◌++◌, length, drop}
use Rattle.sat_lits.specs.Conflicts.{cuts_of_count}
use Rattle.xor_cut.specs.Pieces.{pieces_by, pieces}
use Rattle.xor_cut.proofs.cutting.cut.Given as goal

abbrev pub invariant-cuts : goal.invariant-cuts
invariant-cuts l =
    let cuts = cuts_of_count (length l.vars) in
    (l.pieces ++ pieces_by (cuts - l.at) (drop (3 * l.at) l.queue) l.rhs (l.next + l.at) ≡ pieces l.vars l.rhs l.next)
    × (length l.queue ≡ length l.vars + l.at)
