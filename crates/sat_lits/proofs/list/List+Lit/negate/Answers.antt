use Rattle.std.proofs.Common.{◌<◌, length, arith}
use Rattle.std.proofs.lemmas.List.{get_or_default}
use Rattle.std.proofs.lemmas.List.Edits.{map_over_more}
use Rattle.sat_lits.specs.Meaning.{negated}
use Rattle.sat_lits.proofs.list.List+Lit.negate.Goals as goal

pub loop-lit-preserved : goal.loop-lit-preserved
loop-lit-preserved c =
    let within : c.loop-lit.lit-index < length c.loop-lit.lit-items = omega arith in
    rw c.negated.ensures
    (map_over_more negated c.deref_mut-lit-items.result.now c.loop-lit.lit-items c.loop-lit.lit-index _ (omega arith) c.loop-lit.invariant (get_or_default _ _ _ _ within))
