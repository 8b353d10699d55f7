use Rattle.std.proofs.Common.{◌≡◌, ℕ, true, not, get_or, take, sym, ap, subst, ◌∙◌, add-one}
use Rattle.std.proofs.Math.Seq.{take-suc}
use Rattle.std.specs.Option.{is_some}
use Rattle.sat_lits.specs.ListLaws.{all_push}
use Rattle.sat_lits.specs.declared.literal.InLit.{InLit}
use Rattle.var_maps.specs.Maps.{Maps, owner_at}
use Rattle.search.specs.Assumed.{positive}
use Rattle.search.specs.InUse.{in_use, is_among, lits_among}
use Rattle.search.proofs.Using.{owned_among}
use Rattle.search.proofs.tests.are_active.Goals as goal

pub loop-lit-preserved : goal.loop-lit-preserved
loop-lit-preserved c =
    ap (λ (n : ℕ). lits_among (in_use c.args.state.now.maps) (take n c.args.lits.now)) (add-one c.loop-lit.lit-index)
    ∙ (ap (lits_among (in_use c.args.state.now.maps)) (take-suc c.args.lits.now c.loop-lit.lit-index (positive 0) c.loop-lit-test.true)
    ∙ all_push (λ (l : InLit). is_among (in_use c.args.state.now.maps) l.var.0) (take c.loop-lit.lit-index c.args.lits.now) (get_or c.args.lits.now c.loop-lit.lit-index (positive 0)) c.loop-lit.invariant
    (owned_among c.args.state.now.maps.owners (get_or c.args.lits.now c.loop-lit.lit-index (positive 0)).var.0
    (subst (λ (m : Maps). is_some (owner_at m (get_or c.args.lits.now c.loop-lit.lit-index (positive 0)).var.0) ≡ true) c.maps.ensures.value (ap is_some (sym c.at_inner.ensures.value) ∙ (c.is_none.ensures ∙ ap not c.if-is_none.false)))))
