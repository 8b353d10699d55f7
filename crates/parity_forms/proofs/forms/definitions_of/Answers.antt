use Rattle.parity_forms.proofs.PieceWalks.{definitions_more}
use Rattle.parity_forms.proofs.forms.definitions_of.Goals as goal

pub each-preserved : goal.each-preserved
each-preserved c =
    definitions_more c.args.pieces.now c.each.at c.get.result.now c.each.definitions.items c.add_definition.new.to.items c.get.ensures (c.in_ok-add_definition.ensures {u = tt}) c.each.invariant
