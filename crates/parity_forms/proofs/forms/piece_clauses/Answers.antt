use Rattle.std.specs.List.{list_all}
use Rattle.sat_lits.specs.ListLaws.{all_get}
use Rattle.xor_cut.specs.declared.piece.Piece.{Piece}
use Rattle.removed_vars.specs.Fresh.{in_clauses}
use Rattle.parity_forms.specs.InMaps.{may_be_named}
use Rattle.parity_forms.proofs.PieceWalks.{forms_more}
use Rattle.parity_forms.proofs.forms.piece_clauses.Goals as goal

pub add_piece-requires : goal.add_piece-requires
add_piece-requires c = all_get (λ (p : Piece). list_all (may_be_named c.args.maps.now) p.vars) c.args.pieces.now c.each.at c.get.result.now c.get.ensures c.requires

pub each-preserved : goal.each-preserved
each-preserved c =
    forms_more c.args.maps.now c.args.pieces.now c.each.at c.get.result.now (in_clauses c.each.clauses.items) (in_clauses c.add_piece.new.to.items) c.get.ensures (c.in_ok-add_piece.ensures {u = tt}) c.each.invariant
