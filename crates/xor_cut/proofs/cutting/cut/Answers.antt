use Rattle.std.proofs.Common.{◌≡◌, ◌+◌, ◌*◌, ◌<◌, ◌≤◌, List, length, refl, sym, subst, ap, ◌∙◌, arith, filter_map}
use Rattle.std.specs.List.{list_all}
use Rattle.std.specs.Prelude.{nat_le}
use Rattle.sat_lits.specs.Conflicts.{cuts_of_count}
use Rattle.sat_lits.specs.declared.literal.Own.{Own}
use Rattle.xor_cut.specs.declared.piece.Piece.{Piece}
use Rattle.xor_cut.specs.Pieces.{are_satisfied, are_different, first_piece, pieces, ExtendsOnce}
use Rattle.xor_cut.specs.CutLaws.{pieces_enough, pieces_once, length-pieces_by, fresh-pieces_by, short-pieces_by, different-pieces_by, cuts_reach}
use Rattle.xor_cut.proofs.Queueing.{cut_step, cut_done, read_from}
use Rattle.xor_cut.proofs.cutting.cut.Goals as goal

pub cuts-preserved : goal.cuts-preserved
cuts-preserved c =
    let within : c.cuts.at < cuts_of_count (length c.args.vars.now) = omega arith in
    let room : 3 * c.cuts.at + 3 ≤ length c.cuts.queue = omega (arith, c.cuts.invariant.1) in
    cut_step c.cuts.pieces c.push.new.self c.in_ok-first_piece.field-0 (cuts_of_count (length c.args.vars.now)) c.cuts.at (length c.args.vars.now) c.cuts.queue c.push-in-cuts.new.self c.args.rhs c.args.next (pieces c.args.vars.now c.args.rhs c.args.next)
    within room (c.in_ok-first_piece.ensures {u = tt} ∙ ap (λ (z : List Own). first_piece z (c.args.next + c.cuts.at)) (read_from c.cuts.queue c.as_slice.result.now (3 * c.cuts.at) (3 * c.cuts.at) c.as_slice.ensures refl)) (c.in_ok-push.ensures {u = tt}).ok (c.in_ok-push-2.ensures {u = tt}).ok c.cuts.invariant

value : (c : goal.After-drop-queue-inside-2) → c.push-2.new.self ≡ pieces c.args.vars.now c.args.rhs c.args.next
value c =
    cut_done c.cuts.pieces c.push-2.new.self (cuts_of_count (length c.args.vars.now)) c.cuts.at c.cuts.queue c.in_ok-vars.vars c.args.rhs c.args.next (pieces c.args.vars.now c.args.rhs c.args.next)
    (omega arith)
    (c.in_ok-vars.ensures {u = tt} ∙ read_from c.cuts.queue c.as_slice-2.result.now (3 * c.cuts-2.result) (3 * cuts_of_count (length c.args.vars.now)) c.as_slice-2.ensures (ap (λ n. 3 * n) c.cuts-2.ensures)) (c.in_ok-push-3.ensures {u = tt}).ok c.cuts.invariant.0

pub returns-clause-count : goal.returns-clause-count
returns-clause-count c = ap (λ (z : List Piece). length z) (value c) ∙ length-pieces_by (cuts_of_count (length c.args.vars.now)) c.args.vars.now c.args.rhs c.args.next

pub returns-clause-fresh : goal.returns-clause-fresh
returns-clause-fresh c = ap (λ (z : List Piece). filter_map (λ p. p.fresh) z) (value c) ∙ fresh-pieces_by (cuts_of_count (length c.args.vars.now)) c.args.vars.now c.args.rhs c.args.next

pub returns-clause-short : goal.returns-clause-short
returns-clause-short c = ap (λ (z : List Piece). list_all (λ p. nat_le (length p.vars) 4) z) (value c) ∙ short-pieces_by (cuts_of_count (length c.args.vars.now)) c.args.vars.now c.args.rhs c.args.next (cuts_reach (length c.args.vars.now))

pub returns-clause-distinct : goal.returns-clause-distinct
returns-clause-distinct c =
    ap (λ (z : List Piece). list_all (λ p. are_different p.vars) z) (value c) ∙ different-pieces_by (cuts_of_count (length c.args.vars.now)) c.args.vars.now c.args.rhs c.args.next c.requires.different c.requires.below

pub returns-clause-enough : goal.returns-clause-enough
returns-clause-enough c = λ w e. pieces_enough (cuts_of_count (length c.args.vars.now)) c.args.vars.now c.args.rhs c.args.next w (sym (ap (λ (z : List Piece). are_satisfied w z) (value c)) ∙ e)

pub returns-clause-once : goal.returns-clause-once
returns-clause-once c =
    λ w e. subst (λ (z : List Piece). ExtendsOnce c.args.next (cuts_of_count (length c.args.vars.now)) z w) (sym (value c)) (pieces_once (cuts_of_count (length c.args.vars.now)) c.args.vars.now c.args.rhs c.args.next w c.requires.below e)
